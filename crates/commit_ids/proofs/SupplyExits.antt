-- The supply as draws of ten bytes, and what the loop of `draw` keeps.
-- Assumes nothing.
use Prim.Native.Nat.{ℕ, suc, ◌+◌, ◌-◌, ◌≤◌, ◌<◌, ◌/◌}
use native.Mathlib.Omega.{arith}
use mathlib.Core.Path.{◌≡◌, refl, sym, ap, ◌∙◌}
use mathlib.Core.Bool.{Bool, true, false, not}
use mathlib.Core.List.{List, [], ◌∷◌, ◌++◌}
use lib.ListN.{length, take, drop, length-drop, take-append-drop}
use lib.Seq.{drop-drop, take_all}
use lib.Dec.{eqb}
use lib.Pointwise.{pointwise, bytes_decides}
use Rattle.base.specs.Pick.{pick}
use Rattle.key.specs.Order.{cmp_key, is_equal}
use Rattle.std.specs.declared.cmp.Ordering.{Ordering}
use Rattle.std.specs.declared.cmp.Ordering.TheVariants.{Less, Equal, Greater}
use Rattle.key.proofs.Linear.{key_order_is_total, key_self, same_front}
use Rattle.records.specs.declared.ids.ViewId.{ViewId}
use Rattle.incremental_progress.specs.Draws.{Ten, tens, supply, got, is_old, draw}
use Rattle.std.specs.Prelude.{None, Some}
use Rattle.commit_ids.specs.Supply.{DrawFound}

-- ---- the supply
one_more_ten : (m n : ℕ) → m ≡ suc n → (l : List ℕ) → tens m l ≡ take 10 l ∷ tens n (drop 10 l)
unfolding tens
one_more_ten m n e l = rw e

pub next_ten : (l : List ℕ) → 10 ≤ length l → supply l ≡ take 10 l ∷ supply (drop 10 l)
unfolding supply
next_ten l h = rw length-drop (one_more_ten (length l / 10) ((length l - 10) / 10) (omega arith) l)

pub no_ten : (l : List ℕ) → length l < 10 → supply l ≡ []
unfolding supply tens
no_ten l h = let z : length l / 10 ≡ 0 = omega arith in rw z

-- ---- an id that begins with the same time is old if its last ten bytes are
old_tail : (id : ViewId) (ten : Ten) → is_old id ten ≡ is_equal (cmp_key ten (drop 6 id.0))
old_tail id ten =
    ap (λ l. is_equal (cmp_key (take 6 id.0 ++ ten) l)) (sym (take-append-drop 6 id.0)) ∙ ap is_equal (same_front (take 6 id.0) ten (drop 6 id.0))

-- equal bytes are equal keys
same_bytes : (a b : List ℕ) → pointwise eqb a b ≡ is_equal (cmp_key a b)
same_bytes a b = go (cmp_key a b) refl
  where
    other : (cmp_key a b ≡ Equal → ⊥) → (t : Bool) → t ≡ pointwise eqb a b → t ≡ false
    other n true e = absurd (n (let z : a ≡ b = (bytes_decides a b).0 (sym e) in rw z (key_self b)))
    other n false e = refl

    go : (o : Ordering) → cmp_key a b ≡ o → pointwise eqb a b ≡ is_equal (cmp_key a b)
    go Less e = rw e (other (λ f. cc) (pointwise eqb a b) refl)
    go Equal e = rw e ((bytes_decides a b).1 (key_order_is_total.equal a b e))
    go Greater e = rw e (other (λ f. cc) (pointwise eqb a b) refl)

on : (b : Bool) → not b ≡ false → b ≡ true
on true e = refl
on false e = sym e

off : (b : Bool) → not b ≡ true → b ≡ false
off true e = sym e
off false e = refl

-- ---- draw: what was passed over makes the old id
pub record Drawing (old : ViewId) (ids : List ℕ) (from at : ℕ) : Type 0 where
  pub full : length old.0 ≡ 16
  pub within : at ≤ length ids
  pub rest : draw old (supply (drop from ids)) ≡ draw old (supply (drop at ids))

module _ {old : ViewId} {ids : List ℕ} {from at : ℕ} (p : Drawing old ids from at) where
  pub drawing_used : length ids - at < 10 → DrawFound ids (draw old (supply (drop from ids))) None
  unfolding draw
  drawing_used h = record { meaning = sym (p.rest ∙ rw (no_ten (drop at ids) (rw length-drop h))); inside = tt }

  module _ (h : 10 ≤ length ids - at) where
    long : 10 ≤ length (drop at ids)
    long = rw length-drop h

    here :
        draw old (supply (drop from ids))
        ≡ pick (is_old old (take 10 (drop at ids))) (draw old (supply (drop (at + 10) ids))) (got (take 10 (drop at ids)) (supply (drop (at + 10) ids)))
    unfolding draw
    here = p.rest ∙ rw (next_ten (drop at ids) long, drop-drop)

    module _ {t : Bool} (ht : t ≡ not (pointwise eqb (take (at + 10 - at) (drop at ids)) (take (length old.0 - 6) (drop 6 old.0)))) where
      old_is : not (is_old old (take 10 (drop at ids))) ≡ t
      old_is =
          let z : at + 10 - at ≡ 10 = omega arith in
          let w : take (length old.0 - 6) (drop 6 old.0) ≡ drop 6 old.0 = take_all (length old.0 - 6) (drop 6 old.0) (rw length-drop (omega arith)) in
          ap not (old_tail old (take 10 (drop at ids))) ∙ rw (ht, z, w, same_bytes)

      pub drawing_again : t ≡ false → {to : ℕ} → to ≡ at + 10 → Drawing old ids from to
      drawing_again e z = rw z (record { full = p.full; within = omega arith; rest = here ∙ rw (on (is_old old (take 10 (drop at ids))) (old_is ∙ e)) })

      pub drawing_found : t ≡ true → DrawFound ids (draw old (supply (drop from ids))) (Some at)
      drawing_found e = record { meaning = sym (here ∙ rw (off (is_old old (take 10 (drop at ids))) (old_is ∙ e))); inside = omega arith }
