-- A supply that is enough for a commit: for each id to draw ten bytes that do not make the old id.
-- Assumes nothing.
use Prim.Native.Nat.{ℕ, ◌*◌, ◌/◌, ◌<◌}
use native.Mathlib.Omega.{arith}
use mathlib.Core.Path.{◌≡◌, refl, sym, ap, ◌∙◌}
use mathlib.Core.Bool.{Bool, true, false}
use mathlib.Core.List.{List, [], ◌∷◌, ◌++◌, flat_map, flatten, append_assoc, append-nil}
use lib.ListN.{length, take, drop, length-append}
use lib.Seq.{take_at, drop_at}
use Rattle.base.specs.Bytes.{Bytes, bytes_none, bytes_cons, bytes_append}
use Rattle.records.specs.Values.{View, Run, Image, Job}
use Rattle.records.specs.declared.ids.ViewId.{ViewId}
use Rattle.incremental_progress.specs.Views.{start}
use Rattle.incremental_progress.specs.Jobs.{left_entries, with_outputs}
use Rattle.incremental_progress.specs.Draws.{Ten, tens, supply, Drawn, got, next, is_old, draw, drawn_view, fill, fill_all, fill_views, fill_runs, fill_commit}
use Rattle.incremental_progress.specs.Entries.{Entry, whole, cut, part_entries}
use Rattle.base.specs.Lists.{All, All-append}
use Rattle.incremental_progress.proofs.Drawing.{IsTen}
use Rattle.incremental_progress.proofs.DrawnIds.{old_is}

-- ten bytes
record TenBytes (ten : Ten) : Type 0 where
  long : IsTen ten
  of_bytes : Bytes ten

-- draws that give a value and use up just these
record Enough {A : Type 0} (d : List Ten → Drawn A) : Type 0 where
  drawn : List Ten
  are : All TenBytes drawn
  value : A
  gives : (t : List Ten) → d (drawn ++ t) ≡ got value t

at_once : {A : Type 0} (a : A) → Enough (λ s. got a s)
at_once a = record { drawn = []; are = tt; value = a; gives = λ t. refl }

one_next : {A B : Type 0} (d : List Ten → Drawn A) (f : A → List Ten → Drawn B) → Enough d → ((a : A) → Enough (f a)) → Enough (λ s. next (d s) f)
one_next d f e g =
    let h = g e.value in
    record {
      drawn = e.drawn ++ h.drawn;
      are = All-append TenBytes e.drawn h.drawn e.are h.are;
      value = h.value;
      gives = λ t. rw (append_assoc e.drawn h.drawn t, e.gives (h.drawn ++ t)) (h.gives t);
    }

-- ---- an id: of two different tens one does not make the old id
abbrev same : ℕ → Ten
same b = b ∷ b ∷ b ∷ b ∷ b ∷ b ∷ b ∷ b ∷ b ∷ b ∷ []

ten_bytes : (b : ℕ) → b < 256 → TenBytes (same b)
ten_bytes b h = record { long = refl; of_bytes = c (c (c (c (c (c (c (c (c (c bytes_none))))))))) }
  where
    c : {l : List ℕ} → Bytes l → Bytes (b ∷ l)
    c x = bytes_cons h x

not_both : (p l : List ℕ) → p ++ same 0 ≡ l → p ++ same 1 ≡ l → ⊥
not_both p l e f =
    let g = drop_at p (same 0) (length p) refl in
    let h = drop_at p (same 1) (length p) refl in
    let z : ◌≡◌ {A = ℕ} 0 1 = cc (ap (drop (length p)) e, ap (drop (length p)) f) in
    omega arith

other_new : (id : ViewId) → is_old id (same 0) ≡ true → is_old id (same 1) ≡ false
other_new id e = go (is_old id (same 1)) refl
  where
    go : (b : Bool) → is_old id (same 1) ≡ b → b ≡ false
    go true f = absurd (not_both (take 6 id.0) id.0 (ap (λ (i : ViewId). i.0) (old_is id (same 0) e)) (ap (λ (i : ViewId). i.0) (old_is id (same 1) f)))
    go false f = refl

draws : (id : ViewId) (ten : Ten) → TenBytes ten → is_old id ten ≡ false → Enough (draw id)
unfolding draw
draws id ten b e = record { drawn = ten ∷ []; are = (b, tt); value = ten; gives = λ t. rw e }

enough_draw : (id : ViewId) → Enough (draw id)
enough_draw id = go (is_old id (same 0)) refl
  where
    go : (b : Bool) → is_old id (same 0) ≡ b → Enough (draw id)
    go true e = draws id (same 1) (ten_bytes 1 (omega arith)) (other_new id e)
    go false e = draws id (same 0) (ten_bytes 0 (omega arith)) e

-- ---- the commit
enough_fill : (e : Entry) → Enough (fill e)
enough_fill (whole v) = at_once v
enough_fill (cut v r) = one_next (draw v.id) (λ ten s. got (drawn_view v r ten) s) (enough_draw v.id) (λ ten. at_once (drawn_view v r ten))

enough_all : (es : List Entry) → Enough (fill_all es)
unfolding fill_all
enough_all [] = at_once []
enough_all (e ∷ es) =
    one_next (fill e) _ (enough_fill e) (λ v. one_next (fill_all es) (λ vs s. got (v ∷ vs) s) (enough_all es) (λ vs. at_once (v ∷ vs)))

module _ (j : Job) (outs : List View) where
  enough_views : (n : ℕ) (vs : List View) → Enough (fill_views j outs n vs)
  unfolding fill_views
  enough_views n vs =
      one_next (fill_all (left_entries j n vs)) (λ ws s. got (with_outputs start j n ws outs) s) (enough_all (left_entries j n vs)) (λ ws. at_once (with_outputs start j n ws outs))

  enough_runs : (rs : List Run) → Enough (fill_runs j outs rs)
  unfolding fill_runs
  enough_runs [] = at_once []
  enough_runs (r ∷ rs) =
      one_next (fill_views j outs r.id r.views) _ (enough_views r.id r.views)
      (λ vs. one_next (fill_runs j outs rs) (λ new s. got (record { id = r.id; views = vs } ∷ new) s) (enough_runs rs) (λ new. at_once (record { id = r.id; views = vs } ∷ new)))

enough_commit : (j : Job) (i : Image) → Enough (fill_commit j i)
unfolding fill_commit
enough_commit j i = one_next (fill_all (flat_map part_entries j.parts)) _ (enough_all (flat_map part_entries j.parts)) (λ outs. enough_runs j outs i)

-- ---- the supply as bytes
flat_length : (ts : List Ten) → All TenBytes ts → length (flatten ts) ≡ 10 * length ts
unfolding flatten
flat_length [] a = refl
flat_length (t ∷ ts) a = rw (length-append, a.0.long, flat_length ts a.1) (omega arith)

flat_tens : (ts : List Ten) → All TenBytes ts → tens (length ts) (flatten ts) ≡ ts
unfolding flatten tens
flat_tens [] a = refl
flat_tens (t ∷ ts) a = rw (take_at t (flatten ts) 10 a.0.long, drop_at t (flatten ts) 10 a.0.long, flat_tens ts a.1)

flat_supply : (ts : List Ten) → All TenBytes ts → supply (flatten ts) ≡ ts
unfolding supply
flat_supply ts a =
    let e = flat_length ts a in
    let n : length (flatten ts) / 10 ≡ length ts = omega arith in
    rw n (flat_tens ts a)

flat_bytes : (ts : List Ten) → All TenBytes ts → Bytes (flatten ts)
unfolding flatten
flat_bytes [] a = bytes_none
flat_bytes (t ∷ ts) a = bytes_append t (flatten ts) a.0.of_bytes (flat_bytes ts a.1)

-- Some supply is enough.
pub record EnoughFor (j : Job) (i : Image) : Type 0 where
  pub ids : List ℕ
  pub ids_bytes : Bytes ids
  pub new : Image
  pub drawn : fill_commit j i (supply ids) ≡ got new []

pub enough_for : (j : Job) (i : Image) → EnoughFor j i
enough_for j i =
    let e = enough_commit j i in
    record {
      ids = flatten e.drawn;
      ids_bytes = flat_bytes e.drawn e.are;
      new = e.value;
      drawn = ap (fill_commit j i) (flat_supply e.drawn e.are ∙ sym (append-nil e.drawn)) ∙ e.gives [];
    }
