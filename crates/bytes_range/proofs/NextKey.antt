-- The next prefix byte by byte: the next prefix of b ∷ p is b and then the next prefix of p, if there is one, and else b
-- with one added, unless b is FF. So its laws go by induction on the prefix.
-- Assumes nothing.
use Prim.Native.Nat.{ℕ, zero, suc, ◌+◌, ◌≤◌}
use native.Mathlib.Omega.{arith}
use mathlib.Core.Path.{◌≡◌, refl, sym, ◌∙◌}
use mathlib.Core.Bool.{Bool, true, false}
use mathlib.Core.Option.{Option, none, some}
use mathlib.Core.List.{[], ◌∷◌, ◌++◌}
use lib.ListN.{length, get_or}
use lib.Dec.{eqb}
use borrow.Author.Tests.{eqb-false}
use Rattle.base.specs.Pick.{pick}
use Rattle.base.specs.Bytes.{Bytes, bytes_none, bytes_cons, bytes_tail}
use Rattle.key.specs.Order.{Key, cmp_key, cmp_number}
use Rattle.std.specs.declared.cmp.Ordering.TheVariants.{Less}
use Rattle.key.proofs.Linear.{cmp_self, number_linear, number_less}
use Rattle.bytes_range.specs.Prefix.{kept_of, raised, next_prefix}
use Rattle.bytes_range.specs.Laws.{NextPrefixAbove, NextPrefixIsNoLonger, NextPrefixIsBytes}

-- ---- a byte more in front
-- how many bytes are kept, from how many are without it
unfoldable kept_after : ℕ → ℕ → ℕ
kept_after b zero = pick (eqb b 255) 0 1
kept_after b (suc m) = suc (suc m)

kept_after_lem : (b : ℕ) (p : Key) (n : ℕ) → kept_of (b ∷ p) (suc n) ≡ kept_after b (kept_of p n)
unfolding kept_of kept_after
kept_after_lem b p zero = refl
kept_after_lem b p (suc n) = rw (kept_after_lem b p n) (go (eqb (get_or p n 0) 255))
  where
    go : (t : Bool) → pick t (kept_after b (kept_of p n)) (suc (suc n)) ≡ kept_after b (pick t (kept_of p n) (suc n))
    go true = refl
    go false = refl

-- the next prefix, from the next one without it
unfoldable pub next_after : ℕ → Option Key → Option Key
next_after b none = pick (eqb b 255) none (some ((b + 1) ∷ []))
next_after b (some q) = some (b ∷ q)

raised_after : (b : ℕ) (p : Key) (m : ℕ) → raised (b ∷ p) (kept_after b m) ≡ next_after b (raised p m)
unfolding raised kept_after next_after
raised_after b p zero = go (eqb b 255)
  where
    go : (t : Bool) → raised (b ∷ p) (pick t 0 1) ≡ pick t none (some ((b + 1) ∷ []))
    go true = refl
    go false = refl
raised_after b p (suc m) = refl

pub next_after_lem : (b : ℕ) (p : Key) → next_prefix (b ∷ p) ≡ next_after b (next_prefix p)
unfolding next_prefix
next_after_lem b p = rw (kept_after_lem b p (length p)) (raised_after b p (kept_of p (length p)))

pub no_next : next_prefix [] ≡ none
unfolding next_prefix raised kept_of
no_next = refl

-- ---- the laws
-- q is the next prefix of p: the bytes in front are the same, and one is added to the last that is not FF
data NextIs : Key → Key → Type 0 where
  last : {b : ℕ} {p : Key} → (b ≡ 255 → ⊥) → NextIs (b ∷ p) ((b + 1) ∷ [])
  front : {b : ℕ} {p q : Key} → NextIs p q → NextIs (b ∷ p) (b ∷ q)

next_is : (p q : Key) → next_prefix p ≡ some q → NextIs p q
unfolding next_after
next_is [] q e = absurd (let z : ◌≡◌ {A = ℕ} 0 1 = cc no_next in omega arith)
next_is (b ∷ p) q e = go (next_prefix p) (sym (next_after_lem b p) ∙ e) (λ t. next_is p t)
  where
    raise : (t : Bool) → eqb b 255 ≡ t → pick t none (some ((b + 1) ∷ [])) ≡ some q → NextIs (b ∷ p) q
    raise true w e = absurd (let z : ◌≡◌ {A = ℕ} 0 1 = cc in omega arith)
    raise false w e = let z : q ≡ (b + 1) ∷ [] = cc in rw z (last (eqb-false b 255 w))

    go : (o : Option Key) → next_after b o ≡ some q → ((t : Key) → o ≡ some t → NextIs p t) → NextIs (b ∷ p) q
    go none e ih = raise (eqb b 255) refl e
    go (some t) e ih = let z : q ≡ b ∷ t = cc in rw z (front (ih t refl))

above : {p q : Key} (s : Key) → NextIs p q → cmp_key (p ++ s) q ≡ Less
unfolding cmp_key
above s (last {b} u) = rw (number_less b (b + 1) (omega arith))
above s (front {b} n) = rw (cmp_self cmp_number number_linear b) (above s n)

pub next_prefix_above : NextPrefixAbove
next_prefix_above p s q e = above s (next_is p q e)

no_longer : {p q : Key} → NextIs p q → length q ≤ length p
no_longer (last u) = omega arith
no_longer (front n) = omega (arith, no_longer n)

pub next_prefix_is_no_longer : NextPrefixIsNoLonger
next_prefix_is_no_longer p q e = no_longer (next_is p q e)

bytes : {p q : Key} → Bytes p → NextIs p q → Bytes q
bytes h (last u) = bytes_cons (omega (arith, h.below 0, u)) bytes_none
bytes h (front n) = bytes_cons (h.below 0) (bytes (bytes_tail h) n)

pub next_prefix_is_bytes : NextPrefixIsBytes
next_prefix_is_bytes p q h e = bytes h (next_is p q e)
