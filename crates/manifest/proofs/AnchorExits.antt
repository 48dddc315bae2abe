-- A total that stops at a limit; the total of anchors, some after others; and the exits of `added`.
-- Assumes nothing.
use Prim.Native.Nat.{ℕ, ◌+◌, ◌-◌, ◌^◌, ◌≤◌, ◌<◌, min}
use native.Mathlib.Omega.{arith}
use mathlib.Core.Path.{◌≡◌, refl, ◌∙◌, ap}
use mathlib.Core.Bool.{Bool, true, false}
use mathlib.Core.List.{[], ◌∷◌, ◌++◌}
use lib.Dec.{ltb}
use borrow.Author.Tests.{le-ltb, ltb-true, ltb-false}
use Rattle.base.specs.Pick.{pick}
use Rattle.records.specs.Values.{Anchor, Anchors}
use Rattle.manifest.specs.Checks.{total}
use Rattle.manifest.specs.Faults.{least}
use Rattle.manifest.proofs.Steps.{min_is_least}

-- ---- a total that stops at a limit
module _ (limit t : ℕ) where
  pub by_test : (P : ℕ → Type 0) → (t < limit → P t) → (limit ≤ t → P limit) → P (least t limit)
  unfolding least
  by_test P below reached = go (ltb t limit) refl
    where
      go : (b : Bool) → ltb t limit ≡ b → P (pick b t limit)
      go true e = below (ltb-true t limit e)
      go false e = reached (ltb-false t limit e)

  pub least_most : least t limit ≤ limit
  least_most = by_test (λ x. x ≤ limit) (λ h. omega arith) (λ h. omega arith)

  -- one that is below the limit is the total
  pub least_exact : least t limit < limit → least t limit ≡ t
  least_exact = by_test (λ x. x < limit → x ≡ t) (λ h k. refl) (λ h k. absurd (omega arith))

  pub least_reached : limit ≤ least t limit → limit ≤ t
  least_reached = by_test (λ x. limit ≤ x → limit ≤ t) (λ h k. absurd (omega arith)) (λ h k. h)

  pub least_added : (b : ℕ) → least (least t limit + b) limit ≡ least (t + b) limit
  unfolding least
  least_added b =
      by_test (λ x. least (x + b) limit ≡ least (t + b) limit) (λ h. refl)
      (λ h. rw (le-ltb (limit + b) limit (omega arith), le-ltb (t + b) limit (omega arith)))

-- ---- the total of anchors
pub total_append : (a b : Anchors) → total (a ++ b) ≡ total a + total b
unfolding total
total_append [] b = omega arith
total_append (x ∷ a) b = rw (total_append a b) (omega arith)

pub total_more : (seen : Anchors) (a : Anchor) → total (seen ++ (a ∷ [])) ≡ total seen + a.bytes
unfolding total
total_more seen a = let e : a.bytes + 0 ≡ a.bytes = omega arith in total_append seen (a ∷ []) ∙ ap (λ n. total seen + n) e

-- ---- added
pub total_held : {m : ℕ} (t b : ℕ) → t ≤ 2 ^ 63 → m ≡ min b (2 ^ 63 - t) → t + m ≡ least (t + b) (2 ^ 63)
total_held t b h e = omega (arith, min_is_least (t + b) (2 ^ 63))
