-- Exchanging its arguments negates what a comparison answers, and it is refused alike. Document 01, "Ranges".
use Rattle.std.specs.Prelude.{ℕ, ◌≡◌, Bool, true, false, List, ℤ, neg_ℤ}
use Rattle.base.specs.Outcome.{Outcome, stop, answer}
use Rattle.format.specs.Whole.{key_given}
use Rattle.format.specs.Given.{bound_given}
use Rattle.bilqarush.specs.Calls.{compare_outcome, cmp_bound_outcome}

abbrev pub is_refused : {A : Type 0} → Outcome A → Bool
is_refused (stop n) = true
is_refused (answer a) = false

-- The outcomes in one order of the arguments and in the other, where the first argument is given as `first` and the
-- second as `second`.
pub record Exchanged {A : Type 0} (first second : Outcome A) (there back : Outcome ℤ) : Type 0 where
  -- an answer is negated
  pub negates : (z : ℤ) → there ≡ answer z → back ≡ answer (neg_ℤ z)
  -- either both orders are refused or none is
  pub alike : is_refused there ≡ is_refused back
  -- none is, if neither argument is refused
  pub answers : (a b : A) → first ≡ answer a → second ≡ answer b → is_refused there ≡ false
  -- if one is, both orders tell its number
  pub one : (n : ℕ) (b : A) → first ≡ stop n → second ≡ answer b → (there ≡ stop n) × (back ≡ stop n)
  -- if both are, each order tells the number of the one that it is given first
  pub both : (m n : ℕ) → first ≡ stop m → second ≡ stop n → (there ≡ stop m) × (back ≡ stop n)

abbrev pub CompareExchanged : Type 0
CompareExchanged = (a b : List ℕ) → Exchanged (key_given a) (key_given b) (compare_outcome a b) (compare_outcome b a)

abbrev pub CmpBoundExchanged : Type 0
CmpBoundExchanged =
    (ka : ℕ) (a : List ℕ) (kb : ℕ) (b : List ℕ) (start : Bool)
    → Exchanged (bound_given ka a) (bound_given kb b) (cmp_bound_outcome ka a kb b start) (cmp_bound_outcome kb b ka a start)
