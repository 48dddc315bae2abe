-- Eight bytes of a key as one number.
use Rattle.std.specs.Prelude.{ℕ, ◌+◌, ◌*◌, ◌≤◌, ◌≡◌, Bool, true, List, [], ◌∷◌, length, take, drop}
use Rattle.base.specs.Bytes.{Bytes}

-- the number whose digits in base 256 are v's and then the list's
unfoldable pub digits : ℕ → List ℕ → ℕ
digits v [] = v
digits v (b ∷ l) = digits (v * 256 + b) l

-- r is the number of the eight bytes of a from i, most significant first
pub record WordAt (a : List ℕ) (i r : ℕ) : Type 0 where
  pub value : r ≡ digits 0 (take 8 (drop i a))
  pub bytes : Bytes a

-- the number whose digits in base 256 are the list's, least significant first
unfoldable pub reversed : List ℕ → ℕ
reversed [] = 0
reversed (b ∷ l) = reversed l * 256 + b

-- r is the number of the eight bytes of a from i, least significant first
pub record ReversedAt (a : List ℕ) (i r : ℕ) : Type 0 where
  pub value : r ≡ reversed (take 8 (drop i a))
  pub bytes : Bytes a

-- both keys are equal up to i
pub record Agree (a b : List ℕ) (i : ℕ) : Type 0 where
  pub below_a : i ≤ length a
  pub below_b : i ≤ length b
  pub front : take i a ≡ take i b

-- the same, if r says so
pub record Further (r : Bool) (a b : List ℕ) (i : ℕ) : Type 0 where
  pub agree : r ≡ true → Agree a b i
