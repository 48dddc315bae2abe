-- The promises on the order of keys. Their proofs are in proofs/Linear.antt.
use Rattle.std.specs.Prelude.{ℕ, ◌<◌, ◌≡◌, List, ◌∷◌, ◌++◌}
use Rattle.key.specs.Order.{Key, cmp_key, swap}
use Rattle.std.specs.declared.cmp.Ordering.{Ordering}
use Rattle.std.specs.declared.cmp.Ordering.TheVariants.{Less, Equal}

-- A comparison is a total order whose ties are equalities: exchange turns the answer round, equal answers mean equal
-- values, and less is transitive.
pub record Linear {A : Type 0} (cmp : A → A → Ordering) : Type 0 where
  pub swaps : (a b : A) → cmp b a ≡ swap (cmp a b)
  pub equal : (a b : A) → cmp a b ≡ Equal → a ≡ b
  pub trans : (a b c : A) → cmp a b ≡ Less → cmp b c ≡ Less → cmp a c ≡ Less

abbrev pub KeyOrderIsTotal : Type 0
KeyOrderIsTotal = Linear cmp_key

-- The first unequal byte decides, whatever follows it: keys are not ordered by their lengths.
abbrev pub FirstUnequalByteDecides : Type 0
FirstUnequalByteDecides = (front : Key) (x y : ℕ) (a b : List ℕ) → x < y → cmp_key (front ++ x ∷ a) (front ++ y ∷ b) ≡ Less

abbrev pub ProperPrefixComesFirst : Type 0
ProperPrefixComesFirst = (a : Key) (x : ℕ) (b : List ℕ) → cmp_key a (a ++ x ∷ b) ≡ Less
