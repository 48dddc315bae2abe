-- The order of keys. A key is a list of bytes.
use Prim.Native.Nat.{ℕ, compare, Ordering as NatOrdering}
use Rattle.std.specs.Prelude.{Bool, true, false, List, [], ◌∷◌, ℤ, pos, negsuc}
use Rattle.std.specs.Ordering.{is_lt, is_eq, is_le, ordering_then}
use Rattle.std.specs.declared.cmp.Ordering.{Ordering}
use Rattle.std.specs.declared.cmp.Ordering.TheVariants.{Less, Equal, Greater}

abbrev pub Key : Type 0
Key = List ℕ

-- the number that a call answers for an order
abbrev pub sign : Ordering → ℤ
sign Less = negsuc 0
sign Equal = pos 0
sign Greater = pos 1

-- the order with the arguments exchanged
abbrev pub swap : Ordering → Ordering
swap Less = Greater
swap Equal = Equal
swap Greater = Less

-- the first order decides unless it is equal
abbrev pub or_else : Ordering → Ordering → Ordering
or_else o p = ordering_then o p

abbrev pub at_most : Ordering → Bool
at_most o = is_le o

abbrev of_ordering : NatOrdering → Ordering
of_ordering NatOrdering.lt = Less
of_ordering NatOrdering.eq = Equal
of_ordering NatOrdering.gt = Greater

-- the order of two numbers, by the library's `compare`
unfoldable pub cmp_number : ℕ → ℕ → Ordering
cmp_number x y = of_ordering (compare x y)

-- the first unequal byte decides, and a proper prefix comes first
unfoldable pub cmp_key : Key → Key → Ordering
cmp_key [] [] = Equal
cmp_key [] (y ∷ b) = Less
cmp_key (x ∷ a) [] = Greater
cmp_key (x ∷ a) (y ∷ b) = or_else (cmp_number x y) (cmp_key a b)

abbrev pub is_less : Ordering → Bool
is_less o = is_lt o

abbrev pub is_equal : Ordering → Bool
is_equal o = is_eq o

-- tests of two keys
abbrev pub key_at_most : Key → Key → Bool
key_at_most a b = at_most (cmp_key a b)

abbrev pub key_below : Key → Key → Bool
key_below a b = is_less (cmp_key a b)
