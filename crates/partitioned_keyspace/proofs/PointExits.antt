-- The exit of `is_point`: two slices are the same where the order of the two keys says so.
-- Assumes nothing.
use mathlib.Core.Path.{◌≡◌, refl}
use mathlib.Core.Bool.{Bool, true, false}
use Rattle.key.specs.Order.{Key}
use Rattle.comparable_range.specs.declared.Kind.{Kind}
use Rattle.comparable_range.specs.declared.Kind.TheVariants.{Included}
use Rattle.std.proofs.Common.{nat_eq}
use Rattle.std.specs.Cmp.Lexicographic.{pointwise, same_text, other_text}
use Rattle.key.proofs.Linear.{key_self}
use Rattle.partitioned_keyspace.specs.Partitions.{key_equal}
use Rattle.partitioned_keyspace.specs.KeyPoints.{is_point}
use Rattle.partitioned_keyspace.proofs.KeyTests.{equal_same}

-- ---- is_point: the test of two slices, and the order
same_key : (a b : Key) (r : Bool) → r ≡ pointwise nat_eq a b → r ≡ key_equal a b
same_key a b true h = rw (same_text a b h, key_self b)
same_key a b false h = go (key_equal a b) refl
  where
    go : (t : Bool) → key_equal a b ≡ t → false ≡ t
    go true w = absurd (other_text a b h (equal_same a b w))
    go false w = refl

pub is_one : (s e : Key) {ks ke : Kind} {r : Bool} → ks ≡ Included → ke ≡ Included → r ≡ pointwise nat_eq s e → r ≡ is_point ks s ke e
is_one s e {r = r} p q f = rw (p, q) (same_key s e r f)
