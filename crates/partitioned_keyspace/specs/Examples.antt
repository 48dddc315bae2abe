-- Lookups of document 01, "Edges to try", over first keys; letters are ASCII.
use Rattle.std.specs.Prelude.{ℕ, ◌≡◌, List, [], ◌∷◌}
use Rattle.std.proofs.Math.Option.{none, some}
use Rattle.key.specs.Order.{Key}
use Rattle.comparable_range.specs.Range.{Bound, unbounded, included, excluded, Range}
use Rattle.partitioned_keyspace.specs.Partitions.{Places, passes_test, partition_point, first_partition_including_key, first_partition_including_or_after_key, last_partition_including_key, partitions_covering_range}
use Rattle.partitioned_keyspace.specs.declared.Test.TheVariants.{Below, AtOrBelow}

abbrev a : Key
a = 97 ∷ []

abbrev b : Key
b = 98 ∷ []

abbrev c : Key
c = 99 ∷ []

abbrev d : Key
d = 100 ∷ []

abbrev abbd : List Key
abbd = a ∷ b ∷ b ∷ d ∷ []

abbrev from : ℕ → ℕ → Places
from s e = record { start = s; end = e }

abbrev range : Bound → Bound → Range
range s e = record { start = s; end = e }

-- first keys a, b, b, d
pub record FirstKeysABBD : Type 0 where
  pub point_b : partitions_covering_range abbd (range (included b) (included b)) ≡ from 0 3
  pub up_to_b : partitions_covering_range abbd (range unbounded (excluded b)) ≡ from 0 2
  pub below_b : partition_point (passes_test Below b) abbd ≡ 1
  pub at_or_below_b : partition_point (passes_test AtOrBelow b) abbd ≡ 3
  pub first_b : first_partition_including_key abbd b ≡ some 0
  pub last_b : last_partition_including_key abbd b ≡ some 2
  pub first_c : first_partition_including_key abbd c ≡ some 2

-- first key b
pub record FirstKeyB : Type 0 where
  pub point_a : partitions_covering_range (b ∷ []) (range (included a) (included a)) ≡ from 0 0
  pub first_a : first_partition_including_key (b ∷ []) a ≡ none
  pub or_after_a : first_partition_including_or_after_key (b ∷ []) a ≡ 0
  pub last_a : last_partition_including_key (b ∷ []) a ≡ none
