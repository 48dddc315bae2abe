-- Each answer of a lookup that stands in slots, once, as a call for C tells it: of an index with the first keys b and d, and of
-- document 01's image. Every slot holds 7 before, or says true.
use Rattle.std.specs.Prelude.{ℕ, true, false, List, [], ◌∷◌}
use Rattle.partitioned_keyspace.specs.Calls.{partition_point_outcome, first_partition_including_key_outcome, last_partition_including_key_outcome, partitions_covering_range_outcome}
use Rattle.db_state.specs.LookupCalls.{overlaps_range_outcome}
use Rattle.bilqarush.specs.Example.{example_image}
use Rattle.told.specs.Told.{from_to, SlotTold, OptionTold}
use Rattle.told.specs.Lookups.{test_given, CoveredTold}

-- ---- an index: two blocks, each an offset of 8 bytes and a key
abbrev pub b_and_d : List ℕ
b_and_d = 0 ∷ 2 ∷ 0 ∷ 0 ∷ 0 ∷ 0 ∷ 0 ∷ 0 ∷ 0 ∷ 0 ∷ 0 ∷ 1 ∷ 98 ∷ 0 ∷ 0 ∷ 0 ∷ 0 ∷ 0 ∷ 0 ∷ 0 ∷ 9 ∷ 0 ∷ 1 ∷ 100 ∷ []

-- both first keys are at or below d, and one is below it
abbrev pub CountIsTold : Type 0
CountIsTold = SlotTold (partition_point_outcome b_and_d (test_given true) (100 ∷ [])) (from_to 7 2) 0

abbrev pub CountBelowIsTold : Type 0
CountBelowIsTold = SlotTold (partition_point_outcome b_and_d (test_given false) (100 ∷ [])) (from_to 7 1) 0

-- c may be in the partition that starts with b
abbrev pub PartitionIsTold : Type 0
PartitionIsTold = OptionTold (first_partition_including_key_outcome b_and_d (99 ∷ [])) (from_to true true) (from_to 7 0) 0

-- a is in none: its place is left as it was
abbrev pub NoPartitionIsTold : Type 0
NoPartitionIsTold = OptionTold (last_partition_including_key_outcome b_and_d (97 ∷ [])) (from_to true false) (from_to 7 7) 0

-- no index at all: stop 1, and both slots are left
abbrev pub StopIsTold : Type 0
StopIsTold = OptionTold (first_partition_including_key_outcome [] (97 ∷ [])) (from_to true true) (from_to 7 7) 1

-- from c on: both partitions
abbrev pub from_c : List ℕ
from_c = 64 ∷ 0 ∷ 1 ∷ 99 ∷ []

abbrev pub PlacesAreTold : Type 0
PlacesAreTold = CoveredTold (partitions_covering_range_outcome b_and_d from_c) (from_to 7 0) (from_to 7 2) 0

-- ---- document 01's image
abbrev pub TestIsTold : Type 0
TestIsTold = SlotTold (overlaps_range_outcome example_image 0 (16 ∷ 0 ∷ 1 ∷ 65 ∷ [])) (from_to true false) 0
