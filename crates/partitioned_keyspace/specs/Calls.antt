-- The outcome of each lookup in an index image, and what the calls' answers say.
use Rattle.std.specs.Prelude.{ℕ, List}
use Rattle.std.proofs.Math.Option.{Option, none, some}
use Rattle.base.specs.Outcome.{Outcome, stop, answer, and_then}
use Rattle.comparable_range.specs.Range.{Range}
use Rattle.format.specs.Whole.{whole}
use Rattle.records.specs.Layouts.{index}
use Rattle.manifest.specs.Checks.{checked, joined, index_checks}
use Rattle.partitioned_keyspace.specs.Partitions.{Places, first_keys, passes_test, partition_point, first_partition_including_key, first_partition_including_or_after_key, last_partition_including_key, partitions_covering_range}
use Rattle.partitioned_keyspace.specs.Asked.{asked_checks, index_and_key, index_and_range}
use Rattle.partitioned_keyspace.specs.declared.Test.{Test}
use Rattle.partitioned_keyspace.specs.declared.Counted.{Counted}
use Rattle.partitioned_keyspace.specs.declared.Counted.TheVariants.{Is, Stop as CountedStop}
use Rattle.partitioned_keyspace.specs.declared.Found.{Found}
use Rattle.partitioned_keyspace.specs.declared.Found.TheVariants.{At, Nothing, Stop as FoundStop}
use Rattle.partitioned_keyspace.specs.declared.Covered.{Covered}
use Rattle.partitioned_keyspace.specs.declared.Covered.TheVariants.{Places as CoveredPlaces, Stop as CoveredStop}

unfoldable pub partition_point_outcome : List ℕ → Test → List ℕ → Outcome ℕ
partition_point_outcome l test k =
    and_then (index_and_key l k) (λ a. answer (partition_point (passes_test test a.key) a.partitions))

unfoldable pub first_partition_including_key_outcome : List ℕ → List ℕ → Outcome (Option ℕ)
first_partition_including_key_outcome l k =
    and_then (index_and_key l k) (λ a. answer (first_partition_including_key a.partitions a.key))

unfoldable pub first_partition_including_or_after_key_outcome : List ℕ → List ℕ → Outcome ℕ
first_partition_including_or_after_key_outcome l k =
    and_then (index_and_key l k) (λ a. answer (first_partition_including_or_after_key a.partitions a.key))

unfoldable pub last_partition_including_key_outcome : List ℕ → List ℕ → Outcome (Option ℕ)
last_partition_including_key_outcome l k =
    and_then (index_and_key l k) (λ a. answer (last_partition_including_key a.partitions a.key))

unfoldable pub partitions_covering_range_outcome : List ℕ → List ℕ → Outcome Places
partitions_covering_range_outcome l q =
    and_then (index_and_range l q) (λ a. answer (partitions_covering_range a.partitions a.range))

-- the same for a range that was read
unfoldable pub covering_in : List ℕ → Range → Outcome Places
covering_in l r =
    and_then (whole index.read l) (λ x. checked (joined (index_checks x) (asked_checks r)) (answer (partitions_covering_range (first_keys x) r)))

-- ---- the answers
abbrev pub count_of : Counted → Outcome ℕ
count_of (Is n) = answer n
count_of (CountedStop n) = stop n

abbrev pub found_of : Found → Outcome (Option ℕ)
found_of (At p) = answer (some p)
found_of Nothing = answer none
found_of (FoundStop n) = stop n

abbrev pub covered_of : Covered → Outcome Places
covered_of (CoveredPlaces s e) = answer (record { start = s; end = e })
covered_of (CoveredStop n) = stop n
