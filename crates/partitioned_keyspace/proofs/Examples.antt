-- The lookups of document 01's edges, computed.
-- Assumes nothing.
use mathlib.Core.Path.{refl}
use Rattle.key.specs.Order.{cmp_key, cmp_number}
use Rattle.partitioned_keyspace.specs.Partitions.{partition_point, starts_with, first_partition_including_key, first_partition_including_or_after_key, last_partition_including_key, step_back, partitions_covering_key, partitions_covering_bounds, partitions_covering_range}
use Rattle.partitioned_keyspace.specs.Examples.{FirstKeysABBD, FirstKeyB}

pub first_keys_abbd : FirstKeysABBD
unfolding partitions_covering_range partitions_covering_key partitions_covering_bounds step_back first_partition_including_key first_partition_including_or_after_key last_partition_including_key partition_point starts_with cmp_key cmp_number
first_keys_abbd =
    record { point_b = refl; up_to_b = refl; below_b = refl; at_or_below_b = refl; first_b = refl; last_b = refl; first_c = refl }

pub first_key_b : FirstKeyB
unfolding partitions_covering_range partitions_covering_key partitions_covering_bounds step_back first_partition_including_key first_partition_including_or_after_key last_partition_including_key partition_point starts_with cmp_key cmp_number
first_key_b = record { point_a = refl; first_a = refl; or_after_a = refl; last_a = refl }
