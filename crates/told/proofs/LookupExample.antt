-- The examples of lookups in bytes, computed.
-- Assumes nothing.
use mathlib.Core.Path.{refl}
use Rattle.key.specs.Order.{cmp_key, cmp_number}
use Rattle.key.specs.Word.{digits}
use Rattle.comparable_range.specs.Range.{cmp_bound, bounds_pass, start_side, end_side, intersect_sides}
use Rattle.format.specs.Number.{read_number}
use Rattle.format.specs.Key.{read_bytes, read_key}
use Rattle.format.specs.Range.{head_of, read_bound, read_range}
use Rattle.format.specs.Whole.{whole, key_given}
use Rattle.records.specs.Form.{read_if, read_many}
use Rattle.records.specs.Layouts.{flag_of, count_of, view_count_of, table, view, run, image, block, index}
use Rattle.manifest.specs.Ranges.{effective}
use Rattle.manifest.specs.Checks.{all, visible_passes, keys_in_order, table_passes, ascend_from, has, distinct, size_passes, image_checks, index_checks}
use Rattle.partitioned_keyspace.specs.Partitions.{partition_point, starts_with, first_partition_including_key, first_partition_including_or_after_key, last_partition_including_key, partitions_covering_bounds, partitions_covering_range}
use Rattle.partitioned_keyspace.specs.Asked.{asked_checks, index_and_key, index_and_range}
use Rattle.partitioned_keyspace.specs.Calls.{partition_point_outcome, first_partition_including_key_outcome, last_partition_including_key_outcome, partitions_covering_range_outcome}
use Rattle.db_state.specs.Places.{at}
use Rattle.db_state.specs.Lookup.{overlaps_range}
use Rattle.db_state.specs.LookupCalls.{image_and_range, overlaps_range_outcome}
use Rattle.told.specs.LookupExample.{CountIsTold, CountBelowIsTold, PartitionIsTold, NoPartitionIsTold, StopIsTold, PlacesAreTold, TestIsTold}

-- ---- in an index
pub count_is_told : CountIsTold
unfolding cmp_key cmp_number digits cmp_bound read_number read_bytes read_key whole key_given read_many block index ascend_from index_checks partition_point index_and_key partition_point_outcome
count_is_told = record { returns = refl; answered = refl }

pub count_below_is_told : CountBelowIsTold
unfolding cmp_key cmp_number digits cmp_bound read_number read_bytes read_key whole key_given read_many block index ascend_from index_checks partition_point index_and_key partition_point_outcome
count_below_is_told = record { returns = refl; answered = refl }

pub partition_is_told : PartitionIsTold
unfolding cmp_key cmp_number digits cmp_bound read_number read_bytes read_key whole key_given read_many block index ascend_from index_checks partition_point first_partition_including_key index_and_key first_partition_including_key_outcome
partition_is_told = record { returns = refl; flag = refl; answered = refl }

pub no_partition_is_told : NoPartitionIsTold
unfolding cmp_key cmp_number digits cmp_bound read_number read_bytes read_key whole key_given read_many block index ascend_from index_checks partition_point last_partition_including_key index_and_key last_partition_including_key_outcome
no_partition_is_told = record { returns = refl; flag = refl; answered = refl }

pub stop_is_told : StopIsTold
unfolding read_number whole index index_and_key first_partition_including_key_outcome
stop_is_told = record { returns = refl; flag = refl; answered = refl }

pub places_are_told : PlacesAreTold
unfolding cmp_key cmp_number digits cmp_bound bounds_pass read_number read_bytes read_key head_of read_bound read_range whole read_many block index ascend_from index_checks partition_point starts_with first_partition_including_key first_partition_including_or_after_key partitions_covering_bounds partitions_covering_range asked_checks index_and_range partitions_covering_range_outcome
places_are_told = record { returns = refl; from = refl; to = refl }

-- ---- in an image
pub test_is_told : TestIsTold
unfolding cmp_key cmp_number digits cmp_bound bounds_pass start_side end_side intersect_sides read_number read_bytes read_key head_of read_bound read_range whole read_if read_many flag_of count_of view_count_of table view run image effective all visible_passes keys_in_order table_passes ascend_from has distinct size_passes image_checks asked_checks at image_and_range overlaps_range overlaps_range_outcome
test_is_told = record { returns = refl; answered = refl }
