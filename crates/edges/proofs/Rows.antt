-- The rows hold by computing both sides.
-- Assumes nothing.
use mathlib.Core.Path.{refl}
use mathlib.Core.List.{flat_map}
use lib.Count.{count_trailing_zeros}
use lib.Ieee.{of_bits, of_fields, of_int, to_unsigned, add, sum, sub, neg, mul, div, lt, eq, round, size, span, climb, units, odd}
use Rattle.key.specs.Order.{cmp_number, cmp_key}
use Rattle.comparable_range.specs.Range.{cmp_bound, cmp_range, bounds_pass, start_holds, end_holds, holds, start_side, end_side, intersect_sides}
use Rattle.comparable_range.specs.Cut.{cmp_cut, cut_at_most}
use Rattle.comparable_range.specs.Laws.{keyless_bounds}
use Rattle.comparable_range.proofs.Keyless.{keyless_pass_and_hold_none}
use Rattle.key.specs.Word.{digits}
use Rattle.format.specs.Number.{read_number, write_number}
use Rattle.format.specs.Key.{read_bytes, read_key, write_key}
use Rattle.format.specs.Range.{head_of, read_bound, write_bound, read_range, write_range}
use Rattle.format.specs.Whole.{whole, key_given}
use Rattle.records.specs.Form.{read_if, write_if, read_many, write_many}
use Rattle.records.specs.Layouts.{flag_of, count_of, view_count_of, outputs_of, table, view, run, image, part, job, block, index, anchor, anchors, plan}
use Rattle.manifest.specs.Ranges.{effective}
use Rattle.manifest.specs.Checks.{all, visible_passes, keys_in_order, table_passes, ascend_from, has, distinct, size_passes, total, image_checks, job_checks, index_checks, anchors_checks, image_given}
use Rattle.db_state.specs.Places.{at, view_at, view_given}
use Rattle.visible_size.specs.Steps.{scale, with_bytes, key_fraction, common_prefix_len, range_len, lengths_fraction, same_range, ranges_fraction, round_half_away, visible_size}
use Rattle.visible_size.specs.Sizes.{visible_fraction, estimate_visible_size}
use Rattle.view_sizes.specs.SizeCalls.{estimate_visible_size_outcome}
use Rattle.partitioned_keyspace.specs.Partitions.{partition_point, starts_with, first_partition_including_key, first_partition_including_or_after_key, last_partition_including_key, step_back, partitions_covering_key, partitions_covering_bounds, partitions_covering_range}
use Rattle.partitioned_keyspace.specs.Asked.{asked_checks, index_and_range}
use Rattle.partitioned_keyspace.specs.Calls.{partitions_covering_range_outcome}
use Rattle.base.specs.Sort.{insert, sort}
use Rattle.subcompaction.specs.Boundaries.{target, unsplit, prepared, boundaries_from, boundaries, chosen, ranges_from, select_boundaries}
use Rattle.subcompaction.specs.PlanCalls.{anchors_given, select_boundaries_outcome}
use Rattle.bytes_range.specs.Prefix.{kept_of, raised, next_prefix, from_prefix}
use Rattle.incremental_progress.specs.Intervals.{part_before, part_from, subtract_from}
use Rattle.incremental_progress.specs.Parts.{last_written, is_key, up_to_key, durable, intervals}
use Rattle.incremental_progress.specs.Checks.{destination_is_source, planned_from, planned_in_order, outputs_from, outputs_inside, outputs_in_order}
use Rattle.from_compaction.specs.ProgressCalls.{from_compaction, progressed, progress_made, from_compaction_outcome}
use Rattle.subtract_from.specs.SubtractCalls.{subtracted, subtracted_given, subtract_from_outcome}
use Rattle.format.specs.Given.{bound_given}
use Rattle.bilqarush.specs.Calls.{cmp_bound_outcome, non_empty_outcome, contains_outcome, from_prefix_outcome}
use Rattle.edges.specs.Edges.{edges, EdgesHold, NothingBetween}

pub edges_hold : EdgesHold
unfolding edges cmp_cut cut_at_most outputs_of part job job_checks intervals destination_is_source planned_from planned_in_order outputs_from outputs_inside outputs_in_order from_compaction progressed progress_made from_compaction_outcome subtracted subtracted_given subtract_from_outcome flat_map anchor anchors plan total anchors_checks insert sort target unsplit prepared boundaries_from boundaries chosen ranges_from select_boundaries anchors_given select_boundaries_outcome read_if write_if flag_of count_of view_count_of table view run image effective all visible_passes keys_in_order table_passes has distinct size_passes image_checks image_given at view_at view_given estimate_visible_size_outcome visible_fraction estimate_visible_size scale with_bytes key_fraction common_prefix_len range_len lengths_fraction same_range ranges_fraction round_half_away visible_size add sum sub neg mul div lt eq round size span climb units odd of_int to_unsigned of_bits of_fields count_trailing_zeros cmp_range cmp_number cmp_key cmp_bound bounds_pass start_holds end_holds holds keyless_bounds digits read_number write_number read_bytes read_key write_key head_of read_bound write_bound read_range write_range whole key_given kept_of raised next_prefix from_prefix bound_given cmp_bound_outcome non_empty_outcome contains_outcome from_prefix_outcome start_side end_side intersect_sides part_before part_from subtract_from last_written is_key up_to_key durable read_many write_many block index ascend_from index_checks partition_point starts_with first_partition_including_key first_partition_including_or_after_key last_partition_including_key step_back partitions_covering_key partitions_covering_bounds partitions_covering_range asked_checks index_and_range partitions_covering_range_outcome
edges_hold = refl

pub nothing_between : NothingBetween
unfolding keyless_bounds cmp_key cmp_number
nothing_between x = (keyless_pass_and_hold_none _ refl).1 x
