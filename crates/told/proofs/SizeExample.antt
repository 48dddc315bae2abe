-- The examples of visible sizes in bytes, computed.
-- Assumes nothing.
use mathlib.Core.Path.{refl}
use lib.Ieee.{of_bits, round, add, sub, mul, div, lt, eq, of_int, to_unsigned}
use Rattle.key.specs.Order.{cmp_key, cmp_number}
use Rattle.key.specs.Word.{digits}
use Rattle.comparable_range.specs.Range.{cmp_bound, bounds_pass, start_side, end_side, intersect_sides, cmp_range}
use Rattle.format.specs.Number.{read_number}
use Rattle.format.specs.Key.{read_bytes, read_key}
use Rattle.format.specs.Range.{head_of, read_bound, read_range}
use Rattle.format.specs.Whole.{whole}
use Rattle.records.specs.Form.{read_if, read_many}
use Rattle.records.specs.Layouts.{flag_of, count_of, view_count_of, table, view, run, image}
use Rattle.manifest.specs.Ranges.{effective}
use Rattle.manifest.specs.Checks.{all, visible_passes, keys_in_order, table_passes, ascend_from, has, distinct, size_passes, image_checks, image_given}
use Rattle.visible_size.specs.Steps.{scale, with_bytes, key_fraction, common_prefix_len, range_len, lengths_fraction, same_range, ranges_fraction, round_half_away, visible_size}
use Rattle.visible_size.specs.Sizes.{visible_fraction, estimate_visible_size, estimate_run_visible_size}
use Rattle.db_state.specs.Places.{at, view_at, view_given}
use Rattle.view_sizes.specs.SizeCalls.{visible_fraction_outcome, estimate_visible_size_outcome, estimate_run_visible_size_outcome}
use Rattle.told.specs.SizeExample.{PartIsTold, WholeIsTold, FractionStopIsTold, SizeIsTold, RunSizeIsTold, WholeSizeIsTold, SizeStopIsTold, RunSizeStopIsTold}

-- ---- the fraction
pub part_is_told : PartIsTold
unfolding cmp_key cmp_number digits cmp_bound bounds_pass start_side end_side intersect_sides read_number read_bytes read_key head_of read_bound read_range whole read_if read_many flag_of count_of view_count_of table view run image effective all visible_passes keys_in_order table_passes ascend_from has distinct size_passes image_checks image_given at view_at view_given of_bits round add sub mul div lt eq of_int cmp_range scale with_bytes key_fraction common_prefix_len range_len lengths_fraction same_range ranges_fraction visible_fraction visible_fraction_outcome
part_is_told = record { returns = refl; flag = refl; answered = refl }

pub whole_is_told : WholeIsTold
unfolding cmp_key cmp_number digits cmp_bound bounds_pass start_side end_side intersect_sides read_number read_bytes read_key head_of read_bound read_range whole read_if read_many flag_of count_of view_count_of table view run image effective all visible_passes keys_in_order table_passes ascend_from has distinct size_passes image_checks image_given at view_at view_given cmp_range same_range ranges_fraction visible_fraction visible_fraction_outcome
whole_is_told = record { returns = refl; flag = refl; answered = refl }

pub fraction_stop_is_told : FractionStopIsTold
unfolding read_number whole image image_given view_given visible_fraction_outcome
fraction_stop_is_told = record { returns = refl; flag = refl; answered = refl }

-- ---- the size
pub size_is_told : SizeIsTold
unfolding cmp_key cmp_number digits cmp_bound bounds_pass start_side end_side intersect_sides read_number read_bytes read_key head_of read_bound read_range whole read_if read_many flag_of count_of view_count_of table view run image effective all visible_passes keys_in_order table_passes ascend_from has distinct size_passes image_checks image_given at view_at view_given of_bits round add sub mul div lt eq of_int cmp_range scale with_bytes key_fraction common_prefix_len range_len lengths_fraction same_range ranges_fraction visible_fraction round_half_away visible_size to_unsigned estimate_visible_size estimate_visible_size_outcome
size_is_told = record { returns = refl; answered = refl }

pub run_size_is_told : RunSizeIsTold
unfolding cmp_key cmp_number digits cmp_bound bounds_pass start_side end_side intersect_sides read_number read_bytes read_key head_of read_bound read_range whole read_if read_many flag_of count_of view_count_of table view run image effective all visible_passes keys_in_order table_passes ascend_from has distinct size_passes image_checks image_given at of_bits round add sub mul div lt eq of_int cmp_range scale with_bytes key_fraction common_prefix_len range_len lengths_fraction same_range ranges_fraction visible_fraction round_half_away visible_size to_unsigned estimate_visible_size estimate_run_visible_size estimate_run_visible_size_outcome
run_size_is_told = record { returns = refl; answered = refl }

pub whole_size_is_told : WholeSizeIsTold
unfolding cmp_key cmp_number digits cmp_bound bounds_pass start_side end_side intersect_sides read_number read_bytes read_key head_of read_bound read_range whole read_if read_many flag_of count_of view_count_of table view run image effective all visible_passes keys_in_order table_passes ascend_from has distinct size_passes image_checks image_given at view_at view_given estimate_visible_size estimate_visible_size_outcome
whole_size_is_told = record { returns = refl; answered = refl }

pub size_stop_is_told : SizeStopIsTold
unfolding read_number whole image image_given view_given estimate_visible_size_outcome
size_stop_is_told = record { returns = refl; answered = refl }

pub run_size_stop_is_told : RunSizeStopIsTold
unfolding cmp_key cmp_number digits cmp_bound bounds_pass start_side end_side intersect_sides read_number read_bytes read_key head_of read_bound read_range whole read_if read_many flag_of count_of view_count_of table view run image effective all visible_passes keys_in_order table_passes ascend_from has distinct size_passes image_checks image_given at estimate_run_visible_size_outcome
run_size_stop_is_told = record { returns = refl; answered = refl }
