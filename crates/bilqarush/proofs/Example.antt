-- Document 01's example, computed.
-- Assumes nothing.
use mathlib.Core.Path.{refl}
use lib.Dec.{lit≤}
use Rattle.key.specs.Order.{cmp_key, cmp_number}
use Rattle.key.specs.Word.{digits}
use Rattle.comparable_range.specs.Range.{cmp_bound, bounds_pass, start_side, end_side, intersect_sides}
use Rattle.format.specs.Number.{read_number}
use Rattle.format.specs.Key.{read_bytes, read_key}
use Rattle.format.specs.Range.{read_range}
use Rattle.format.specs.Whole.{whole}
use Rattle.text.specs.Text.{decimal, decimal_in, hex}
use Rattle.records.specs.Form.{read_if, read_many}
use Rattle.records.specs.Layouts.{flag_of, count_of, view_count_of, table, view, run, image}
use Rattle.manifest.specs.Ranges.{effective}
use Rattle.manifest.specs.Checks.{all, visible_passes, keys_in_order, table_passes, ascend_from, has, distinct, size_passes, image_checks, image_given}
use Rattle.db_state.specs.Places.{at, view_at, view_given}
use Rattle.listing.specs.Listing.{start_text, end_text, names, bounds_text, line, lines, run_lines, listing}
use Rattle.bilqarush.specs.ImageCalls.{list_outcome, compacted_effective_range_outcome}
use Rattle.bilqarush.specs.Example.{ExampleIsListed, ExampleNeedsItsRoom, ExampleRangeIsFound}

pub example_is_listed : ExampleIsListed
unfolding cmp_key digits cmp_bound bounds_pass start_side end_side intersect_sides read_number read_bytes read_key read_range whole decimal decimal_in hex read_if read_many flag_of count_of view_count_of table view run image effective all visible_passes keys_in_order table_passes ascend_from has distinct size_passes image_checks image_given start_text end_text names bounds_text line lines run_lines listing list_outcome cmp_number
example_is_listed = refl

pub example_needs_its_room : ExampleNeedsItsRoom
unfolding cmp_key digits cmp_bound bounds_pass start_side end_side intersect_sides read_number read_bytes read_key read_range whole decimal decimal_in hex read_if read_many flag_of count_of view_count_of table view run image effective all visible_passes keys_in_order table_passes ascend_from has distinct size_passes image_checks image_given start_text end_text names bounds_text line lines run_lines listing list_outcome cmp_number
example_needs_its_room = refl

pub example_range_is_found : ExampleRangeIsFound
unfolding cmp_key digits cmp_bound bounds_pass start_side end_side intersect_sides read_number read_bytes read_key read_range whole read_if read_many flag_of count_of view_count_of table view run image effective all visible_passes keys_in_order table_passes ascend_from has distinct size_passes image_checks image_given at view_at view_given compacted_effective_range_outcome cmp_number
example_range_is_found = record { meaning = refl; inside = (lit≤ tt, lit≤ tt) }
