-- The examples in bytes, computed.
-- Assumes nothing.
use mathlib.Core.Path.{refl}
use lib.Dec.{lit≤}
use Rattle.key.specs.Order.{cmp_key, cmp_number}
use Rattle.key.specs.Word.{digits}
use Rattle.comparable_range.specs.Range.{cmp_bound, bounds_pass, start_holds, end_holds, holds, start_side, end_side, intersect_sides}
use Rattle.format.specs.Number.{read_number, write_number}
use Rattle.format.specs.Key.{read_bytes, read_key}
use Rattle.format.specs.Range.{head_of, read_bound, read_range}
use Rattle.format.specs.Whole.{whole}
use Rattle.format.specs.Joint as joint
use Rattle.bytes_range.specs.Prefix.{point_of}
use Rattle.records.specs.Form.{read_if, read_many}
use Rattle.records.specs.Layouts.{flag_of, count_of, view_count_of, table, view, run, image}
use Rattle.manifest.specs.Ranges.{effective}
use Rattle.manifest.specs.Checks.{all, visible_passes, keys_in_order, table_passes, ascend_from, has, distinct, size_passes, image_checks}
use Rattle.partitioned_keyspace.specs.Asked.{asked_checks}
use Rattle.db_state.specs.Places.{at}
use Rattle.db_state.specs.Lookup.{start_key, compacted_intersection}
use Rattle.db_state.specs.LookupCalls.{image_and_range, compacted_intersection_outcome}
use Rattle.bilqarush.specs.Calls.{range_given, ranges_given, as_point_outcome, intersect_outcome}
use Rattle.told_bytes.specs.Layouts.{point_to, joined_to, view_range_to}
use Rattle.told_bytes.specs.Example.{PointIsTold, NoRoomIsTold, JointIsFound, JointIsTold, LookupRangeIsFound, LookupRangeIsTold, ViewRangeIsTold}

pub point_is_told : PointIsTold
unfolding cmp_key cmp_number digits cmp_bound bounds_pass read_number write_number read_bytes read_key head_of read_bound read_range whole point_of range_given as_point_outcome point_to
point_is_told = record { returns = refl; buffer = refl; count = refl }

pub no_room_is_told : NoRoomIsTold
unfolding cmp_key cmp_number digits cmp_bound bounds_pass read_number write_number read_bytes read_key head_of read_bound read_range whole point_of range_given as_point_outcome point_to
no_room_is_told = record { returns = refl; buffer = refl; count = refl }

pub joint_is_found : JointIsFound
unfolding cmp_key cmp_number digits cmp_bound bounds_pass start_side end_side intersect_sides read_number read_bytes read_key head_of read_bound read_range whole ranges_given intersect_outcome
joint_is_found = record { meaning = refl; inside = (lit≤ tt, lit≤ tt) }

pub joint_is_told : JointIsTold
unfolding write_number joined_to
joint_is_told = refl

pub lookup_range_is_found : LookupRangeIsFound
unfolding cmp_key cmp_number digits cmp_bound bounds_pass start_holds end_holds holds start_side end_side intersect_sides read_number read_bytes read_key head_of read_bound read_range whole joint.intersect read_if read_many flag_of count_of view_count_of table view run image effective all visible_passes keys_in_order table_passes ascend_from has distinct size_passes image_checks asked_checks at image_and_range start_key compacted_intersection compacted_intersection_outcome
lookup_range_is_found = record { meaning = refl; inside = (lit≤ tt, lit≤ tt) }

pub lookup_range_is_told : LookupRangeIsTold
unfolding write_number joined_to
lookup_range_is_told = refl

pub view_range_is_told : ViewRangeIsTold
unfolding write_number view_range_to
view_range_is_told = refl
