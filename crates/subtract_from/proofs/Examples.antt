-- The examples, computed.
-- Assumes nothing.
use mathlib.Core.Path.{refl}
use Rattle.key.specs.Order.{cmp_number, cmp_key}
use Rattle.key.specs.Word.{digits}
use Rattle.comparable_range.specs.Range.{cmp_bound, bounds_pass, start_side, end_side, intersect_sides}
use Rattle.format.specs.Number.{read_number, write_number}
use Rattle.format.specs.Key.{read_bytes, read_key, write_key}
use Rattle.format.specs.Range.{head_of, read_bound, write_bound, read_range, write_range}
use Rattle.format.specs.Whole.{whole}
use Rattle.records.specs.Form.{write_many}
use Rattle.records.specs.Layouts.{plan}
use Rattle.incremental_progress.specs.Intervals.{part_before, part_from, subtract_from}
use Rattle.subtract_from.specs.SubtractCalls.{subtracted, subtracted_given, subtract_from_outcome}
use Rattle.subtract_from.specs.SubtractExamples.{SubtractExamples}

pub subtract_examples : SubtractExamples
unfolding cmp_number cmp_key digits cmp_bound bounds_pass start_side end_side intersect_sides read_number write_number read_bytes read_key write_key head_of read_bound write_bound read_range write_range whole write_many plan part_before part_from subtract_from subtracted subtracted_given subtract_from_outcome
subtract_examples =
    record {
      both_sides = refl;
      last_key = refl;
      nothing_left = refl;
      no_room = refl;
      one_byte_short = refl;
      empty_key_written = refl;
      included_end = refl;
      empty_first = refl;
    }
