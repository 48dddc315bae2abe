-- An input for each stop of each call on durable intervals, computed.
-- Assumes nothing.
use Prim.Native.Nat.{ℕ, ◌^◌}
use mathlib.Core.Path.{refl}
use mathlib.Core.List.{List, [], ◌∷◌, ◌++◌, flat_map}
use Rattle.key.specs.Order.{Key, cmp_key, cmp_number}
use Rattle.key.specs.Word.{digits}
use Rattle.comparable_range.specs.Cut.{cmp_cut, cut_at_most}
use Rattle.comparable_range.specs.Range.{Bound, unbounded, included, excluded, Range, cmp_bound, bounds_pass, start_side, end_side, intersect_sides}
use Rattle.format.specs.Number.{read_number, write_number}
use Rattle.format.specs.Key.{read_bytes, read_key, write_key}
use Rattle.format.specs.Range.{head_of, read_bound, write_bound, read_range, write_range}
use Rattle.format.specs.Whole.{whole}
use Rattle.records.specs.Form.{read_if, write_if, read_many, write_many}
use Rattle.records.specs.Layouts.{flag_of, count_of, outputs_of, table, part, job, plan}
use Rattle.manifest.specs.Checks.{all, keys_in_order, has, size_passes, job_checks}
use Rattle.incremental_progress.specs.Checks.{destination_is_source, planned_from, planned_in_order, outputs_from, outputs_inside, outputs_in_order}
use Rattle.incremental_progress.specs.Intervals.{part_before, part_from, subtract_from}
use Rattle.incremental_progress.specs.Parts.{last_written, is_key, up_to_key, durable, intervals}
use Rattle.from_compaction.specs.ProgressCalls.{from_compaction, progressed, progress_made, from_compaction_outcome}
use Rattle.subtract_from.specs.SubtractCalls.{subtracted, subtracted_given, subtract_from_outcome}
use Rattle.stop_lists.specs.Stops.{from_compaction_stops, subtract_from_stops, Reached, no_more, reached}
use Rattle.stop_lists.proofs.Crowded.{zeros}
use Rattle.stop_lists.proofs.Refused.{padded, long, empty, every, a_table, job_with, job_of}

abbrev from : Bound → Range
from s = record { start = s; end = unbounded }

abbrev a : Key
a = 97 ∷ []

abbrev b : Key
b = 98 ∷ []

-- run 0 into itself, up to the head of its one part
abbrev headed : ℕ → List ℕ
headed head = zeros 4 ++ (1 ∷ []) ++ zeros 4 ++ (1 ∷ head ∷ [])

abbrev too_many_sources : List ℕ
too_many_sources = zeros 4 ++ (65 ∷ [])

pub progressing : Reached (λ (l : List ℕ). from_compaction_outcome l 0) from_compaction_stops
unfolding cmp_cut cut_at_most cmp_number cmp_key digits cmp_bound bounds_pass read_number write_number read_bytes read_key write_key head_of read_bound write_bound read_range write_range whole read_if write_if read_many write_many flag_of count_of outputs_of table part job plan all keys_in_order has size_passes job_checks destination_is_source planned_from planned_in_order outputs_from outputs_inside outputs_in_order last_written is_key up_to_key durable intervals from_compaction progressed progress_made from_compaction_outcome flat_map
progressing =
    reached [] refl
    (reached (headed 1) refl
    (reached too_many_sources refl
    (reached (job_of (7 ∷ []) (record { start = included b; end = excluded b })) refl
    (reached (job_with (7 ∷ []) (from (included a)) (a_table 0 b a)) refl
    (reached (job_with (7 ∷ []) (from (included a)) (a_table (2 ^ 53) a b)) refl
    (reached (job_of [] (from (included a))) refl
    (reached (job_of (7 ∷ []) (from (excluded []))) refl
    (reached (job_of (7 ∷ []) (from (included b))) refl
    (reached (job_of (7 ∷ []) (from (included a))) refl
    no_more)))))))))

-- from after the empty key on
abbrev after_empty : List ℕ
after_empty = 128 ∷ 0 ∷ 0 ∷ []

pub subtracting : Reached (λ (x : List ℕ × List ℕ). subtract_from_outcome x.0 x.1 0) subtract_from_stops
unfolding cmp_number cmp_key digits cmp_bound bounds_pass start_side end_side intersect_sides read_number write_number read_bytes read_key write_key head_of read_bound write_bound read_range write_range whole write_many count_of plan part_before part_from subtract_from subtracted subtracted_given subtract_from_outcome
subtracting =
    reached ([], every) refl
    (reached (padded, every) refl
    (reached (every, long) refl
    (reached (every, empty) refl
    (reached (after_empty, every) refl
    (reached (every, every) refl
    no_more)))))
