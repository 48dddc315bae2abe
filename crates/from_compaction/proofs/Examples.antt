-- The examples, computed.
-- Assumes nothing.
use mathlib.Core.Path.{refl}
use mathlib.Core.List.{flat_map}
use Rattle.key.specs.Order.{cmp_number, cmp_key}
use Rattle.key.specs.Word.{digits}
use Rattle.comparable_range.specs.Range.{bounds_pass}
use Rattle.comparable_range.specs.Cut.{cmp_cut, cut_at_most}
use Rattle.format.specs.Number.{read_number, write_number}
use Rattle.format.specs.Key.{read_bytes, read_key, write_key}
use Rattle.format.specs.Range.{head_of, read_bound, write_bound, read_range, write_range}
use Rattle.format.specs.Whole.{whole}
use Rattle.records.specs.Form.{read_if, write_if, read_many, write_many}
use Rattle.records.specs.Layouts.{flag_of, count_of, outputs_of, table, part, job, plan}
use Rattle.manifest.specs.Checks.{all, keys_in_order, has, size_passes, job_checks}
use Rattle.incremental_progress.specs.Parts.{last_written, is_key, up_to_key, durable, intervals}
use Rattle.incremental_progress.specs.Checks.{destination_is_source, planned_from, planned_in_order, outputs_from, outputs_inside, outputs_in_order}
use Rattle.from_compaction.specs.ProgressCalls.{from_compaction, progressed, progress_made, from_compaction_outcome}
use Rattle.from_compaction.specs.ProgressExamples.{CompletedAndUnfinished, LastKeyIsTheStart, RecordsOfTheExample}

pub completed_and_unfinished : CompletedAndUnfinished
unfolding from_compaction intervals flat_map durable up_to_key last_written is_key cmp_key cmp_number
completed_and_unfinished = refl

pub last_key_is_the_start : LastKeyIsTheStart
unfolding from_compaction intervals flat_map durable up_to_key last_written is_key cmp_key cmp_number digits bounds_pass cmp_cut cut_at_most
    read_number write_number read_bytes read_key write_key head_of read_bound write_bound read_range write_range whole read_if write_if read_many
    write_many flag_of count_of outputs_of table part job plan all keys_in_order has size_passes job_checks destination_is_source planned_from
    planned_in_order outputs_from outputs_inside outputs_in_order progressed progress_made from_compaction_outcome
last_key_is_the_start = record { none = refl; on_bytes = refl }

pub records_of_the_example : RecordsOfTheExample
unfolding from_compaction intervals flat_map durable up_to_key last_written is_key cmp_key cmp_number digits bounds_pass cmp_cut cut_at_most
    read_number write_number read_bytes read_key write_key head_of read_bound write_bound read_range write_range whole read_if write_if read_many
    write_many flag_of count_of outputs_of table part job plan all keys_in_order has size_passes job_checks destination_is_source planned_from
    planned_in_order outputs_from outputs_inside outputs_in_order progressed progress_made from_compaction_outcome
records_of_the_example = record { first = refl; third = refl; short = refl; no_source = refl }
