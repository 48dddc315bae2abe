-- The examples of the layouts, computed.
-- Assumes nothing.
use mathlib.Core.Path.{refl}
use Rattle.key.specs.Word.{digits}
use Rattle.format.specs.Number.{read_number, write_number}
use Rattle.format.specs.Key.{read_bytes, read_key, write_key}
use Rattle.format.specs.Range.{head_of, read_bound, write_bound, read_range, write_range}
use Rattle.records.specs.Form.{read_if, write_if, read_many, write_many}
use Rattle.records.specs.Layouts.{flag_of, count_of, view_count_of, outputs_of, table, view, run, image, part, job, block, index, anchor, anchors, plan}
use Rattle.records.specs.Examples.{ImageStands, JobStands, IndexStands, AnchorsStand, PlanStands, CeilingsHold, CeilingsPass}

pub image_stands : ImageStands
unfolding digits read_number write_number read_bytes read_key write_key head_of read_bound write_bound read_range write_range read_if write_if read_many write_many flag_of count_of view_count_of outputs_of table view run image part job block index anchor anchors plan
image_stands = record { written = refl; read = refl }

pub job_stands : JobStands
unfolding digits read_number write_number read_bytes read_key write_key head_of read_bound write_bound read_range write_range read_if write_if read_many write_many flag_of count_of view_count_of outputs_of table view run image part job block index anchor anchors plan
job_stands = record { written = refl; read = refl }

pub index_stands : IndexStands
unfolding digits read_number write_number read_bytes read_key write_key head_of read_bound write_bound read_range write_range read_if write_if read_many write_many flag_of count_of view_count_of outputs_of table view run image part job block index anchor anchors plan
index_stands = record { written = refl; read = refl }

pub anchors_stand : AnchorsStand
unfolding digits read_number write_number read_bytes read_key write_key head_of read_bound write_bound read_range write_range read_if write_if read_many write_many flag_of count_of view_count_of outputs_of table view run image part job block index anchor anchors plan
anchors_stand = record { written = refl; read = refl }

pub plan_stands : PlanStands
unfolding digits read_number write_number read_bytes read_key write_key head_of read_bound write_bound read_range write_range read_if write_if read_many write_many flag_of count_of view_count_of outputs_of table view run image part job block index anchor anchors plan
plan_stands = record { written = refl; read = refl }

pub ceilings_hold : CeilingsHold
unfolding digits read_number write_number read_bytes read_key write_key head_of read_bound write_bound read_range write_range read_if write_if read_many write_many flag_of count_of view_count_of outputs_of table view run image part job block index anchor anchors plan
ceilings_hold =
    record { runs = refl; views = refl; sources = refl; parts = refl; outputs = refl; anchors_most = refl; ranges = refl }

pub ceilings_pass : CeilingsPass
unfolding digits read_number write_number read_bytes read_key write_key head_of read_bound write_bound read_range write_range read_if write_if read_many write_many flag_of count_of view_count_of outputs_of table view run image part job block index anchor anchors plan
ceilings_pass =
    record { runs = refl; views = refl; sources = refl; parts = refl; outputs = refl; anchors_most = refl; ranges = refl }
