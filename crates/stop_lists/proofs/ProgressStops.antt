-- The stops of the calls on durable intervals are in their lists.
-- Assumes nothing.
use Prim.Native.Nat.{ℕ}
use mathlib.Core.Path.{refl}
use mathlib.Core.Bool.{◌&&◌}
use mathlib.Core.List.{List}
use Rattle.comparable_range.specs.Range.{Range, non_empty}
use Rattle.format.specs.Range.{read_range}
use Rattle.format.specs.Whole.{whole}
use Rattle.records.specs.Values.{Job}
use Rattle.records.specs.Layouts.{job, plan}
use Rattle.manifest.specs.Checks.{has, job_checks}
use Rattle.incremental_progress.specs.Checks.{destination_is_source, planned_in_order, outputs_in_order}
use Rattle.incremental_progress.specs.Repeated.{StopsIn}
use Rattle.incremental_progress.proofs.Repeated.{answers}
use Rattle.from_compaction.specs.ProgressCalls.{progressed, progress_made, from_compaction_outcome}
use Rattle.incremental_progress.specs.Checks.{half_open}
use Rattle.subtract_from.specs.SubtractCalls.{subtracted, subtracted_given, subtract_from_outcome}
use Rattle.stop_lists.specs.Stops.{from_compaction_stops, subtract_from_stops}
use Rattle.stop_lists.proofs.Stopping.{checks, and-then, written, job_stops, whole_stops}
use Rattle.stop_lists.proofs.GivenStops.{whole_range, three_listed}

-- ---- intervals
progressed_stops : (j : Job) → StopsIn from_compaction_stops (progressed j)
unfolding progressed has
progressed_stops j =
    checks 8 (destination_is_source j) refl (λ _.
    checks 10 (planned_in_order j) refl (λ _.
    checks 11 (outputs_in_order j) refl (λ _. answers _)))

-- a job has nothing that check 6 is about
progress_made_lem : (l : List ℕ) → StopsIn from_compaction_stops (progress_made l)
unfolding progress_made job_checks has
progress_made_lem l =
    and-then (whole job.read l) (whole_stops three_listed.keys job (job_stops three_listed) l) (λ j.
    checks 4 (job_checks j).ranges refl (λ _.
    checks 5 (job_checks j).tables refl (λ _.
    checks 7 (job_checks j).sizes refl (λ _. progressed_stops j))))

pub from_compaction_stops_lem : (l : List ℕ) (room : ℕ) → StopsIn from_compaction_stops (from_compaction_outcome l room)
unfolding from_compaction_outcome has
from_compaction_stops_lem l room = and-then (progress_made l) (progress_made_lem l) (λ p. written room (plan.write p) refl)

-- ---- what one leaves
subtracted_stops : (d r : Range) → StopsIn subtract_from_stops (subtracted d r)
unfolding subtracted has
subtracted_stops d r = checks 4 (non_empty d && non_empty r) refl (λ _. checks 10 (half_open d) refl (λ _. answers _))

subtracted_given_lem : (l q : List ℕ) → StopsIn subtract_from_stops (subtracted_given l q)
unfolding subtracted_given
subtracted_given_lem l q =
    and-then (whole read_range l) (whole_range three_listed l) (λ d.
    and-then (whole read_range q) (whole_range three_listed q) (λ r. subtracted_stops d r))

pub subtract_from_stops_lem : (l q : List ℕ) (room : ℕ) → StopsIn subtract_from_stops (subtract_from_outcome l q room)
unfolding subtract_from_outcome has
subtract_from_stops_lem l q room = and-then (subtracted_given l q) (subtracted_given_lem l q) (λ p. written room (plan.write p) refl)
