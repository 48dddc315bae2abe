-- `from_compaction`: a job's durable intervals. The checks in their order, then the answer.
use Rattle.std.specs.Prelude.{ℕ, List, map}
use Rattle.base.specs.Outcome.{Outcome, answer, and_then, check, written_to}
use Rattle.format.specs.Whole.{whole}
use Rattle.records.specs.Values.{Job, Plan}
use Rattle.records.specs.Layouts.{job, plan}
use Rattle.manifest.specs.Checks.{checked, job_checks}
use Rattle.incremental_progress.specs.Intervals.{to_range}
use Rattle.incremental_progress.specs.Parts.{intervals}
use Rattle.incremental_progress.specs.Checks.{destination_is_source, planned_in_order, outputs_in_order}

-- the durable intervals of the parts, in order, as ranges
unfoldable pub from_compaction : Job → Plan
from_compaction j = map to_range (intervals j.parts)

-- 8, 10 and 11: those of a commit's checks that a job alone decides
unfoldable pub progressed : Job → Outcome Plan
progressed j =
    check 8 (destination_is_source j) (check 10 (planned_in_order j) (check 11 (outputs_in_order j) (answer (from_compaction j))))

-- 4 to 7 come before them
unfoldable pub progress_made : List ℕ → Outcome Plan
progress_made given = and_then (whole job.read given) (λ j. checked (job_checks j) (progressed j))

unfoldable pub from_compaction_outcome : List ℕ → ℕ → Outcome (List ℕ)
from_compaction_outcome given room = and_then (progress_made given) (λ p. written_to room (plan.write p))
