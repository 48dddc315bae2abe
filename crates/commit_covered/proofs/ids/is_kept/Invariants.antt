-- `commit_covered::ids::is_kept` meets its contract.
-- Assumes nothing.
use lib.ListN.{length}
use Rattle.incremental_progress.specs.Jobs.{outputs}
use Rattle.commit_durable.specs.Tables.{job_of}
use Rattle.commit_covered.proofs.IdExits.{Looking}
use Rattle.commit_covered.proofs.ids.is_kept.Given as goal

abbrev pub invariant-loop-left : goal.invariant-loop-left
invariant-loop-left l = Looking l.job l.chain (length l.slots) l.id (outputs (job_of l.job).parts) l.left

abbrev pub decreases-loop-left : goal.decreases-loop-left
decreases-loop-left l = l.left
