-- `commit_plan::plan::plan_runs` meets its contract.
-- Assumes nothing.
use Rattle.commit_plan.proofs.RunsExits.{RunsSeen}
use Rattle.commit_plan.proofs.plan.plan_runs.Given as goal

abbrev pub invariant-loop-k : goal.invariant-loop-k
invariant-loop-k l = RunsSeen l.image l.job l.ids l.gaps l.index l.head l.outputs l.initial.runs l.initial.rows l.k l.a l.runs l.rows
