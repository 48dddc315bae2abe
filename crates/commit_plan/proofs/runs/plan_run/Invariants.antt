-- `commit_plan::runs::plan_run` meets its contract.
-- Assumes nothing.
use Rattle.commit_plan.proofs.RunExits.{RunSeen}
use Rattle.commit_plan.proofs.runs.plan_run.Given as goal

abbrev pub invariant-loop : goal.invariant-loop
invariant-loop l = RunSeen l.image l.job l.ids l.gaps l.m l.fn.run.first l.fn.run.views l.initial.plan l.initial.rows l.counter l.at l.from l.plan l.rows
