-- `commit_outputs::parts::plan_outputs` meets its contract.
-- Assumes nothing.
use Rattle.commit_outputs.proofs.PartsExits.{PartsSeen}
use Rattle.commit_outputs.proofs.parts.plan_outputs.Given as goal

abbrev pub invariant-loop-k : goal.invariant-loop-k
invariant-loop-k l = PartsSeen l.job l.ids l.parts l.n l.initial.rows l.k l.interval l.plan l.rows
