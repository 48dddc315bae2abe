-- `commit_outputs::parts::plan_part` meets its contract.
-- Assumes nothing.
use Rattle.commit_outputs.proofs.PartExits.{PartSeen}
use Rattle.commit_outputs.proofs.parts.plan_part.Given as goal

abbrev pub invariant-loop : goal.invariant-loop
invariant-loop l = PartSeen l.job l.ids l.h l.bucket l.initial.plan l.initial.rows l.counter l.at l.plan l.rows
