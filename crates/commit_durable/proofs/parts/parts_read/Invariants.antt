-- `commit_durable::parts::parts_read` meets its contract.
-- Assumes nothing.
use Rattle.commit_durable.proofs.PartExits.{PartsKept}
use Rattle.commit_durable.proofs.parts.parts_read.Given as goal

abbrev pub invariant-loop-seen : goal.invariant-loop-seen
invariant-loop-seen l = PartsKept l.job l.from l.n l.initial.parts l.parts l.seen l.p
