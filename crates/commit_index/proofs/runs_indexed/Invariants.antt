-- `commit_index::runs_indexed` meets its contract.
-- Assumes nothing.
use Rattle.commit_index.proofs.ImageExits.{RunsSeen}
use Rattle.commit_index.proofs.runs_indexed.Given as goal

abbrev pub invariant-loop-seen : goal.invariant-loop-seen
invariant-loop-seen l = RunsSeen l.s l.from l.n l.initial.index l.index l.seen l.at l.fault
