-- `commit_covered::outputs::keep_part` meets its contract.
-- Assumes nothing.
use Rattle.commit_covered.proofs.OutputExits.{Keeping}
use Rattle.commit_covered.proofs.outputs.keep_part.Given as goal

abbrev pub invariant-loop-seen : goal.invariant-loop-seen
invariant-loop-seen l = Keeping l.job l.first l.m l.k l.initial.chain l.initial.slots l.chain l.slots l.seen l.at
