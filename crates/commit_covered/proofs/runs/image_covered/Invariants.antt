-- `commit_covered::runs::image_covered` meets its contract.
-- Assumes nothing.
use Rattle.commit_covered.proofs.RunExits.{RunsSeen}
use Rattle.commit_covered.proofs.runs.image_covered.Given as goal

abbrev pub invariant-loop-k : goal.invariant-loop-k
invariant-loop-k l = RunsSeen l.image l.job l.index l.gaps l.head l.k
