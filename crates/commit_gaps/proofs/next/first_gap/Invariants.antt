-- `commit_gaps::next::first_gap` meets its contract.
-- Assumes nothing.
use Rattle.format.specs.Range.{bound_in}
use Rattle.commit_gaps.specs.Found.{Reached}
use Rattle.commit_gaps.proofs.next.first_gap.Given as goal

abbrev pub invariant-loop-g : goal.invariant-loop-g
invariant-loop-g l = Reached (bound_in l.image l.start) l.job l.m l.g
