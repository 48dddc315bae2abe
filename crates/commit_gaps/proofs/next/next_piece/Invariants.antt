-- `commit_gaps::next::next_piece` meets its contract.
-- Assumes nothing.
use Rattle.format.specs.Range.{range_in}
use Rattle.commit_gaps.proofs.NextExits.{Seeking}
use Rattle.commit_gaps.proofs.next.next_piece.Given as goal

abbrev pub invariant-loop-g : goal.invariant-loop-g
invariant-loop-g l = Seeking l.job (range_in l.image l.range.start l.range.end) l.m l.from l.g
