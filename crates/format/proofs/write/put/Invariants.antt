-- `format::put` meets its contract, by what its loop keeps.
-- Assumes nothing.
use Rattle.format.proofs.Puts.{Pasted}
use Rattle.format.proofs.write.put.Given as goal

abbrev pub invariant-loop-i : goal.invariant-loop-i
invariant-loop-i l = Pasted l.initial.out l.at l.src l.out l.i
