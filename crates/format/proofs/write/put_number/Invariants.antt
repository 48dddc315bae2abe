-- `format::put_number` meets its contract, by what its loop keeps.
-- Assumes nothing.
use Rattle.format.proofs.Puts.{Counted}
use Rattle.format.proofs.write.put_number.Given as goal

abbrev pub invariant-loop-i : goal.invariant-loop-i
invariant-loop-i l = Counted l.initial.out l.at l.v l.n l.out l.rest l.i
