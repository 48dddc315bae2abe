-- `key::cmp` meets its contract, by what its loop over eight bytes a turn keeps.
-- Assumes nothing.
use Rattle.key.specs.Word.{Agree}
use Rattle.key.proofs.cmp.Given as goal

abbrev pub invariant-loop-i : goal.invariant-loop-i
invariant-loop-i l = Agree l.a l.b l.i
