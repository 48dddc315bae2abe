-- `format::big_endian` meets its contract, by what its loop keeps.
-- Assumes nothing.
use Rattle.format.proofs.Digits.{Reading}
use Rattle.format.proofs.big_endian.Given as goal

abbrev pub invariant-loop-b : goal.invariant-loop-b
invariant-loop-b l = Reading l.t l.b-index l.v
