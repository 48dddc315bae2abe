-- `key::cmp_bytes` meets its contract, by what its loop keeps.
-- Assumes nothing.
use Rattle.key.proofs.Passed.{Passed}
use Rattle.key.proofs.cmp_bytes.Given as goal

abbrev pub invariant-loop-i : goal.invariant-loop-i
invariant-loop-i l = Passed l.a l.b l.i
