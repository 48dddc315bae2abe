-- `text::decimal_len` meets its contract, by what its loop keeps.
-- Assumes nothing.
use Rattle.text.proofs.Puts.{Measured}
use Rattle.text.proofs.decimal_len.Given as goal

abbrev pub invariant-loop-rest : goal.invariant-loop-rest
invariant-loop-rest l = Measured l.n l.rest l.len

abbrev pub decreases-loop-rest : goal.decreases-loop-rest
decreases-loop-rest l = l.rest
