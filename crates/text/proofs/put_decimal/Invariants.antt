-- `text::put_decimal` meets its contract, by what its loop keeps.
-- Assumes nothing.
use Rattle.text.proofs.Puts.{Counted}
use Rattle.text.proofs.put_decimal.Given as goal

abbrev pub invariant-loop-i : goal.invariant-loop-i
invariant-loop-i l = Counted l.initial.out l.at l.n l.out l.rest l.i
