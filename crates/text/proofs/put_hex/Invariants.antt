-- `text::put_hex` meets its contract, by what its loop keeps.
-- Assumes nothing.
use Rattle.text.proofs.Puts.{Spelled}
use Rattle.text.proofs.put_hex.Given as goal

abbrev pub invariant-loop-b : goal.invariant-loop-b
invariant-loop-b l = Spelled l.initial.out l.at l.src l.out l.b-index l.to
