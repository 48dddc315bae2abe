-- `listing::runs_len` meets its contract.
-- Assumes nothing.
use Rattle.listing.proofs.Loops.{RunsLen}
use Rattle.listing.proofs.measure.runs_len.Given as goal

abbrev pub invariant-loop : goal.invariant-loop
invariant-loop l = RunsLen l.s l.from l.n l.counter l.at l.to
