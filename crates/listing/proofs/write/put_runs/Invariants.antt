-- `listing::put_runs` meets its contract.
-- Assumes nothing.
use Rattle.listing.proofs.Loops.{RunsPut}
use Rattle.listing.proofs.write.put_runs.Given as goal

abbrev pub invariant-loop : goal.invariant-loop
invariant-loop l = RunsPut l.s l.from l.n l.initial.out l.first l.out l.counter l.at l.to
