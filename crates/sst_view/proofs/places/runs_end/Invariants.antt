-- `sst_view::places::runs_end` meets its contract.
-- Assumes nothing.
use Rattle.records.proofs.Pasts.{Walked}
use Rattle.records.specs.Layouts.{run}
use Rattle.sst_view.proofs.places.runs_end.Given as goal

abbrev pub invariant-loop : goal.invariant-loop
invariant-loop l = Walked run.read l.s l.from l.n l.counter l.at
