-- `records::views_end` meets its contract.
-- Assumes nothing.
use Rattle.records.proofs.Pasts.{Walked}
use Rattle.records.specs.Layouts.{view}
use Rattle.records.proofs.there.views_end.Given as goal

abbrev pub invariant-loop : goal.invariant-loop
invariant-loop l = Walked view.read l.s l.from l.n l.counter l.at
