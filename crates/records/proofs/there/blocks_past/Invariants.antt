-- `records::blocks_past` meets its contract.
-- Assumes nothing.
use Rattle.records.proofs.Pasts.{Walked}
use Rattle.records.specs.Layouts.{block}
use Rattle.records.proofs.there.blocks_past.Given as goal

abbrev pub invariant-loop : goal.invariant-loop
invariant-loop l = Walked block.read l.s l.from l.n l.counter l.at
