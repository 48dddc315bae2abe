-- `manifest::blocks_judged` meets its contract.
-- Assumes nothing.
use Rattle.manifest.proofs.IndexExits.{BlocksSeen}
use Rattle.manifest.proofs.indexes.blocks_judged.Given as goal

abbrev pub invariant-loop : goal.invariant-loop
invariant-loop l = BlocksSeen l.s l.from l.n l.counter l.at l.fault l.before
