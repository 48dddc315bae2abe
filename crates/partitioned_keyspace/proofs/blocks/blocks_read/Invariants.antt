-- `partitioned_keyspace::blocks::blocks_read` meets its contract: after each block, what is kept is what the first
-- keys seen so far say.
-- Assumes nothing.
use Rattle.partitioned_keyspace.proofs.BlockExits.{BlocksSeen}
use Rattle.partitioned_keyspace.proofs.blocks.blocks_read.Given as goal

abbrev pub invariant-loop : goal.invariant-loop
invariant-loop l = BlocksSeen l.s l.from l.n l.start l.end l.x l.before l.at l.counter
