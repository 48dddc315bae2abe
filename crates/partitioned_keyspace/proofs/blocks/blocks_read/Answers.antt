-- `partitioned_keyspace::blocks::blocks_read` meets its contract.
-- Assumes nothing.
use Rattle.std.proofs.Common.{rules}
use Rattle.partitioned_keyspace.proofs.BlockExits.{blocks_exits}
use Rattle.partitioned_keyspace.proofs.blocks.blocks_read.Goals as goal

pub loop-init : goal.loop-init
loop-init c = search (rules, blocks_exits)

pub returns-in-Stop : goal.returns-in-Stop
returns-in-Stop c = search (rules, blocks_exits)

pub loop-preserved : goal.loop-preserved
loop-preserved c = search (rules, blocks_exits)

pub returns-then-at-s : goal.returns-then-at-s
returns-then-at-s c = search (rules, blocks_exits)

pub returns : goal.returns
returns c = search (rules, blocks_exits)
