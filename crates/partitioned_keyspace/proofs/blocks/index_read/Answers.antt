-- `partitioned_keyspace::blocks::index_read` meets its contract.
-- Assumes nothing.
use Rattle.std.proofs.Common.{rules}
use Rattle.partitioned_keyspace.proofs.BlockExits.{index_exits}
use Rattle.partitioned_keyspace.proofs.blocks.index_read.Goals as goal

pub returns-then-s-gt65536 : goal.returns-then-s-gt65536
returns-then-s-gt65536 c = search (rules, index_exits)

pub returns-then-s-lt2 : goal.returns-then-s-lt2
returns-then-s-lt2 c = search (rules, index_exits)

pub returns : goal.returns
returns c = search (rules, index_exits)
