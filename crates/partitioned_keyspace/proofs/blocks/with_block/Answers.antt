-- `partitioned_keyspace::blocks::with_block` meets its contract.
-- Assumes nothing.
use Rattle.std.proofs.Common.{rules}
use Rattle.partitioned_keyspace.proofs.BlockExits.{one_block}
use Rattle.partitioned_keyspace.proofs.BlockExits.{below_end}
use Rattle.partitioned_keyspace.proofs.BlockExits.{not_known}
use Rattle.partitioned_keyspace.proofs.blocks.with_block.Goals as goal

pub led-u-requires : goal.led-u-requires
led-u-requires c = search (rules, one_block, below_end, not_known)

pub returns : goal.returns
returns c = search (rules, one_block, below_end, not_known)
