-- `partitioned_keyspace::partitions_covering_range` meets its contract.
-- Assumes nothing.
use Rattle.std.proofs.Common.{rules}
use Rattle.partitioned_keyspace.proofs.RangeExits.{range_exits}
use Rattle.partitioned_keyspace.proofs.partitions_covering_range.Goals as goal

pub returns-in-At : goal.returns-in-At
returns-in-At c = search (rules, range_exits)

pub returns-in-Stop-index_read : goal.returns-in-Stop-index_read
returns-in-Stop-index_read c = search (rules, range_exits)

pub returns-in-At-index_read : goal.returns-in-At-index_read
returns-in-At-index_read c = search (rules, range_exits)
