-- `partitioned_keyspace::partition_point` meets its contract.
-- Assumes nothing.
use Rattle.std.proofs.Common.{rules}
use Rattle.partitioned_keyspace.proofs.CallExits.{key_exits}
use Rattle.partitioned_keyspace.proofs.partition_point.Goals as goal

pub returns-in-Stop : goal.returns-in-Stop
returns-in-Stop c = search (rules, key_exits)

pub returns-in-At : goal.returns-in-At
returns-in-At c = search (rules, key_exits)
