-- `partitioned_keyspace::key_pointed` meets its contract.
-- Assumes nothing.
use Rattle.std.proofs.Common.{rules}
use Rattle.partitioned_keyspace.proofs.CallExits.{pointed_exits}
use Rattle.partitioned_keyspace.proofs.key_pointed.Goals as goal

pub returns-then-key-gt1024 : goal.returns-then-key-gt1024
returns-then-key-gt1024 c = search (rules, pointed_exits)

pub returns-then-x : goal.returns-then-x
returns-then-x c = search (rules, pointed_exits)

pub returns-in-Stop : goal.returns-in-Stop
returns-in-Stop c = search (rules, pointed_exits)

pub returns-else-x : goal.returns-else-x
returns-else-x c = search (rules, pointed_exits)
