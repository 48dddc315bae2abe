-- `partitioned_keyspace::ranges::is_point` meets its contract.
-- Assumes nothing.
use Rattle.std.proofs.Common.{rules}
use Rattle.partitioned_keyspace.proofs.PointExits.{is_one}
use Rattle.partitioned_keyspace.proofs.ranges.is_point.Goals as goal

pub returns-in-Included-Included : goal.returns-in-Included-Included
returns-in-Included-Included c = search (rules, is_one)
