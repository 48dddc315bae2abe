-- `partitioned_keyspace::ranges::covered_by` meets its contract.
-- Assumes nothing.
use Rattle.std.proofs.Common.{rules}
use Rattle.partitioned_keyspace.proofs.RangeExits.{covered_exits}
use Rattle.partitioned_keyspace.proofs.ranges.covered_by.Goals as goal

pub returns-then-x : goal.returns-then-x
returns-then-x c = search (rules, covered_exits)

pub returns-then-passes : goal.returns-then-passes
returns-then-passes c = search (rules, covered_exits)

pub returns-in-Stop : goal.returns-in-Stop
returns-in-Stop c = search (rules, covered_exits)

pub returns-else-passes : goal.returns-else-passes
returns-else-passes c = search (rules, covered_exits)
