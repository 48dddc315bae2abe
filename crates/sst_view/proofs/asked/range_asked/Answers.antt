-- `sst_view::asked::range_asked` meets its contract.
-- Assumes nothing.
use Rattle.std.proofs.Common.{rules}
use Rattle.sst_view.proofs.AskedExits.{range_exits}
use Rattle.sst_view.proofs.asked.range_asked.Goals as goal

pub returns-then-fault-lt8 : goal.returns-then-fault-lt8
returns-then-fault-lt8 c = search (rules, range_exits)

pub returns-then-passes : goal.returns-then-passes
returns-then-passes c = search (rules, range_exits)

pub returns-in-Stop : goal.returns-in-Stop
returns-in-Stop c = search (rules, range_exits)

pub returns-else-passes : goal.returns-else-passes
returns-else-passes c = search (rules, range_exits)
