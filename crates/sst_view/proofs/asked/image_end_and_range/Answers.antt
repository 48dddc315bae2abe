-- `sst_view::asked::image_end_and_range` meets its contract.
-- Assumes nothing.
use Rattle.std.proofs.Common.{rules}
use Rattle.sst_view.proofs.AskedExits.{end_exits}
use Rattle.sst_view.proofs.asked.image_end_and_range.Goals as goal

pub returns-in-Stop : goal.returns-in-Stop
returns-in-Stop c = search (rules, end_exits)

pub returns-in-Stop-bound_given : goal.returns-in-Stop-bound_given
returns-in-Stop-bound_given c = search (rules, end_exits)

pub returns-in-Stop-range_asked : goal.returns-in-Stop-range_asked
returns-in-Stop-range_asked c = search (rules, end_exits)

pub returns-in-Range : goal.returns-in-Range
returns-in-Range c = search (rules, end_exits)
