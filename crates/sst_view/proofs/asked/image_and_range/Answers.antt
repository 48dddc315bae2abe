-- `sst_view::asked::image_and_range` meets its contract.
-- Assumes nothing.
use Rattle.std.proofs.Common.{rules}
use Rattle.sst_view.proofs.AskedExits.{asked_exits}
use Rattle.sst_view.proofs.asked.image_and_range.Goals as goal

pub returns-in-Stop : goal.returns-in-Stop
returns-in-Stop c = search (rules, asked_exits)

pub returns-in-At : goal.returns-in-At
returns-in-At c = search (rules, asked_exits)
