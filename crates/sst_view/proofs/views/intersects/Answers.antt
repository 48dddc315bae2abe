-- `sst_view::views::intersects` meets its contract.
-- Assumes nothing.
use Rattle.std.proofs.Common.{rules}
use Rattle.sst_view.proofs.MeetExits.{meet_exits}
use Rattle.sst_view.proofs.views.intersects.Goals as goal

pub returns : goal.returns
returns c = search (rules, meet_exits)
