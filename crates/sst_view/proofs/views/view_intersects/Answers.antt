-- `sst_view::views::view_intersects` meets its contract.
-- Assumes nothing.
use Rattle.std.proofs.Common.{rules}
use Rattle.sst_view.proofs.MeetExits.{start_exits}
use Rattle.sst_view.proofs.views.view_intersects.Goals as goal

pub returns : goal.returns
returns c = search (rules, start_exits)
