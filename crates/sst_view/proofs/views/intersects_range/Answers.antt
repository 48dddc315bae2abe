-- `sst_view::views::intersects_range` meets its contract.
-- Assumes nothing.
use Rattle.std.proofs.Common.{rules}
use Rattle.sst_view.proofs.ViewCalls.{intersects_exits}
use Rattle.sst_view.proofs.views.intersects_range.Goals as goal

pub view_intersects-requires-clause-fact_2 : goal.view_intersects-requires-clause-fact_2
view_intersects-requires-clause-fact_2 c = search (rules, intersects_exits)

pub returns-in-Stop : goal.returns-in-Stop
returns-in-Stop c = search (rules, intersects_exits)

pub returns-in-Stop-view_in_image : goal.returns-in-Stop-view_in_image
returns-in-Stop-view_in_image c = search (rules, intersects_exits)

pub returns-in-At-view_in_image : goal.returns-in-At-view_in_image
returns-in-At-view_in_image c = search (rules, intersects_exits)
