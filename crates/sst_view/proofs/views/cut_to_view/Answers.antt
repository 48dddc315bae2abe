-- `sst_view::views::cut_to_view` meets its contract.
-- Assumes nothing.
use Rattle.std.proofs.Common.{rules}
use Rattle.sst_view.proofs.CutExits.{cut_exits}
use Rattle.sst_view.proofs.views.cut_to_view.Goals as goal

pub returns-then-v : goal.returns-then-v
returns-then-v c = search (rules, cut_exits)

pub returns-then-v-2 : goal.returns-then-v-2
returns-then-v-2 c = search (rules, cut_exits)

pub returns-else-v-2 : goal.returns-else-v-2
returns-else-v-2 c = search (rules, cut_exits)
