-- `sst_view::views::view_kept` meets its contract.
-- Assumes nothing.
use Rattle.std.proofs.Common.{rules}
use Rattle.sst_view.proofs.PlaceExits.{in_run_exits}
use Rattle.sst_view.proofs.KeptExits.{kept_exits}
use Rattle.sst_view.proofs.views.view_kept.Goals as goal

pub views_end-requires-clause-fact_2 : goal.views_end-requires-clause-fact_2
views_end-requires-clause-fact_2 c = search (rules, in_run_exits, kept_exits)

pub view_there-v-requires : goal.view_there-v-requires
view_there-v-requires c = search (rules, in_run_exits, kept_exits)

pub start_at-requires : goal.start_at-requires
start_at-requires c = search (rules, in_run_exits, kept_exits)

pub returns-then-place-r : goal.returns-then-place-r
returns-then-place-r c = search (rules, in_run_exits, kept_exits)

pub returns-else-place-r : goal.returns-else-place-r
returns-else-place-r c = search (rules, in_run_exits, kept_exits)
