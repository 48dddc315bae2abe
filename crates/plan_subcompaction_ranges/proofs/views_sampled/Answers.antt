-- `plan_subcompaction_ranges::views_sampled` meets its contract.
-- Assumes nothing.
use borrow.Author.Rules.{rules}
use Rattle.plan_subcompaction_ranges.proofs.WalkExits.{views_exits}
use Rattle.plan_subcompaction_ranges.proofs.views_sampled.Goals as goal

pub view_there-v-requires : goal.view_there-v-requires
view_there-v-requires c = search (rules, views_exits)

pub returns-in-Stop-clause-sampled_more : goal.returns-in-Stop-clause-sampled_more
returns-in-Stop-clause-sampled_more c = search (rules, views_exits)

pub returns-clause-sampled_more : goal.returns-clause-sampled_more
returns-clause-sampled_more c = search (rules, views_exits)

pub returns-clause-views_past : goal.returns-clause-views_past
returns-clause-views_past c = search (rules, views_exits)
