-- `plan_subcompaction_ranges::plan_subcompaction_ranges` meets its contract.
-- Assumes nothing.
use borrow.Author.Rules.{rules}
use Rattle.plan_subcompaction_ranges.proofs.PlanCallExits.{call_exits}
use Rattle.plan_subcompaction_ranges.proofs.plan_subcompaction_ranges.Goals as goal

pub plan_sampled-requires-clause-parts_bound_2 : goal.plan_sampled-requires-clause-parts_bound_2
plan_sampled-requires-clause-parts_bound_2 c = search (rules, call_exits)

pub plan_sampled-requires-else-indexes-le640-clause-parts_bound_2 : goal.plan_sampled-requires-else-indexes-le640-clause-parts_bound_2
plan_sampled-requires-else-indexes-le640-clause-parts_bound_2 c = search (rules, call_exits)
