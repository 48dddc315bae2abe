-- `commit_plan::views::plan_view` meets its contract.
-- Assumes nothing.
use Rattle.commit_plan.proofs.ViewExits.{view_exits}
use borrow.Author.Rules.{rules}
use Rattle.commit_plan.proofs.views.plan_view.Goals as goal

pub loop-n-init : goal.loop-n-init
loop-n-init c = search (rules, view_exits)

pub next_piece-requires-clause-fact_2 : goal.next_piece-requires-clause-fact_2
next_piece-requires-clause-fact_2 c = search (rules, view_exits)

pub plan_piece-plan-requires-clause-fact_3 : goal.plan_piece-plan-requires-clause-fact_3
plan_piece-plan-requires-clause-fact_3 c = search (rules, view_exits)

pub loop-n-smaller : goal.loop-n-smaller
loop-n-smaller c = search (rules, view_exits)

pub loop-n-preserved : goal.loop-n-preserved
loop-n-preserved c = search (rules, view_exits)

pub returns : goal.returns
returns c = search (rules, view_exits)
