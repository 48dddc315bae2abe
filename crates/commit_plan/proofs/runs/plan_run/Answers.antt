-- `commit_plan::runs::plan_run` meets its contract.
-- Assumes nothing.
use Rattle.commit_plan.proofs.RunExits.{run_exits}
use borrow.Author.Rules.{rules}
use Rattle.commit_plan.proofs.runs.plan_run.Goals as goal

pub loop-init : goal.loop-init
loop-init c = search (rules, run_exits)

pub view_held-h-requires-clause-at_in_bounds_3 : goal.view_held-h-requires-clause-at_in_bounds_3
view_held-h-requires-clause-at_in_bounds_3 c = search (rules, run_exits)

pub view_held-h-requires-clause-gaps_hold_3 : goal.view_held-h-requires-clause-gaps_hold_3
view_held-h-requires-clause-gaps_hold_3 c = search (rules, run_exits)

pub plan_view-plan-requires-clause-view_ready_1 : goal.plan_view-plan-requires-clause-view_ready_1
plan_view-plan-requires-clause-view_ready_1 c = search (rules, run_exits)

pub loop-preserved : goal.loop-preserved
loop-preserved c = search (rules, run_exits)

pub returns : goal.returns
returns c = search (rules, run_exits)
