-- `commit_plan::plan::plan_runs` meets its contract.
-- Assumes nothing.
use Rattle.commit_plan.proofs.RunsExits.{runs_exits}
use borrow.Author.Rules.{rules}
use Rattle.commit_plan.proofs.plan.plan_runs.Goals as goal

pub loop-k-init : goal.loop-k-init
loop-k-init c = search (rules, runs_exits)

pub plan_one-one-requires-clause-fact_1 : goal.plan_one-one-requires-clause-fact_1
plan_one-one-requires-clause-fact_1 c = search (rules, runs_exits)

pub count_run-a-requires-clause-fact_2 : goal.count_run-a-requires-clause-fact_2
count_run-a-requires-clause-fact_2 c = search (rules, runs_exits)

pub loop-k-preserved : goal.loop-k-preserved
loop-k-preserved c = search (rules, runs_exits, c.indexed_run-run.ensures, c.plan_one-one.ensures, c.count_run-a.ensures)

pub returns-clause-commit_planned : goal.returns-clause-commit_planned
returns-clause-commit_planned c = search (rules, runs_exits)
