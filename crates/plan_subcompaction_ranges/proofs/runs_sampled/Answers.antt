-- `plan_subcompaction_ranges::runs_sampled` meets its contract.
-- Assumes nothing.
use borrow.Author.Rules.{rules}
use Rattle.plan_subcompaction_ranges.proofs.WalkExits.{runs_exits}
use Rattle.plan_subcompaction_ranges.proofs.runs_sampled.Goals as goal

pub run_there-r-requires : goal.run_there-r-requires
run_there-r-requires c = search (rules, runs_exits)

pub views_sampled-requires-clause-fact_1 : goal.views_sampled-requires-clause-fact_1
views_sampled-requires-clause-fact_1 c = search (rules, runs_exits)

pub returns-in-Stop : goal.returns-in-Stop
returns-in-Stop c = search (rules, runs_exits)

pub returns : goal.returns
returns c = search (rules, runs_exits)
