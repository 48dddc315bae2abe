-- `commit::stages::apply` meets its contract.
-- Assumes nothing.
use Rattle.commit.proofs.StageLaws.{apply_exits}
use borrow.Author.Rules.{rules}
use Rattle.commit.proofs.stages.apply.Goals as goal

pub returns-then-fault-lt12-clause-value : goal.returns-then-fault-lt12-clause-value
returns-then-fault-lt12-clause-value c = search (rules, apply_exits)

pub returns-then-fault-lt12-clause-out_after : goal.returns-then-fault-lt12-clause-out_after
returns-then-fault-lt12-clause-out_after c = search (rules, apply_exits)

pub apply_stages-requires-clause-fact_1 : goal.apply_stages-requires-clause-fact_1
apply_stages-requires-clause-fact_1 c = search (rules, apply_exits)

pub returns-clause-value : goal.returns-clause-value
returns-clause-value c = search (rules, apply_exits)

pub returns-clause-out_after : goal.returns-clause-out_after
returns-clause-out_after c = search (rules, apply_exits)
