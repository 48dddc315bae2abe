-- `commit_durable::parts::planned_fault` meets its contract.
-- Assumes nothing.
use Rattle.commit_durable.proofs.PartExits.{planned_exits}
use borrow.Author.Rules.{rules}
use Rattle.commit_durable.proofs.parts.planned_fault.Goals as goal

pub returns-then-passes : goal.returns-then-passes
returns-then-passes c = search (rules, planned_exits)

pub returns-else-passes : goal.returns-else-passes
returns-else-passes c = search (rules, planned_exits)
