-- `commit_durable::parts::planned_after` meets its contract.
-- Assumes nothing.
use Rattle.commit_durable.proofs.PartExits.{after_exits}
use borrow.Author.Rules.{rules}
use Rattle.commit_durable.proofs.parts.planned_after.Goals as goal

pub returns-then-first : goal.returns-then-first
returns-then-first c = search (rules, after_exits)

pub returns-else-first : goal.returns-else-first
returns-else-first c = search (rules, after_exits)

pub returns-else-half_open : goal.returns-else-half_open
returns-else-half_open c = search (rules, after_exits)
