-- `commit_durable::durable::row_of` meets its contract.
-- Assumes nothing.
use Rattle.commit_durable.proofs.DurableExits.{row_exits}
use borrow.Author.Rules.{rules}
use Rattle.commit_durable.proofs.durable.row_of.Goals as goal

pub returns-then-o : goal.returns-then-o
returns-then-o c = search (rules, row_exits)

pub returns-else-o : goal.returns-else-o
returns-else-o c = search (rules, row_exits)
