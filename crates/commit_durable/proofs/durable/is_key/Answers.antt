-- `commit_durable::durable::is_key` meets its contract.
-- Assumes nothing.
use Rattle.commit_durable.proofs.DurableExits.{key_exits}
use borrow.Author.Rules.{rules}
use Rattle.commit_durable.proofs.durable.is_key.Goals as goal

pub returns-then-keyed : goal.returns-then-keyed
returns-then-keyed c = search (rules, key_exits)

pub returns-else-keyed : goal.returns-else-keyed
returns-else-keyed c = search (rules, key_exits)
