-- `commit_durable::outputs::table_fault` meets its contract.
-- Assumes nothing.
use Rattle.commit_durable.proofs.OutputExits.{table_exits}
use borrow.Author.Rules.{rules}
use Rattle.commit_durable.proofs.outputs.table_fault.Goals as goal

pub returns-then-not-keys_in_order : goal.returns-then-not-keys_in_order
returns-then-not-keys_in_order c = search (rules, table_exits)

pub returns-then-not-size_passes : goal.returns-then-not-size_passes
returns-then-not-size_passes c = search (rules, table_exits)

pub returns-else-not-size_passes : goal.returns-else-not-size_passes
returns-else-not-size_passes c = search (rules, table_exits)
