-- `commit_durable::tables::part_at` meets its contract.
-- Assumes nothing.
use Rattle.commit_durable.proofs.TableExits.{part_found}
use borrow.Author.Rules.{rules}
use Rattle.commit_durable.proofs.tables.part_at.Goals as goal

pub returns : goal.returns
returns c = search (rules, part_found)
