-- `commit_rows::parts::part_row` meets its contract.
-- Assumes nothing.
use Rattle.commit_rows.proofs.RowExits.{part_read_lem}
use borrow.Author.Rules.{rules}
use Rattle.commit_rows.proofs.parts.part_row.Goals as goal

pub returns : goal.returns
returns c = search (rules, part_read_lem)
