-- `commit_rows::rows::row_at` meets its contract.
-- Assumes nothing.
use Rattle.commit_rows.proofs.RowExits.{row_read}
use borrow.Author.Rules.{rules}
use Rattle.commit_rows.proofs.rows.row_at.Goals as goal

pub returns : goal.returns
returns c = search (rules, row_read)
