-- `commit_rows::rows::put_row` meets its contract.
-- Assumes nothing.
use Rattle.commit_rows.proofs.RowExits.{row_put}
use borrow.Author.Rules.{rules}
use Rattle.commit_rows.proofs.rows.put_row.Goals as goal

pub returns : goal.returns
returns c = search (rules, row_put)
