-- `records::table_there` meets its contract.
-- Assumes nothing.
use Rattle.records.proofs.ThereExits.{table_there_exits}
use borrow.Author.Rules.{rules}
use Rattle.records.proofs.there.table_there.Goals as goal

pub returns : goal.returns
returns c = search (rules, table_there_exits)
