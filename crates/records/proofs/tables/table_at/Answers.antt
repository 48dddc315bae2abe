-- `records::table_at` meets its contract.
-- Assumes nothing.
use Rattle.records.proofs.TableExits.{table_exits}
use borrow.Author.Rules.{rules}
use Rattle.records.proofs.tables.table_at.Goals as goal

pub returns-in-Stop : goal.returns-in-Stop
returns-in-Stop c = search (rules, table_exits)

pub returns-in-Stop-key_at : goal.returns-in-Stop-key_at
returns-in-Stop-key_at c = search (rules, table_exits)

pub returns-in-At-last_at : goal.returns-in-At-last_at
returns-in-At-last_at c = search (rules, table_exits)
