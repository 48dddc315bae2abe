-- `commit_entries::next_ten` meets its contract.
-- Assumes nothing.
use Rattle.commit_entries.proofs.RowExits.{ten_exits}
use borrow.Author.Rules.{rules}
use Rattle.commit_entries.proofs.next_ten.Goals as goal

pub returns-in-Some : goal.returns-in-Some
returns-in-Some c = search (rules, ten_exits)

pub returns-in_default : goal.returns-in_default
returns-in_default c = search (rules, ten_exits)

pub returns-else-p : goal.returns-else-p
returns-else-p c = search (rules, ten_exits)
