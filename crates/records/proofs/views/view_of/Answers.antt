-- `records::view_of` meets its contract.
-- Assumes nothing.
use Rattle.records.proofs.ViewExits.{view_of_exits}
use borrow.Author.Rules.{rules}
use Rattle.records.proofs.views.view_of.Goals as goal

pub returns-in-Stop : goal.returns-in-Stop
returns-in-Stop c = search (rules, view_of_exits)
