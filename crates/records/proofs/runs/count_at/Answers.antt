-- `records::count_at` meets its contract.
-- Assumes nothing.
use Rattle.records.proofs.HeadExits.{count_exits}
use borrow.Author.Rules.{rules}
use Rattle.records.proofs.runs.count_at.Goals as goal

pub returns-then-most-count : goal.returns-then-most-count
returns-then-most-count c = search (rules, count_exits)
