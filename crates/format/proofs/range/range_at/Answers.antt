-- `format::range_at` meets its contract.
-- Assumes nothing.
use Rattle.format.proofs.Ranges.{range_exits}
use borrow.Author.Rules.{rules}
use Rattle.format.proofs.range.range_at.Goals as goal

pub returns-in-Stop-bound_at : goal.returns-in-Stop-bound_at
returns-in-Stop-bound_at c = search (rules, range_exits)

pub returns-in-At-bound_at : goal.returns-in-At-bound_at
returns-in-At-bound_at c = search (rules, range_exits)
