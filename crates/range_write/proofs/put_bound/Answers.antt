-- `range_write::put_bound` meets its contract.
-- Assumes nothing.
use Rattle.range_write.proofs.RangeExits.{bound_exits}
use borrow.Author.Rules.{rules}
use Rattle.range_write.proofs.put_bound.Goals as goal

pub returns-in-Unbounded : goal.returns-in-Unbounded
returns-in-Unbounded c = search (rules, bound_exits)
