-- `visible_size::fraction::same_range` meets its contract, by the order of the starts.
-- Assumes nothing.
use Rattle.std.proofs.Common.{rules}
use Rattle.visible_size.proofs.RangeExits.{same_exits}
use Rattle.visible_size.proofs.fraction.same_range.Goals as goal

pub returns-then-is_eq : goal.returns-then-is_eq
returns-then-is_eq c = search (rules, same_exits)

pub returns-else-is_eq : goal.returns-else-is_eq
returns-else-is_eq c = search (rules, same_exits)
