-- `range_write::put_range` meets its contract.
-- Assumes nothing.
use Rattle.range_write.proofs.RangeExits.{range_exits}
use borrow.Author.Rules.{rules}
use Rattle.range_write.proofs.put_range.Goals as goal

pub put_byte-requires : goal.put_byte-requires
put_byte-requires c = search (rules, range_exits)

pub put_bound-requires : goal.put_bound-requires
put_bound-requires c = search (rules, range_exits)

pub returns : goal.returns
returns c = search (rules, range_exits)
