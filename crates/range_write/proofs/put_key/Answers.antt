-- `range_write::put_key` meets its contract.
-- Assumes nothing.
use Rattle.range_write.proofs.RangeExits.{key_exits}
use borrow.Author.Rules.{rules}
use Rattle.range_write.proofs.put_key.Goals as goal

pub put_number-requires : goal.put_number-requires
put_number-requires c = search (rules, key_exits)

pub returns : goal.returns
returns c = search (rules, key_exits)
