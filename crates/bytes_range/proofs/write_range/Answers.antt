-- `bytes_range::write_range` meets its contract.
-- Assumes nothing.
use Rattle.bytes_range.proofs.RangePut.{range_puts}
use borrow.Author.Rules.{rules}
use Rattle.bytes_range.proofs.write_range.Goals as goal

pub returns : goal.returns
returns c = search (rules, range_puts)
