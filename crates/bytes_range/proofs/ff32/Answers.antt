-- `bytes_range::ff32` meets its contract.
-- Assumes nothing.
use Rattle.bytes_range.proofs.Dropped.{ff_exits}
use borrow.Author.Rules.{rules}
use Rattle.bytes_range.proofs.ff32.Goals as goal

pub ff16-requires : goal.ff16-requires
ff16-requires c = search (rules, ff_exits)

pub overflow_add-i : goal.overflow_add-i
overflow_add-i c = search (rules, ff_exits)

pub ff16-requires-then-ff16 : goal.ff16-requires-then-ff16
ff16-requires-then-ff16 c = search (rules, ff_exits)

pub returns-then-ff16 : goal.returns-then-ff16
returns-then-ff16 c = search (rules, ff_exits)

pub returns : goal.returns
returns c = search (rules, ff_exits)
