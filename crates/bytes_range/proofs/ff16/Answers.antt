-- `bytes_range::ff16` meets its contract.
-- Assumes nothing.
use Rattle.bytes_range.proofs.Dropped.{ff_exits}
use borrow.Author.Rules.{rules}
use Rattle.bytes_range.proofs.ff16.Goals as goal

pub ff8-requires : goal.ff8-requires
ff8-requires c = search (rules, ff_exits)

pub overflow_add-i : goal.overflow_add-i
overflow_add-i c = search (rules, ff_exits)

pub ff8-requires-then-ff8 : goal.ff8-requires-then-ff8
ff8-requires-then-ff8 c = search (rules, ff_exits)

pub returns-then-ff8 : goal.returns-then-ff8
returns-then-ff8 c = search (rules, ff_exits)

pub returns : goal.returns
returns c = search (rules, ff_exits)
