-- `bytes_range::ff64` meets its contract.
-- Assumes nothing.
use Rattle.bytes_range.proofs.Dropped.{ff_exits}
use borrow.Author.Rules.{rules}
use Rattle.bytes_range.proofs.ff64.Goals as goal

pub ff32-requires : goal.ff32-requires
ff32-requires c = search (rules, ff_exits)

pub overflow_add-i : goal.overflow_add-i
overflow_add-i c = search (rules, ff_exits)

pub ff32-requires-then-ff32 : goal.ff32-requires-then-ff32
ff32-requires-then-ff32 c = search (rules, ff_exits)

pub returns-then-ff32 : goal.returns-then-ff32
returns-then-ff32 c = search (rules, ff_exits)

pub returns : goal.returns
returns c = search (rules, ff_exits)
