-- `bytes_range::fewer` meets its contract.
-- Assumes nothing.
use Rattle.bytes_range.proofs.Dropped.{drop_exits}
use borrow.Author.Rules.{rules}
use Rattle.bytes_range.proofs.fewer.Goals as goal

pub ff64-requires : goal.ff64-requires
ff64-requires c = search (rules, drop_exits)

pub returns-then-ff64 : goal.returns-then-ff64
returns-then-ff64 c = search (rules, drop_exits)

pub ff8-requires : goal.ff8-requires
ff8-requires c = search (rules, drop_exits)

pub returns-then-ff8 : goal.returns-then-ff8
returns-then-ff8 c = search (rules, drop_exits)

pub overflow_sub-result-2 : goal.overflow_sub-result-2
overflow_sub-result-2 c = search (rules, drop_exits)

pub returns : goal.returns
returns c = search (rules, drop_exits)
