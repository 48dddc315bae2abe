-- `bilqarush::from_prefix` meets its contract.
-- Assumes nothing.
use Rattle.bilqarush.proofs.Prefixes.{prefix_exits}
use borrow.Author.Rules.{rules}
use Rattle.bilqarush.proofs.from_prefix.Goals as goal

pub returns-then-prefix-gt1024 : goal.returns-then-prefix-gt1024
returns-then-prefix-gt1024 c = search (rules, prefix_exits)

pub slice_bounds-from_prefix_and_subrange-end : goal.slice_bounds-from_prefix_and_subrange-end
slice_bounds-from_prefix_and_subrange-end c = search (rules, prefix_exits)

pub slice_bounds-from_prefix_and_subrange-end-2 : goal.slice_bounds-from_prefix_and_subrange-end-2
slice_bounds-from_prefix_and_subrange-end-2 c = search (rules, prefix_exits)

pub from_prefix_and_subrange-requires : goal.from_prefix_and_subrange-requires
from_prefix_and_subrange-requires c = search (rules, prefix_exits)

pub shape_of-out : goal.shape_of-out
shape_of-out c = search (rules, prefix_exits)

pub returns : goal.returns
returns c = search (rules, prefix_exits)
