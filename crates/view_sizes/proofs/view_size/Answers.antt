-- `view_sizes::view_size` meets its contract.
-- Assumes nothing.
use Rattle.std.proofs.Common.{rules}
use Rattle.view_sizes.proofs.SizeExits.{size_exits}
use Rattle.view_sizes.proofs.view_size.Goals as goal

pub overflow_add-raw : goal.overflow_add-raw
overflow_add-raw c = search (rules, size_exits)

pub visible_size-requires-clause-fact_1 : goal.visible_size-requires-clause-fact_1
visible_size-requires-clause-fact_1 c = search (rules, size_exits)

pub returns-then-v : goal.returns-then-v
returns-then-v c = search (rules, size_exits)

pub returns-else-v : goal.returns-else-v
returns-else-v c = search (rules, size_exits)
