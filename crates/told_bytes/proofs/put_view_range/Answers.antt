-- `told_bytes::put_view_range` meets its contract.
-- Assumes nothing.
use Rattle.told_bytes.proofs.PutExits.{view_exits}
use borrow.Author.Rules.{rules}
use Rattle.told_bytes.proofs.put_view_range.Goals as goal

pub returns-else-out-lt34-clause-out_after : goal.returns-else-out-lt34-clause-out_after
returns-else-out-lt34-clause-out_after c = search (rules, view_exits)
