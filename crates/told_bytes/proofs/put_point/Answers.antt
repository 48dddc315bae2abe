-- `told_bytes::put_point` meets its contract.
-- Assumes nothing.
use Rattle.told_bytes.proofs.PutExits.{point_exits}
use borrow.Author.Rules.{rules}
use Rattle.told_bytes.proofs.put_point.Goals as goal

pub returns-else-out-lt17-clause-out_after : goal.returns-else-out-lt17-clause-out_after
returns-else-out-lt17-clause-out_after c = search (rules, point_exits)
