-- `told_bytes::put_joined` meets its contract.
-- Assumes nothing.
use Rattle.told_bytes.proofs.PutExits.{joined_exits}
use borrow.Author.Rules.{rules}
use Rattle.told_bytes.proofs.put_joined.Goals as goal

pub returns-else-out-lt37-clause-out_after : goal.returns-else-out-lt37-clause-out_after
returns-else-out-lt37-clause-out_after c = search (rules, joined_exits)
