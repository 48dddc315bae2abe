-- `commit_write::runs::put_head` meets its contract.
-- Assumes nothing.
use Rattle.commit_write.proofs.RunExits.{head_exits}
use borrow.Author.Rules.{rules}
use Rattle.commit_write.proofs.runs.put_head.Goals as goal

pub returns : goal.returns
returns c = search (rules, head_exits)
