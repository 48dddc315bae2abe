-- `commit_write::views::put_new_id` meets its contract.
-- Assumes nothing.
use Rattle.commit_write.proofs.ViewExits.{id_exits}
use borrow.Author.Rules.{rules}
use Rattle.commit_write.proofs.views.put_new_id.Goals as goal

pub returns : goal.returns
returns c = search (rules, id_exits)
