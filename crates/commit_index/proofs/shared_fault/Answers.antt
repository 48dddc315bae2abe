-- `commit_index::shared_fault` meets its contract.
-- Assumes nothing.
use Rattle.commit_index.proofs.ImageExits.{shared_exits}
use borrow.Author.Rules.{rules}
use Rattle.commit_index.proofs.shared_fault.Goals as goal

pub returns-then-id_among : goal.returns-then-id_among
returns-then-id_among c = search (rules, shared_exits)

pub returns-else-id_among : goal.returns-else-id_among
returns-else-id_among c = search (rules, shared_exits)
