-- `commit_outputs::output::ends_at` meets its contract.
-- Assumes nothing.
use Rattle.commit_outputs.proofs.OutputExits.{ends_exits}
use borrow.Author.Rules.{rules}
use Rattle.commit_outputs.proofs.output.ends_at.Goals as goal

pub returns-then-t : goal.returns-then-t
returns-then-t c = search (rules, ends_exits)

pub returns-else-t : goal.returns-else-t
returns-else-t c = search (rules, ends_exits)
