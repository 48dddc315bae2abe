-- `commit_covered::ids::entry` meets its contract.
-- Assumes nothing.
use Rattle.commit_covered.proofs.IdExits.{entry_exits}
use borrow.Author.Rules.{rules}
use Rattle.commit_covered.proofs.ids.entry.Goals as goal

pub returns : goal.returns
returns c = search (rules, entry_exits)
