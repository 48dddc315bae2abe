-- `format::key_there` meets its contract.
-- Assumes nothing.
use Rattle.format.proofs.ThereExits.{key_there_exits}
use borrow.Author.Rules.{rules}
use Rattle.format.proofs.there.key_there.Goals as goal

pub returns : goal.returns
returns c = search (rules, key_there_exits)
