-- `records::known_count` meets its contract.
-- Assumes nothing.
use Rattle.records.proofs.ThereExits.{known_count_exits}
use borrow.Author.Rules.{rules}
use Rattle.records.proofs.there.known_count.Goals as goal

pub returns : goal.returns
returns c = search (rules, known_count_exits)
