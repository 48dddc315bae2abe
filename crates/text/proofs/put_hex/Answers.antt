-- `text::put_hex` meets its contract, by what its loop keeps.
-- Assumes nothing.
use Rattle.text.proofs.Puts.{spells}
use borrow.Author.Rules.{rules}
use Rattle.text.proofs.put_hex.Goals as goal

pub bounds-out-to-in-loop-b : goal.bounds-out-to-in-loop-b
bounds-out-to-in-loop-b c = search (rules, spells)

pub returns-clause-value : goal.returns-clause-value
returns-clause-value c = search (rules, spells)
