-- `format::put_number` meets its contract.
-- Assumes nothing.
use Rattle.format.proofs.Puts.{counts}
use borrow.Author.Rules.{rules}
use Rattle.format.proofs.write.put_number.Goals as goal

pub returns : goal.returns
returns c = search (rules, counts)
