-- `bilqarush_c::bilqarush_intersect_end_key` meets its contract.
-- Assumes nothing.
use Rattle.bilqarush_c.proofs.TellExits.{end_told}
use borrow.Author.Rules.{rules}
use Rattle.bilqarush_c.proofs.bilqarush_intersect_end_key.Goals as goal

pub returns : goal.returns
returns c = search (rules, end_told)
