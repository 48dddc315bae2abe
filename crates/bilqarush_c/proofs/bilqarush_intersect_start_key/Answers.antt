-- `bilqarush_c::bilqarush_intersect_start_key` meets its contract.
-- Assumes nothing.
use Rattle.bilqarush_c.proofs.TellExits.{start_told}
use borrow.Author.Rules.{rules}
use Rattle.bilqarush_c.proofs.bilqarush_intersect_start_key.Goals as goal

pub returns : goal.returns
returns c = search (rules, start_told)
