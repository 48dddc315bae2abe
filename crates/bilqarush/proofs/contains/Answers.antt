-- `bilqarush::contains` meets its contract, check by check.
-- Assumes nothing.
use Rattle.bilqarush.proofs.Checks.{range_exits}
use borrow.Author.Rules.{rules}
use Rattle.bilqarush.proofs.contains.Goals as goal

pub returns-then-passes : goal.returns-then-passes
returns-then-passes c = search (rules, range_exits)
