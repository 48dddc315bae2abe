-- `bilqarush::cmp_bound` meets its contract, bound by bound.
-- Assumes nothing.
use Rattle.bilqarush.proofs.Checks.{bound_exits}
use borrow.Author.Rules.{rules}
use Rattle.bilqarush.proofs.cmp_bound.Goals as goal

pub returns-in-Bound-bound_given : goal.returns-in-Bound-bound_given
returns-in-Bound-bound_given c = search (rules, bound_exits)
