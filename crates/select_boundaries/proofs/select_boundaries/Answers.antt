-- `select_boundaries::select_boundaries` meets its contract.
-- Assumes nothing.
use borrow.Author.Rules.{rules}
use Rattle.select_boundaries.proofs.SelectExits.{select_exits}
use Rattle.select_boundaries.proofs.select_boundaries.Goals as goal

pub returns-in-At-clause-out_after : goal.returns-in-At-clause-out_after
returns-in-At-clause-out_after c = search (rules, select_exits)

pub returns-in-At-2-clause-out_after : goal.returns-in-At-2-clause-out_after
returns-in-At-2-clause-out_after c = search (rules, select_exits)
