-- `commit_plan::held::view_held` meets its contract.
-- Assumes nothing.
use Rattle.commit_plan.proofs.HeldExits.{held_exits}
use borrow.Author.Rules.{rules}
use Rattle.commit_plan.proofs.held.view_held.Goals as goal

pub returns-clause-held_at : goal.returns-clause-held_at
returns-clause-held_at c = search (rules, held_exits)
