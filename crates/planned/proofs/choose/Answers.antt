-- `planned::choose` meets its contract.
-- Assumes nothing.
use Rattle.planned.proofs.Choosing.{none_chosen}
use borrow.Author.Rules.{rules}
use Rattle.planned.proofs.choose.Goals as goal

pub returns-then-goal-eq0 : goal.returns-then-goal-eq0
returns-then-goal-eq0 g c = search (rules, none_chosen)
