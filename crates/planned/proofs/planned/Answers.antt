-- `planned::planned` meets its contract.
-- Assumes nothing.
use Rattle.planned.proofs.Choosing.{planned_exits}
use borrow.Author.Rules.{rules}
use Rattle.planned.proofs.planned.Goals as goal

pub returns-clause-out_after : goal.returns-clause-out_after
returns-clause-out_after g c = search (rules, planned_exits)
