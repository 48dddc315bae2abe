-- `planned::plan_size` meets its contract.
-- Assumes nothing.
use Rattle.planned.proofs.PlanPut.{size_exits}
use borrow.Author.Rules.{rules}
use Rattle.planned.proofs.plan_size.Goals as goal

pub overflow_add-size : goal.overflow_add-size
overflow_add-size c = search (rules, size_exits)

pub overflow_add-size-in-loop-i : goal.overflow_add-size-in-loop-i
overflow_add-size-in-loop-i c = search (rules, size_exits)

pub loop-i-preserved : goal.loop-i-preserved
loop-i-preserved c = search (rules, size_exits)

pub returns : goal.returns
returns c = search (rules, size_exits)
