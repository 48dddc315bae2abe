-- `planned::plan_size` meets its contract.
-- Assumes nothing.
use Rattle.planned.proofs.PlanPut.{Sizing}
use Rattle.planned.proofs.plan_size.Given as goal

abbrev pub invariant-loop-i : goal.invariant-loop-i
invariant-loop-i l = Sizing l.s l.marks l.n l.size l.i
