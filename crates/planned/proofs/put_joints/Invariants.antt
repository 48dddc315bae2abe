-- `planned::put_joints` meets its contract.
-- Assumes nothing.
use Rattle.planned.proofs.PlanPut.{Putting}
use Rattle.planned.proofs.put_joints.Given as goal

abbrev pub invariant-loop-i : goal.invariant-loop-i
invariant-loop-i l = Putting l.s l.marks l.n l.initial.out l.out l.to l.i
