-- `planned::boundaries` meets its contract.
-- Assumes nothing.
use Rattle.planned.proofs.Walking.{Walking}
use Rattle.planned.proofs.boundaries.Given as goal

abbrev pub invariant-loop-i : goal.invariant-loop-i
invariant-loop-i l =
    Walking l.s l.keys l.bytes l.order l.n l.parts l.goal l.initial.marks l.marks l.last l.count l.threshold l.reached l.i
