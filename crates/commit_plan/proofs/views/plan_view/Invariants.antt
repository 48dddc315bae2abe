-- `commit_plan::views::plan_view` meets its contract.
-- Assumes nothing.
use Rattle.commit_plan.proofs.ViewExits.{ViewSeen}
use Prim.Native.Nat.{◌-◌}
use Rattle.commit_plan.proofs.views.plan_view.Given as goal

abbrev pub invariant-loop-n : goal.invariant-loop-n
invariant-loop-n l = ViewSeen l.image l.job l.ids l.gaps l.m l.h l.initial.plan l.initial.rows l.g l.plan l.rows

abbrev pub decreases-loop-n : goal.decreases-loop-n
decreases-loop-n l = l.m - l.g
