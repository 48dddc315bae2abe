-- `planned::put_plan` meets its contract.
-- Assumes nothing.
use Rattle.planned.proofs.PlanPut.{plan_exits, joints_room}
use borrow.Author.Rules.{rules}
use Rattle.planned.proofs.put_plan.Goals as goal

pub put_joints-requires-clause-fact_2 : goal.put_joints-requires-clause-fact_2
put_joints-requires-clause-fact_2 c =
    let a = c.args in
    joints_room a.s.now a.marks.now a.n (search rules) (search rules) a.out.now (search rules) c.put_byte.ensures _ c.put_byte-2.ensures

pub returns : goal.returns
returns c = search (rules, plan_exits)
