-- `planned::put_joint` meets its contract.
-- Assumes nothing.
use Rattle.planned.proofs.PlanPut.{joint_exits}
use borrow.Author.Rules.{rules}
use Rattle.planned.proofs.put_joint.Goals as goal

pub put_key-head-requires-clause-fact_2 : goal.put_key-head-requires-clause-fact_2
put_key-head-requires-clause-fact_2 c = search (rules, joint_exits)

pub returns-clause-value : goal.returns-clause-value
returns-clause-value c = search (rules, joint_exits)

pub returns-clause-out_after : goal.returns-clause-out_after
returns-clause-out_after c = search (rules, joint_exits)
