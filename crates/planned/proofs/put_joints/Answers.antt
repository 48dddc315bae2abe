-- `planned::put_joints` meets its contract.
-- Assumes nothing.
use Rattle.planned.proofs.PlanPut.{put_exits}
use borrow.Author.Rules.{rules}
use Rattle.planned.proofs.put_joints.Goals as goal

pub put_joint-to-requires-clause-fact_2 : goal.put_joint-to-requires-clause-fact_2
put_joint-to-requires-clause-fact_2 c = search (rules, put_exits)

pub returns : goal.returns
returns c = search (rules, put_exits)
