-- `commit_plan::plan::plan_one` meets its contract.
-- Assumes nothing.
use Rattle.commit_plan.proofs.OneExits.{one_destination, one_source, one_exits}
use borrow.Author.Rules.{rules}
use Rattle.commit_plan.proofs.plan.plan_one.Goals.{then-run-head, else-run-head+then-is_source}
use Rattle.commit_plan.proofs.plan.plan_one.Goals as goal

pub returns-else-is_source : goal.returns-else-is_source
returns-else-is_source c = search (rules, one_exits)

pub returns : goal.returns
returns c =
    elim c.if-run-head.branch [
      | then-run-head w ↦ rw w.kind-is (one_destination c.requires.fact_2 c.args.image.now c.args.ids.now c.args.run c.args.p c.args.rows.now c.plan_run-plan.ensures w.if-run-head.true)
      | else-run-head+then-is_source w ↦ rw w.kind-is (one_source c.requires.fact_2 c.args.image.now c.args.ids.now c.args.run c.args.p c.args.rows.now w.if-run-head.false w.is_source.ensures w.if-is_source.true c.plan_run-plan.ensures)
    ]
