-- `commit_durable::outputs::output_between` meets its contract.
-- Assumes nothing.
use mathlib.Core.Path.{sym, ◌∙◌}
use Rattle.commit_durable.proofs.OutputExits.{begins_before, ends_within, ends_after}
use Rattle.commit_durable.proofs.outputs.output_between.Goals.{then-is_le, else-is_le}
use Rattle.commit_durable.proofs.outputs.output_between.Goals as goal

pub returns-then-is_le-2 : goal.returns-then-is_le-2
returns-then-is_le-2 c =
    elim c.if-is_le.branch [
      | then-is_le w ↦ ends_within c.args.job.now c.args.start c.args.end c.args.t c.own_start.ensures c.compare.ensures c.is_le.ensures w.own_end.ensures w.compare-then-is_le.ensures w.is_le-then-is_le.ensures w.if-is_le.true (sym w.value-is ∙ c.if-is_le-2.true)
      | else-is_le w ↦ absurd (cc (w.value-is, w.if-is_le.false, c.if-is_le-2.true))
    ]

pub returns-else-is_le-2 : goal.returns-else-is_le-2
returns-else-is_le-2 c =
    c.if-is_le-2.false
    ∙ elim c.if-is_le.branch [
      | then-is_le w ↦ ends_after c.args.job.now c.args.start c.args.end c.args.t c.own_start.ensures c.compare.ensures c.is_le.ensures w.own_end.ensures w.compare-then-is_le.ensures w.is_le-then-is_le.ensures w.if-is_le.true (sym w.value-is ∙ c.if-is_le-2.false)
      | else-is_le w ↦ begins_before c.args.job.now c.args.start c.args.end c.args.t c.own_start.ensures c.compare.ensures c.is_le.ensures w.if-is_le.false
    ]
