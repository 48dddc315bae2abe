-- `commit_outputs::parts::plan_outputs` meets its contract.
-- Assumes nothing.
use Rattle.commit_outputs.proofs.PartsExits.{parts_none, parts_onward, parts_exits}
use Rattle.std.proofs.lemmas.Bool.{not-true, not-false}
use borrow.Author.Rules.{rules}
use Rattle.commit_outputs.proofs.parts.plan_outputs.Goals as goal

pub loop-k-init : goal.loop-k-init
loop-k-init c = search (rules, parts_exits)

pub loop-k-preserved-then-not-h : goal.loop-k-preserved-then-not-h
loop-k-preserved-then-not-h c = parts_none c.loop-k.invariant (search rules) c.part_at-h.ensures (not-true _ c.if-not-h.true)

pub loop-k-preserved : goal.loop-k-preserved
loop-k-preserved c = parts_onward c.loop-k.invariant (search rules) c.part_at-h.ensures (not-false _ c.if-not-h.false) c.plan_part-plan.ensures

pub returns : goal.returns
returns c = search (rules, parts_exits)
