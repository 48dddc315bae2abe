-- `planned::boundaries` meets its contract.
-- Assumes nothing.
use Rattle.planned.proofs.Walking.{one_key_marked, walk_begin, mark_more, no_mark}
use borrow.Author.Rules.{rules}
use Rattle.planned.proofs.boundaries.Goals as goal
use Rattle.planned.proofs.boundaries.Goals.{then-begins, else-begins}

pub returns-then-same_key : goal.returns-then-same_key
returns-then-same_key c =
    let q = c.requires in
    one_key_marked _ _ _ _ _ q.rows_1 q.rows_4 _ _ _ (search rules) q.rows_3 c.same_key.ensures c.if-same_key.true

pub loop-i-init : goal.loop-i-init
loop-i-init c = search (rules, walk_begin)

pub loop-i-preserved : goal.loop-i-preserved
loop-i-preserved c =
    let p = c.loop-i.invariant in
    let h = c.loop-i-test.true in
    elim c.if-begins.branch [
      | then-begins w ↦
          rw (w.marks-is, w.last-is, w.count-is, w.threshold-is) (mark_more p h c.begins.ensures w.if-begins.true)
      | else-begins w ↦
          rw (w.marks-is, w.last-is, w.count-is, w.threshold-is) (no_mark p h c.begins.ensures w.if-begins.false)
    ]
