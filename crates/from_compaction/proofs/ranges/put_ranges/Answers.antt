-- `from_compaction::ranges::put_ranges` meets its contract.
-- Assumes nothing.
use Rattle.from_compaction.proofs.RangeExits.{put_more, put_skip, put_exits}
use borrow.Author.Rules.{rules}
use Rattle.from_compaction.proofs.ranges.put_ranges.Goals.{then-p, else-p}
use Rattle.from_compaction.proofs.ranges.put_ranges.Goals as goal

pub loop-k-init : goal.loop-k-init
loop-k-init c = search (rules, put_exits)

pub put_part-to-requires-clause-fact_3 : goal.put_part-to-requires-clause-fact_3
put_part-to-requires-clause-fact_3 c = search (rules, put_exits)

pub loop-k-preserved : goal.loop-k-preserved
loop-k-preserved c =
    elim c.if-p.branch [
      | then-p w ↦ rw (w.out-is, w.to-is) (put_more c.loop-k.invariant c.loop-k-test.true c.part_at-p.ensures w.if-p.true w.put_part-to.ensures)
      | else-p w ↦ rw (w.out-is, w.to-is) (put_skip c.loop-k.invariant c.loop-k-test.true c.part_at-p.ensures w.if-p.false)
    ]

pub returns : goal.returns
returns c = search (rules, put_exits)
