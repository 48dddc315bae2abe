-- `from_compaction::ranges::measured` meets its contract.
-- Assumes nothing.
use Rattle.from_compaction.proofs.RangeExits.{measure_one, measure_none, measure_exits}
use borrow.Author.Rules.{rules}
use Rattle.from_compaction.proofs.ranges.measured.Goals.{then-p, else-p}
use Rattle.from_compaction.proofs.ranges.measured.Goals as goal

pub loop-k-init : goal.loop-k-init
loop-k-init c = search (rules, measure_exits)

pub loop-k-preserved : goal.loop-k-preserved
loop-k-preserved c =
    elim c.if-p.branch [
      | then-p w ↦ rw (w.count-is, w.bytes-is) (measure_one c.loop-k.invariant c.loop-k-test.true c.part_at-p.ensures w.part_size-bytes.ensures w.if-p.true)
      | else-p w ↦ rw (w.count-is, w.bytes-is) (measure_none c.loop-k.invariant c.loop-k-test.true c.part_at-p.ensures w.if-p.false)
    ]

pub returns : goal.returns
returns c = search (rules, measure_exits)
