-- `commit_durable::gaps::gaps_of` meets its contract.
-- Assumes nothing.
use Rattle.commit_durable.proofs.GapExits.{gaps_none, gaps_onward, gaps_exits}
use borrow.Author.Rules.{rules}
use Rattle.commit_durable.proofs.gaps.gaps_of.Goals.{then-p, else-p}
use Rattle.commit_durable.proofs.gaps.gaps_of.Goals as goal

pub loop-k-init : goal.loop-k-init
loop-k-init c = search (rules, gaps_exits)

pub loop-k-preserved : goal.loop-k-preserved
loop-k-preserved c =
    elim c.if-p.branch [
      | then-p w ↦ rw (w.gaps-is, w.made-is, w.from-is)
          (gaps_onward c.loop-k.invariant c.loop-k-test.true c.part_at-p.ensures w.if-p.true w.gap_to-gap.ensures w.put_gap.ensures w.gap_from-from.ensures)
      | else-p w ↦ rw (w.gaps-is, w.made-is, w.from-is) (gaps_none c.loop-k.invariant c.loop-k-test.true c.part_at-p.ensures w.if-p.false)
    ]

pub returns : goal.returns
returns c = search (rules, gaps_exits)
