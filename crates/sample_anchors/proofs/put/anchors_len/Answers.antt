-- `sample_anchors::put::anchors_len` meets its contract.
-- Assumes nothing.
use borrow.Author.Rules.{rules}
use Rattle.sample_anchors.proofs.PutExits.{len_exits}
use Rattle.sample_anchors.proofs.put.anchors_len.Goals as goal

pub loop-row-preserved : goal.loop-row-preserved
loop-row-preserved c = search (rules, len_exits)
