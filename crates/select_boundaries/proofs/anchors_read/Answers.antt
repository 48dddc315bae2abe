-- `select_boundaries::anchors_read` meets its contract.
-- Assumes nothing.
use borrow.Author.Rules.{rules}
use Rattle.select_boundaries.proofs.AnchorExits.{tabling_exits}
use Rattle.select_boundaries.proofs.anchors_read.Goals as goal

pub loop-row-init : goal.loop-row-init
loop-row-init c = search (rules, tabling_exits)

pub loop-row-preserved : goal.loop-row-preserved
loop-row-preserved c = search (rules, tabling_exits)

pub returns : goal.returns
returns c = search (rules, tabling_exits)
