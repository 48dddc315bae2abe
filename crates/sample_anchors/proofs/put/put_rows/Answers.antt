-- `sample_anchors::put::put_rows` meets its contract.
-- Assumes nothing.
use borrow.Author.Rules.{rules}
use Rattle.sample_anchors.proofs.PutExits.{put_rows_exits}
use Rattle.sample_anchors.proofs.put.put_rows.Goals as goal

pub loop-row-init : goal.loop-row-init
loop-row-init c = search (rules, put_rows_exits)

pub put_anchor-to-requires-clause-fact_2 : goal.put_anchor-to-requires-clause-fact_2
put_anchor-to-requires-clause-fact_2 c = search (rules, put_rows_exits)

pub loop-row-preserved : goal.loop-row-preserved
loop-row-preserved c = search (rules, put_rows_exits)
