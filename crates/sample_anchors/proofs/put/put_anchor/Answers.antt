-- `sample_anchors::put::put_anchor` meets its contract.
-- Assumes nothing.
use borrow.Author.Rules.{rules}
use Rattle.sample_anchors.proofs.PutExits.{put_anchor_exits}
use Rattle.sample_anchors.proofs.put.put_anchor.Goals as goal

pub put_key-next-requires-clause-fact_2 : goal.put_key-next-requires-clause-fact_2
put_key-next-requires-clause-fact_2 c = search (rules, put_anchor_exits)

pub returns-clause-value : goal.returns-clause-value
returns-clause-value c = search (rules, put_anchor_exits)
