-- `manifest::blocks_judged` meets its contract.
-- Assumes nothing.
use Rattle.manifest.proofs.IndexExits.{blocks_exits}
use borrow.Author.Rules.{rules}
use Rattle.manifest.proofs.indexes.blocks_judged.Goals as goal

pub returns-in-Stop : goal.returns-in-Stop
returns-in-Stop c = search (rules, blocks_exits)

pub loop-preserved : goal.loop-preserved
loop-preserved c = search (rules, blocks_exits)

pub returns : goal.returns
returns c = search (rules, blocks_exits)
