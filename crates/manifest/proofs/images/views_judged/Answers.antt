-- `manifest::views_judged` meets its contract.
-- Assumes nothing.
use Rattle.manifest.proofs.ImageExits.{views_exits}
use borrow.Author.Rules.{rules}
use Rattle.manifest.proofs.images.views_judged.Goals as goal

pub returns-in-Stop : goal.returns-in-Stop
returns-in-Stop c = search (rules, views_exits)

pub loop-preserved : goal.loop-preserved
loop-preserved c = search (rules, views_exits)

pub returns : goal.returns
returns c = search (rules, views_exits)
