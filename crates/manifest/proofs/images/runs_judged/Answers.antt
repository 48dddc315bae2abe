-- `manifest::runs_judged` meets its contract.
-- Assumes nothing.
use Rattle.manifest.proofs.ImageExits.{runs_exits}
use borrow.Author.Rules.{rules}
use Rattle.manifest.proofs.images.runs_judged.Goals as goal

pub returns-in-Stop : goal.returns-in-Stop
returns-in-Stop c = search (rules, runs_exits)

pub returns-in-Stop-views_judged : goal.returns-in-Stop-views_judged
returns-in-Stop-views_judged c = search (rules, runs_exits)

pub loop-seen-preserved : goal.loop-seen-preserved
loop-seen-preserved c = search (rules, runs_exits)

pub returns : goal.returns
returns c = search (rules, runs_exits)
