-- `commit_index::runs_indexed` meets its contract.
-- Assumes nothing.
use Rattle.commit_index.proofs.ImageExits.{runs_exits}
use borrow.Author.Rules.{rules}
use Rattle.commit_index.proofs.runs_indexed.Goals as goal

pub loop-seen-init : goal.loop-seen-init
loop-seen-init c = search (rules, runs_exits)

pub returns-in-Stop : goal.returns-in-Stop
returns-in-Stop c = search (rules, runs_exits)

pub loop-seen-preserved : goal.loop-seen-preserved
loop-seen-preserved c = search (rules, runs_exits)

pub returns : goal.returns
returns c = search (rules, runs_exits)
