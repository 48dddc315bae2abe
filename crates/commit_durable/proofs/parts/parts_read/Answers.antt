-- `commit_durable::parts::parts_read` meets its contract.
-- Assumes nothing.
use Rattle.commit_durable.proofs.PartExits.{parts_exits}
use borrow.Author.Rules.{rules}
use Rattle.commit_durable.proofs.parts.parts_read.Goals as goal

pub loop-seen-init : goal.loop-seen-init
loop-seen-init c = search (rules, parts_exits)

pub returns-in-Stop : goal.returns-in-Stop
returns-in-Stop c = search (rules, parts_exits)

pub loop-seen-preserved : goal.loop-seen-preserved
loop-seen-preserved c = search (rules, parts_exits)

pub returns : goal.returns
returns c = search (rules, parts_exits)
