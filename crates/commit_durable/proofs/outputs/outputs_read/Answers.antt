-- `commit_durable::outputs::outputs_read` meets its contract.
-- Assumes nothing.
use Rattle.commit_durable.proofs.OutputExits.{outputs_exits}
use borrow.Author.Rules.{rules}
use Rattle.commit_durable.proofs.outputs.outputs_read.Goals as goal

pub loop-init : goal.loop-init
loop-init c = search (rules, outputs_exits)

pub returns-in-Stop : goal.returns-in-Stop
returns-in-Stop c = search (rules, outputs_exits)

pub loop-preserved : goal.loop-preserved
loop-preserved c = search (rules, outputs_exits)

pub returns : goal.returns
returns c = search (rules, outputs_exits)
