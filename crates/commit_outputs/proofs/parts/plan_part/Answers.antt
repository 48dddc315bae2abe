-- `commit_outputs::parts::plan_part` meets its contract.
-- Assumes nothing.
use Rattle.commit_outputs.proofs.PartExits.{part_exits}
use borrow.Author.Rules.{rules}
use Rattle.commit_outputs.proofs.parts.plan_part.Goals as goal

pub loop-init : goal.loop-init
loop-init c = search (rules, part_exits)

pub table_there-t-requires : goal.table_there-t-requires
table_there-t-requires c = search (rules, part_exits)

pub loop-preserved : goal.loop-preserved
loop-preserved c = search (rules, part_exits)

pub returns : goal.returns
returns c = search (rules, part_exits)
