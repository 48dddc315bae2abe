-- `commit_covered::outputs::keep_part` meets its contract.
-- Assumes nothing.
use Rattle.commit_covered.proofs.OutputExits.{part_exits}
use borrow.Author.Rules.{rules}
use Rattle.commit_covered.proofs.outputs.keep_part.Goals as goal

pub table_there-t-requires : goal.table_there-t-requires
table_there-t-requires c = search (rules, part_exits)

pub keep-requires-clause-fact_1 : goal.keep-requires-clause-fact_1
keep-requires-clause-fact_1 c = search (rules, part_exits)

pub loop-seen-preserved : goal.loop-seen-preserved
loop-seen-preserved c = search (rules, part_exits)
