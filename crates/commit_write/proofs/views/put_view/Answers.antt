-- `commit_write::views::put_view` meets its contract.
-- Assumes nothing.
use Rattle.commit_write.proofs.ViewExits.{view_exits}
use borrow.Author.Rules.{rules}
use Rattle.commit_write.proofs.views.put_view.Goals as goal

pub put_part-requires : goal.put_part-requires
put_part-requires c = search (rules, view_exits)

pub put_output-requires-clause-fact_3 : goal.put_output-requires-clause-fact_3
put_output-requires-clause-fact_3 c = search (rules, view_exits)

pub returns-in-Whole : goal.returns-in-Whole
returns-in-Whole c = search (rules, view_exits)

pub returns-in-Output : goal.returns-in-Output
returns-in-Output c = search (rules, view_exits)
