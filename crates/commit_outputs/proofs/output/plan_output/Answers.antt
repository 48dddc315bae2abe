-- `commit_outputs::output::plan_output` meets its contract.
-- Assumes nothing.
use Rattle.commit_outputs.proofs.OutputExits.{output_exits}
use borrow.Author.Rules.{rules}
use Rattle.commit_outputs.proofs.output.plan_output.Goals as goal

pub add_row-requires-clause-fact_1 : goal.add_row-requires-clause-fact_1
add_row-requires-clause-fact_1 c = search (rules, output_exits)

pub published_id-requires : goal.published_id-requires
published_id-requires c = search (rules, output_exits)

pub add_cut-requires-clause-fact_1 : goal.add_cut-requires-clause-fact_1
add_cut-requires-clause-fact_1 c = search (rules, output_exits)

pub returns-in-Left : goal.returns-in-Left
returns-in-Left c = search (rules, output_exits)

pub returns-in-Whole : goal.returns-in-Whole
returns-in-Whole c = search (rules, output_exits, c.output_row-row.ensures, c.requires)

pub returns-in-Cut : goal.returns-in-Cut
returns-in-Cut c = search (rules, output_exits, c.output_row-row-in-Cut.ensures, c.published_id.ensures, c.requires)
