-- `commit_covered::outputs::keep_outputs` meets its contract.
-- Assumes nothing.
use Rattle.commit_covered.proofs.OutputExits.{cleared, parts_begin, outputs_exits}
use borrow.Author.Rules.{rules}
use Rattle.commit_covered.proofs.outputs.keep_outputs.Goals as goal

pub loop-i-init : goal.loop-i-init
loop-i-init c = parts_begin c.requires.fact_1 c.requires.fact_2 (cleared (c.fill.ensures.after (λ y h. search rules))) c.requires.fact_3

pub keep_part-requires-clause-fact_1 : goal.keep_part-requires-clause-fact_1
keep_part-requires-clause-fact_1 c = search (rules, outputs_exits)

pub loop-i-preserved : goal.loop-i-preserved
loop-i-preserved c = search (rules, outputs_exits)
