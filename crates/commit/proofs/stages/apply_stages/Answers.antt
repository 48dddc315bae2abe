-- `commit::stages::apply_stages` meets its contract.
-- Assumes nothing.
use Rattle.commit.proofs.StageExits.{table_exits}
use borrow.Author.Rules.{rules}
use Rattle.commit.proofs.stages.apply_stages.Goals as goal

pub apply_with-requires-clause-fact_4 : goal.apply_with-requires-clause-fact_4
apply_with-requires-clause-fact_4 c = search (rules, table_exits)

pub apply_with-requires-clause-fact_5 : goal.apply_with-requires-clause-fact_5
apply_with-requires-clause-fact_5 c = search (rules, table_exits)

pub apply_with-requires-2-clause-fact_4 : goal.apply_with-requires-2-clause-fact_4
apply_with-requires-2-clause-fact_4 c = search (rules, table_exits)

pub apply_with-requires-2-clause-fact_5 : goal.apply_with-requires-2-clause-fact_5
apply_with-requires-2-clause-fact_5 c = search (rules, table_exits)
