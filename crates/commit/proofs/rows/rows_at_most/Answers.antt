-- `commit::rows::rows_at_most` meets its contract.
-- Assumes nothing.
use Rattle.commit.proofs.RowExits.{most_exits}
use borrow.Author.Rules.{rules}
use Rattle.commit.proofs.rows.rows_at_most.Goals as goal

pub column_sum-views-requires-clause-fact_4 : goal.column_sum-views-requires-clause-fact_4
column_sum-views-requires-clause-fact_4 c = search (rules, most_exits)

pub column_sum-outputs-requires-clause-fact_4 : goal.column_sum-outputs-requires-clause-fact_4
column_sum-outputs-requires-clause-fact_4 c = search (rules, most_exits)

pub overflow_mul-result : goal.overflow_mul-result
overflow_mul-result c = search (rules, most_exits)

pub overflow_add-result-2 : goal.overflow_add-result-2
overflow_add-result-2 c = search (rules, most_exits)

pub returns : goal.returns
returns c = search (rules, most_exits)
