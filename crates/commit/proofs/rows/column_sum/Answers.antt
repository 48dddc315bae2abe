-- `commit::rows::column_sum` meets its contract.
-- Assumes nothing.
use Rattle.commit.proofs.RowExits.{sum_exits}
use borrow.Author.Rules.{rules}
use Rattle.commit.proofs.rows.column_sum.Goals as goal

pub overflow_add-sum-in-loop-k : goal.overflow_add-sum-in-loop-k
overflow_add-sum-in-loop-k c = search (rules, sum_exits)

pub loop-k-preserved : goal.loop-k-preserved
loop-k-preserved c = search (rules, sum_exits)

pub returns : goal.returns
returns c = search (rules, sum_exits)
