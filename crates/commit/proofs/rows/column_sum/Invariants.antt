-- `commit::rows::column_sum` meets its contract.
-- Assumes nothing.
use Rattle.commit.proofs.RowExits.{Summed}
use Rattle.commit.proofs.rows.column_sum.Given as goal

abbrev pub invariant-loop-k : goal.invariant-loop-k
invariant-loop-k l = Summed l.table l.w l.c l.n l.sum l.k
