-- `commit_entries::add_cut` meets its contract.
-- Assumes nothing.
use Rattle.commit_entries.proofs.RowExits.{cut_short}
use borrow.Author.Rules.{rules}
use Rattle.commit_entries.proofs.add_cut.Goals as goal

pub add_row-requires-clause-fact_3 : goal.add_row-requires-clause-fact_3
add_row-requires-clause-fact_3 c = search (rules, cut_short)
