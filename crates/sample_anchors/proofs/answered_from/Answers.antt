-- `sample_anchors::answered_from` meets its contract.
-- Assumes nothing.
use borrow.Author.Rules.{rules}
use Rattle.sample_anchors.proofs.CallExits.{tables_exits}
use Rattle.sample_anchors.proofs.answered_from.Goals as goal

pub answered-requires-clause-rows_1 : goal.answered-requires-clause-rows_1
answered-requires-clause-rows_1 c = search (rules, tables_exits)
