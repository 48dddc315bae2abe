-- `select_boundaries::selected` meets its contract.
-- Assumes nothing.
use borrow.Author.Rules.{rules}
use Rattle.select_boundaries.proofs.SelectExits.{selected_exits}
use Rattle.select_boundaries.proofs.selected.Goals as goal

pub returns-then-total-lt-TOO_MANY_BYTES-clause-out_after : goal.returns-then-total-lt-TOO_MANY_BYTES-clause-out_after
returns-then-total-lt-TOO_MANY_BYTES-clause-out_after g c = search (rules, selected_exits)
