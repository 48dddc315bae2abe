-- `records::known_view` meets its contract.
-- Assumes nothing.
use Rattle.records.proofs.ThereExits.{known_view_exits}
use borrow.Author.Rules.{rules}
use Rattle.records.proofs.there.known_view.Goals as goal

pub bounds-s-range : goal.bounds-s-range
bounds-s-range c = search (rules, known_view_exits)

pub bound_there-start-requires-clause-fact_1 : goal.bound_there-start-requires-clause-fact_1
bound_there-start-requires-clause-fact_1 c = search (rules, known_view_exits)

pub bound_there-end-requires-clause-fact_2 : goal.bound_there-end-requires-clause-fact_2
bound_there-end-requires-clause-fact_2 c = search (rules, known_view_exits)
