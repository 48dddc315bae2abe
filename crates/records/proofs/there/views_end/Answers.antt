-- `records::views_end` meets its contract.
-- Assumes nothing.
use Rattle.records.proofs.Pasts.{view_walk}
use borrow.Author.Rules.{rules}
use Rattle.records.proofs.there.views_end.Goals as goal

pub view_there-at-requires : goal.view_there-at-requires
view_there-at-requires c = search (rules, view_walk)

pub returns : goal.returns
returns c = search (rules, view_walk)
