-- `commit_covered::covered::views_covered` meets its contract.
-- Assumes nothing.
use Rattle.commit_covered.proofs.ViewExits.{view_exits}
use borrow.Author.Rules.{rules}
use Rattle.commit_covered.proofs.covered.views_covered.Goals as goal

pub view_there-v-requires : goal.view_there-v-requires
view_there-v-requires c = search (rules, view_exits)

pub loop-preserved-then-not-is_kept : goal.loop-preserved-then-not-is_kept
loop-preserved-then-not-is_kept c = search (rules, view_exits)

pub first_gap-reached-requires-clause-fact_4 : goal.first_gap-reached-requires-clause-fact_4
first_gap-reached-requires-clause-fact_4 c = search (rules, view_exits)

pub next_piece-requires-clause-fact_2 : goal.next_piece-requires-clause-fact_2
next_piece-requires-clause-fact_2 c = search (rules, view_exits)

pub returns-in-Some : goal.returns-in-Some
returns-in-Some c = search (rules, view_exits)

pub loop-preserved : goal.loop-preserved
loop-preserved c = search (rules, view_exits)

pub returns : goal.returns
returns c = search (rules, view_exits)
