-- `commit_gaps::next::next_piece` meets its contract.
-- Assumes nothing.
use Rattle.commit_gaps.proofs.NextExits.{next_exits}
use borrow.Author.Rules.{rules}
use Rattle.commit_gaps.proofs.next.next_piece.Goals as goal

pub meet-requires-clause-fact_3 : goal.meet-requires-clause-fact_3
meet-requires-clause-fact_3 c = search (rules, next_exits)

pub returns-in-Past : goal.returns-in-Past
returns-in-Past c = search (rules, next_exits)

pub returns-in-Last : goal.returns-in-Last
returns-in-Last c = search (rules, next_exits)

pub returns-in-More : goal.returns-in-More
returns-in-More c = search (rules, next_exits)

pub loop-g-preserved : goal.loop-g-preserved
loop-g-preserved c = search (rules, next_exits)

pub returns : goal.returns
returns c = search (rules, next_exits)
