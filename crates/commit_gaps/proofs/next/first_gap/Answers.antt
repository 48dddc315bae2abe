-- `commit_gaps::next::first_gap` meets its contract.
-- Assumes nothing.
use Rattle.commit_gaps.proofs.NextExits.{reached_next}
use borrow.Author.Rules.{rules}
use Rattle.commit_gaps.proofs.next.first_gap.Goals as goal

pub loop-g-preserved : goal.loop-g-preserved
loop-g-preserved c = search (rules, reached_next)
