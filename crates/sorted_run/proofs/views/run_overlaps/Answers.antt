-- `sorted_run::views::run_overlaps` meets its contract.
-- Assumes nothing.
use Rattle.std.proofs.Common.{rules}
use Rattle.sorted_run.proofs.OverlapExits.{overlap_exits}
use Rattle.sorted_run.proofs.views.run_overlaps.Goals as goal

pub returns-then-r-eq0 : goal.returns-then-r-eq0
returns-then-r-eq0 c = search (rules, overlap_exits)

pub effective_there-first-requires : goal.effective_there-first-requires
effective_there-first-requires c = search (rules, overlap_exits)

pub views_end-requires-clause-fact_2 : goal.views_end-requires-clause-fact_2
views_end-requires-clause-fact_2 c = search (rules, overlap_exits)

pub effective_there-last-requires : goal.effective_there-last-requires
effective_there-last-requires c = search (rules, overlap_exits)

pub returns : goal.returns
returns c = search (rules, overlap_exits)
