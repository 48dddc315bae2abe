-- `sst_view::places::runs_end` meets its contract.
-- Assumes nothing.
use Rattle.std.proofs.Common.{rules}
use Rattle.sst_view.proofs.PlaceExits.{run_walk}
use Rattle.sst_view.proofs.places.runs_end.Goals as goal

pub run_there-r-requires : goal.run_there-r-requires
run_there-r-requires c = search (rules, run_walk)

pub views_end-at-requires-clause-fact_2 : goal.views_end-at-requires-clause-fact_2
views_end-at-requires-clause-fact_2 c = search (rules, run_walk)

pub loop-preserved : goal.loop-preserved
loop-preserved c = search (rules, run_walk)

pub returns : goal.returns
returns c = search (rules, run_walk)
