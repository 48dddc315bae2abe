-- `listing::write::put_runs` meets its contract.
-- Assumes nothing.
use Rattle.std.proofs.Common.{rules}
use Rattle.listing.proofs.Loops.{runs_put_exits}
use Rattle.listing.proofs.write.put_runs.Goals as goal

pub run_there-run-requires : goal.run_there-run-requires
run_there-run-requires c = search (rules, runs_put_exits)

pub put_views-r-requires-clause-from_in_bounds_2 : goal.put_views-r-requires-clause-from_in_bounds_2
put_views-r-requires-clause-from_in_bounds_2 c = search (rules, runs_put_exits)

pub put_views-r-requires-clause-s_in_bounds : goal.put_views-r-requires-clause-s_in_bounds
put_views-r-requires-clause-s_in_bounds c = search (rules, runs_put_exits)

pub returns : goal.returns
returns c = search (rules, runs_put_exits)

pub loop-init : goal.loop-init
loop-init c = search (rules, runs_put_exits)

pub loop-preserved : goal.loop-preserved
loop-preserved c = search (rules, runs_put_exits)
