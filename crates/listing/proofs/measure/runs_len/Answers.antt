-- `listing::measure::runs_len` meets its contract.
-- Assumes nothing.
use Rattle.std.proofs.Common.{rules}
use Rattle.listing.proofs.Loops.{runs_len_exits}
use Rattle.listing.proofs.measure.runs_len.Goals as goal

pub run_there-run-requires : goal.run_there-run-requires
run_there-run-requires c = search (rules, runs_len_exits)

pub views_len-r-requires-clause-fact_3 : goal.views_len-r-requires-clause-fact_3
views_len-r-requires-clause-fact_3 c = search (rules, runs_len_exits)

pub views_len-r-requires-clause-fact_4 : goal.views_len-r-requires-clause-fact_4
views_len-r-requires-clause-fact_4 c = search (rules, runs_len_exits)

pub returns-clause-value : goal.returns-clause-value
returns-clause-value c = search (rules, runs_len_exits)

pub loop-init : goal.loop-init
loop-init c = search (rules, runs_len_exits)

pub loop-preserved : goal.loop-preserved
loop-preserved c = search (rules, runs_len_exits)
