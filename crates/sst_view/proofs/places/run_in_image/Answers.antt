-- `sst_view::places::run_in_image` meets its contract.
-- Assumes nothing.
use Rattle.std.proofs.Common.{rules}
use Rattle.sst_view.proofs.PlaceExits.{in_image_exits}
use Rattle.sst_view.proofs.places.run_in_image.Goals as goal

pub returns-then-runs_there-place : goal.returns-then-runs_there-place
returns-then-runs_there-place c = search (rules, in_image_exits)

pub runs_end-requires-clause-fact_2 : goal.runs_end-requires-clause-fact_2
runs_end-requires-clause-fact_2 c = search (rules, in_image_exits)

pub run_there-requires : goal.run_there-requires
run_there-requires c = search (rules, in_image_exits)

pub returns : goal.returns
returns c = search (rules, in_image_exits)
