-- `sorted_run::overlaps_range` meets its contract.
-- Assumes nothing.
use Rattle.std.proofs.Common.{rules}
use Rattle.sorted_run.proofs.OverlapExits.{overlaps_range_exits}
use Rattle.sorted_run.proofs.overlaps_range.Goals as goal

pub returns-in-Stop : goal.returns-in-Stop
returns-in-Stop c = search (rules, overlaps_range_exits)

pub returns-in-Stop-run_in_image : goal.returns-in-Stop-run_in_image
returns-in-Stop-run_in_image c = search (rules, overlaps_range_exits)

pub returns-in-At : goal.returns-in-At
returns-in-At c = search (rules, overlaps_range_exits)
