-- `sorted_run::table_idx_covering_range` meets its contract.
-- Assumes nothing.
use Rattle.std.proofs.Common.{rules}
use Rattle.sorted_run.proofs.CoveringExits.{covering_exits}
use Rattle.sorted_run.proofs.table_idx_covering_range.Goals as goal

pub covered_in_run-requires : goal.covered_in_run-requires
covered_in_run-requires c = search (rules, covering_exits)

pub returns-in-Stop : goal.returns-in-Stop
returns-in-Stop c = search (rules, covering_exits)

pub returns-in-Stop-run_in_image : goal.returns-in-Stop-run_in_image
returns-in-Stop-run_in_image c = search (rules, covering_exits)

pub returns-in-At : goal.returns-in-At
returns-in-At c = search (rules, covering_exits)
