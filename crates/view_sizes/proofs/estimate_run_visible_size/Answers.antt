-- `view_sizes::estimate_run_visible_size` meets its contract.
-- Assumes nothing.
use Rattle.std.proofs.Common.{rules}
use Rattle.view_sizes.proofs.SizeExits.{run_exits}
use Rattle.view_sizes.proofs.estimate_run_visible_size.Goals as goal

pub returns-then-fault-lt8 : goal.returns-then-fault-lt8
returns-then-fault-lt8 c = search (rules, run_exits)

pub run_in_image-requires : goal.run_in_image-requires
run_in_image-requires c = search (rules, run_exits)

pub run_size-requires-clause-fact_2 : goal.run_size-requires-clause-fact_2
run_size-requires-clause-fact_2 c = search (rules, run_exits)

pub returns-in-Stop : goal.returns-in-Stop
returns-in-Stop c = search (rules, run_exits)

pub returns-in-Stop-run_in_image : goal.returns-in-Stop-run_in_image
returns-in-Stop-run_in_image c = search (rules, run_exits)

pub returns-in-At-run_in_image : goal.returns-in-At-run_in_image
returns-in-At-run_in_image c = search (rules, run_exits)
