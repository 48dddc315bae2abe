-- `view_sizes::run_size` meets its contract.
-- Assumes nothing.
use Rattle.std.proofs.Common.{rules}
use Rattle.view_sizes.proofs.SizeExits.{sum_exits}
use Rattle.view_sizes.proofs.run_size.Goals as goal

pub loop-init : goal.loop-init
loop-init c = search (rules, sum_exits)

pub view_there-v-requires : goal.view_there-v-requires
view_there-v-requires c = search (rules, sum_exits)

pub view_size-sum-requires-clause-fact_2 : goal.view_size-sum-requires-clause-fact_2
view_size-sum-requires-clause-fact_2 c = search (rules, sum_exits)

pub loop-preserved : goal.loop-preserved
loop-preserved c = search (rules, sum_exits)
