-- `sorted_run::tables::put_places` meets its contract.
-- Assumes nothing.
use Rattle.std.proofs.Common.{rules}
use Rattle.sorted_run.proofs.LeadExits.{put_exits}
use Rattle.sorted_run.proofs.tables.put_places.Goals as goal

pub loop-seen-init : goal.loop-seen-init
loop-seen-init c = search (rules, put_exits)

pub effective_there-v-requires : goal.effective_there-v-requires
effective_there-v-requires c = search (rules, put_exits)

pub one_more-start-requires-clause-fact_1 : goal.one_more-start-requires-clause-fact_1
one_more-start-requires-clause-fact_1 c = search (rules, put_exits)

pub one_more-end-requires-clause-fact_1 : goal.one_more-end-requires-clause-fact_1
one_more-end-requires-clause-fact_1 c = search (rules, put_exits)

pub loop-seen-preserved : goal.loop-seen-preserved
loop-seen-preserved c = search (rules, put_exits)
