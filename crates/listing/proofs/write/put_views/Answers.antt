-- `listing::write::put_views` meets its contract.
-- Assumes nothing.
use Rattle.std.proofs.Common.{rules}
use Rattle.listing.proofs.Loops.{views_put_exits}
use Rattle.listing.proofs.write.put_views.Goals as goal

pub view_there-v-requires : goal.view_there-v-requires
view_there-v-requires c = search (rules, views_put_exits)

pub put_line-to-requires-clause-fact_2 : goal.put_line-to-requires-clause-fact_2
put_line-to-requires-clause-fact_2 c = search (rules, views_put_exits)

pub returns-clause-reached_past : goal.returns-clause-reached_past
returns-clause-reached_past c = search (rules, views_put_exits)

pub returns-clause-out_after : goal.returns-clause-out_after
returns-clause-out_after c = search (rules, views_put_exits)

pub loop-place-init : goal.loop-place-init
loop-place-init c = search (rules, views_put_exits)

pub loop-place-preserved : goal.loop-place-preserved
loop-place-preserved c = search (rules, views_put_exits)
