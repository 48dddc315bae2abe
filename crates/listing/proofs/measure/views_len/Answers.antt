-- `listing::measure::views_len` meets its contract.
-- Assumes nothing.
use Rattle.std.proofs.Common.{rules}
use Rattle.listing.proofs.Loops.{views_len_exits}
use Rattle.listing.proofs.measure.views_len.Goals as goal

pub view_there-v-requires : goal.view_there-v-requires
view_there-v-requires c = search (rules, views_len_exits)

pub returns-clause-reached_past : goal.returns-clause-reached_past
returns-clause-reached_past c = search (rules, views_len_exits)

pub loop-place-init : goal.loop-place-init
loop-place-init c = search (rules, views_len_exits)

pub loop-place-preserved : goal.loop-place-preserved
loop-place-preserved c = search (rules, views_len_exits)
