-- `listing::write::put_bounds` meets its contract.
-- Assumes nothing.
use Rattle.std.proofs.Common.{rules}
use Rattle.listing.proofs.LineExits.{bounds_exits}
use Rattle.listing.proofs.write.put_bounds.Goals as goal

pub put_start-a-requires-clause-fact_2 : goal.put_start-a-requires-clause-fact_2
put_start-a-requires-clause-fact_2 c = search (rules, bounds_exits)

pub returns-clause-value : goal.returns-clause-value
returns-clause-value c = search (rules, bounds_exits)

pub put_end-requires-clause-fact_2 : goal.put_end-requires-clause-fact_2
put_end-requires-clause-fact_2 c = search (rules, bounds_exits)

pub returns-clause-out_after : goal.returns-clause-out_after
returns-clause-out_after c = search (rules, bounds_exits)
