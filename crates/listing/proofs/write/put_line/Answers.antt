-- `listing::write::put_line` meets its contract.
-- Assumes nothing.
use Rattle.std.proofs.Common.{rules}
use Rattle.listing.proofs.LineExits.{line_put_exits}
use Rattle.listing.proofs.write.put_line.Goals as goal

pub put_names-a-requires : goal.put_names-a-requires
put_names-a-requires c = search (rules, line_put_exits)

pub put_bounds-requires-clause-end_in_bounds : goal.put_bounds-requires-clause-end_in_bounds
put_bounds-requires-clause-end_in_bounds c = search (rules, line_put_exits)

pub returns-clause-value : goal.returns-clause-value
returns-clause-value c = search (rules, line_put_exits)

pub returns-clause-out_after : goal.returns-clause-out_after
returns-clause-out_after c = search (rules, line_put_exits)
