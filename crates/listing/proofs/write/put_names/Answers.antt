-- `listing::write::put_names` meets its contract.
-- Assumes nothing.
use Rattle.std.proofs.Common.{rules}
use Rattle.listing.proofs.LineExits.{names_exits}
use Rattle.listing.proofs.write.put_names.Goals as goal

pub put_number-a-requires : goal.put_number-a-requires
put_number-a-requires c = search (rules, names_exits)

pub returns-clause-value : goal.returns-clause-value
returns-clause-value c = search (rules, names_exits)

pub put_number-b-requires : goal.put_number-b-requires
put_number-b-requires c = search (rules, names_exits)

pub put_bytes-requires : goal.put_bytes-requires
put_bytes-requires c = search (rules, names_exits)

pub returns-clause-out_after : goal.returns-clause-out_after
returns-clause-out_after c = search (rules, names_exits)
