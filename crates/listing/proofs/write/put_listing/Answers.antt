-- `listing::write::put_listing` meets its contract.
-- Assumes nothing.
use Rattle.std.proofs.Common.{rules}
use Rattle.listing.proofs.WholeListing.{listing_put_exits}
use Rattle.listing.proofs.write.put_listing.Goals as goal

pub returns : goal.returns
returns c = search (rules, listing_put_exits)

pub put_header-requires : goal.put_header-requires
put_header-requires c = search (rules, listing_put_exits)

pub put_runs-requires-clause-s_in_bounds : goal.put_runs-requires-clause-s_in_bounds
put_runs-requires-clause-s_in_bounds c = search (rules, listing_put_exits)
