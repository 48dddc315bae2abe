-- `listing::views_len` meets its contract.
-- Assumes nothing.
use Rattle.listing.proofs.Loops.{ViewsLen}
use Rattle.listing.proofs.measure.views_len.Given as goal

abbrev pub invariant-loop-place : goal.invariant-loop-place
invariant-loop-place l = ViewsLen l.s l.from l.n l.id l.place l.at l.to
