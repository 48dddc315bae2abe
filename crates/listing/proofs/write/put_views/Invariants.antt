-- `listing::put_views` meets its contract.
-- Assumes nothing.
use Rattle.listing.proofs.Loops.{ViewsPut}
use Rattle.listing.proofs.write.put_views.Given as goal

abbrev pub invariant-loop-place : goal.invariant-loop-place
invariant-loop-place l = ViewsPut l.s l.from l.n l.id l.initial.out l.first l.out l.place l.at l.to
