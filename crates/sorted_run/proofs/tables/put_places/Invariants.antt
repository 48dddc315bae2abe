-- `sorted_run::tables::put_places` meets its contract.
-- Assumes nothing.
use Rattle.sorted_run.proofs.LeadExits.{Putting}
use lib.ListN.{length}
use Rattle.sorted_run.proofs.tables.put_places.Given as goal

abbrev pub invariant-loop-seen : goal.invariant-loop-seen
invariant-loop-seen l = Putting l.image l.fn.r l.range l.from l.to (length l.initial.places) l.places l.seen l.at l.start l.end
