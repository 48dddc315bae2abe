-- `select_boundaries::anchors_read` meets its contract.
-- Assumes nothing.
use Rattle.select_boundaries.proofs.AnchorExits.{Tabling}
use lib.ListN.{length}
use Rattle.select_boundaries.proofs.anchors_read.Given as goal

abbrev pub invariant-loop-row : goal.invariant-loop-row
invariant-loop-row l = Tabling l.s l.from l.n (length l.initial.keys) (length l.initial.bytes) l.keys l.bytes l.row l.at l.total
