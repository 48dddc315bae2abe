-- `sample_anchors::put::anchors_len` meets its contract.
-- Assumes nothing.
use Rattle.sample_anchors.proofs.PutExits.{Measured}
use Rattle.sample_anchors.proofs.put.anchors_len.Given as goal

abbrev pub invariant-loop-row : goal.invariant-loop-row
invariant-loop-row l = Measured l.s l.keys l.n l.len l.row
