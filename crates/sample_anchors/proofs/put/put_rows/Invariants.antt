-- `sample_anchors::put::put_rows` meets its contract.
-- Assumes nothing.
use Rattle.sample_anchors.proofs.PutExits.{PutRows}
use Rattle.sample_anchors.proofs.put.put_rows.Given as goal

abbrev pub invariant-loop-row : goal.invariant-loop-row
invariant-loop-row l = PutRows l.s l.keys l.bytes l.initial.out l.n l.first l.out l.to l.row
