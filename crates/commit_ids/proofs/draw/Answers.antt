-- `commit_ids::draw` meets its contract.
-- Assumes nothing.
use Rattle.commit_ids.proofs.SupplyExits.{drawing_used, drawing_again, drawing_found}
use native.Mathlib.Omega.{arith}
use Rattle.commit_ids.proofs.draw.Goals as goal

pub returns-then-ne : goal.returns-then-ne
returns-then-ne c = drawing_found c.loop-i.invariant (omega arith) c.ne.ensures c.if-ne.true

pub loop-i-preserved : goal.loop-i-preserved
loop-i-preserved c = drawing_again c.loop-i.invariant (omega arith) c.ne.ensures c.if-ne.false (omega arith)

pub returns : goal.returns
returns c = drawing_used c.loop-i.invariant (omega arith)
