-- `format::big_endian` meets its contract.
-- Assumes nothing.
use Rattle.format.proofs.Digits.{one_more}
use native.Mathlib.Omega.{arith}
use Rattle.format.proofs.big_endian.Goals as goal

pub loop-b-preserved : goal.loop-b-preserved
loop-b-preserved c =
    one_more c.loop-b.invariant c.loop-b-test.true c.from.ensures (omega (arith, (c.type_inv.t c.loop-b.b-index).fits))
