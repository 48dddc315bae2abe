-- `commit_ids::draw` meets its contract.
-- Assumes nothing.
use Rattle.commit_ids.proofs.SupplyExits.{Drawing}
use Prim.Native.Nat.{◌+◌, ◌*◌}
use Rattle.commit_ids.proofs.draw.Given as goal

abbrev pub invariant-loop-i : goal.invariant-loop-i
invariant-loop-i l = Drawing l.fn.old l.ids l.from (l.from + 10 * l.i)
