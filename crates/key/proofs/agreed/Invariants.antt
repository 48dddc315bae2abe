-- `key::agreed` meets its contract, by what its loop over 32 bytes a turn keeps.
-- Assumes nothing.
use Prim.Native.Nat.{◌*◌}
use Rattle.key.specs.Word.{Agree}
use Rattle.key.proofs.agreed.Given as goal

abbrev pub invariant-loop-k : goal.invariant-loop-k
invariant-loop-k l = Agree l.a l.b (l.k * 32)
