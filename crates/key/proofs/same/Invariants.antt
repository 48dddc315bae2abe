-- `key::same` meets its contract, by what its loop keeps.
-- Assumes nothing.
use Prim.Native.Nat.{◌+◌}
use Rattle.key.specs.Word.{Further}
use Rattle.key.proofs.same.Given as goal

abbrev pub invariant-loop-j : goal.invariant-loop-j
invariant-loop-j l = Further l.equal l.a l.b (l.i + l.j)
