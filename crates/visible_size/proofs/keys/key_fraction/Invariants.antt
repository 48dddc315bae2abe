-- `visible_size::keys::key_fraction` meets its contract.
-- Assumes nothing.
use Rattle.std.proofs.Common.{length}
use Rattle.visible_size.proofs.KeyNumbers.{Counting}
use Rattle.visible_size.proofs.keys.key_fraction.Given as goal

abbrev pub invariant-loop-byte : goal.invariant-loop-byte
invariant-loop-byte l = Counting l.part (length l.yielded) l.number
