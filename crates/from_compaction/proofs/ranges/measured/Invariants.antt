-- `from_compaction::ranges::measured` meets its contract.
-- Assumes nothing.
use Rattle.from_compaction.proofs.RangeExits.{Measuring}
use Rattle.from_compaction.proofs.ranges.measured.Given as goal

abbrev pub invariant-loop-k : goal.invariant-loop-k
invariant-loop-k l = Measuring l.job l.n l.count l.bytes l.k
