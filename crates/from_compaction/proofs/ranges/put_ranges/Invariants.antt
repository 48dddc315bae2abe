-- `from_compaction::ranges::put_ranges` meets its contract.
-- Assumes nothing.
use Rattle.from_compaction.proofs.RangeExits.{Putting}
use Rattle.from_compaction.proofs.ranges.put_ranges.Given as goal

abbrev pub invariant-loop-k : goal.invariant-loop-k
invariant-loop-k l = Putting l.job l.n l.initial.out l.first l.out l.to l.k
