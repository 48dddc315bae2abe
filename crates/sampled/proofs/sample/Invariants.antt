-- `sampled::sample` meets its contract.
-- Assumes nothing.
use Rattle.format.specs.Range.{range_in}
use Rattle.subcompaction.specs.Tables.{index_there}
use Rattle.sampled.proofs.SampleExits.{Sampled}
use Rattle.sampled.proofs.sample.Given as goal

abbrev pub invariant-loop-left : goal.invariant-loop-left
invariant-loop-left l = Sampled l.s l.initial.keys l.initial.bytes (range_in l.within l.range.start l.range.end) l.ask.most l.ask.data_end l.step (index_there l.s l.ask.at) l.initial.found l.keys l.bytes l.found l.at l.left

abbrev pub decreases-loop-left : goal.decreases-loop-left
decreases-loop-left l = l.left
