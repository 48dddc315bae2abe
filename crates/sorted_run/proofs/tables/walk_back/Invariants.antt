-- `sorted_run::tables::walk_back` meets its contract.
-- Assumes nothing.
use Rattle.sorted_run.proofs.CoveringExits.{Back}
use Rattle.sst_view.specs.Asked.{range_at}
use Rattle.sst_view.specs.Runs.{views_of}
use Rattle.sorted_run.proofs.tables.walk_back.Given as goal

abbrev pub invariant-loop-idx : goal.invariant-loop-idx
invariant-loop-idx l = Back (views_of l.image l.r) (range_at l.range l.asked) l.from l.idx l.r.views
