-- `sorted_run::tables::walk_back` meets its contract.
-- Assumes nothing.
use Rattle.std.proofs.Common.{rules}
use Rattle.sorted_run.proofs.CoveringExits.{back_exits}
use Rattle.sorted_run.proofs.tables.walk_back.Goals as goal

pub returns-then-not-intersects_at : goal.returns-then-not-intersects_at
returns-then-not-intersects_at c = search (rules, back_exits)

pub loop-idx-preserved : goal.loop-idx-preserved
loop-idx-preserved c = search (rules, back_exits)

pub returns : goal.returns
returns c = search (rules, back_exits)
