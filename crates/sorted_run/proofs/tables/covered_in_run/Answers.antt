-- `sorted_run::tables::covered_in_run` meets its contract.
-- Assumes nothing.
use Rattle.std.proofs.Common.{rules}
use Rattle.sorted_run.proofs.CoveringExits.{covered_exits}
use Rattle.sorted_run.proofs.tables.covered_in_run.Goals as goal

pub returns-then-n-eq0 : goal.returns-then-n-eq0
returns-then-n-eq0 c = search (rules, covered_exits)

pub walk_back-requires-clause-fact_3 : goal.walk_back-requires-clause-fact_3
walk_back-requires-clause-fact_3 c = search (rules, covered_exits)

pub returns : goal.returns
returns c = search (rules, covered_exits)
