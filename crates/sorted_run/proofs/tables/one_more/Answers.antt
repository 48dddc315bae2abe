-- `sorted_run::tables::one_more` meets its contract.
-- Assumes nothing.
use Rattle.std.proofs.Common.{rules}
use Rattle.sorted_run.proofs.LeadExits.{more_exits}
use Rattle.sorted_run.proofs.tables.one_more.Goals as goal

pub returns-then-contains : goal.returns-then-contains
returns-then-contains c = search (rules, more_exits)

pub returns-else-contains : goal.returns-else-contains
returns-else-contains c = search (rules, more_exits)
