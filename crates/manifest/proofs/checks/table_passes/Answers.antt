-- `manifest::table_passes` meets its contract.
-- Assumes nothing.
use Rattle.manifest.proofs.CheckExits.{table_exits}
use borrow.Author.Rules.{rules}
use Rattle.manifest.proofs.checks.table_passes.Goals as goal

pub returns-then-starts_plain : goal.returns-then-starts_plain
returns-then-starts_plain c = search (rules, table_exits)
