-- `sorted_run::views::effective_there` meets its contract.
-- Assumes nothing.
use Rattle.std.proofs.Common.{rules}
use Rattle.sorted_run.proofs.ViewExits.{effective_exits}
use Rattle.sorted_run.proofs.views.effective_there.Goals as goal

pub returns : goal.returns
returns c = search (rules, effective_exits)
