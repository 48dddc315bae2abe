-- `view_sizes::view_fraction` meets its contract.
-- Assumes nothing.
use Rattle.std.proofs.Common.{rules}
use Rattle.view_sizes.proofs.SizeExits.{fraction_exits}
use Rattle.view_sizes.proofs.view_fraction.Goals as goal

pub returns-then-not-v : goal.returns-then-not-v
returns-then-not-v c = search (rules, fraction_exits)

pub returns : goal.returns
returns c = search (rules, fraction_exits)
