-- `visible_size::fraction::lengths_fraction` meets its contract.
-- Assumes nothing.
use Rattle.std.proofs.Common.{rules}
use Rattle.visible_size.proofs.Fractions.{shares}
use Rattle.visible_size.proofs.fraction.lengths_fraction.Goals as goal

pub returns-then-visible : goal.returns-then-visible
returns-then-visible c = search (rules, shares)

pub returns : goal.returns
returns c = search (rules, shares)
