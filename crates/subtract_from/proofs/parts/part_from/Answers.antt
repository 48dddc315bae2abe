-- `subtract_from::parts::part_from` meets its contract.
-- Assumes nothing.
use Rattle.subtract_from.proofs.PartExits.{part_exits}
use borrow.Author.Rules.{rules}
use Rattle.subtract_from.proofs.parts.part_from.Goals as goal

pub returns-then-not-keyed : goal.returns-then-not-keyed
returns-then-not-keyed c = search (rules, part_exits)

pub returns : goal.returns
returns c = search (rules, part_exits)
