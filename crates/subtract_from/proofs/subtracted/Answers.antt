-- `subtract_from::subtracted` meets its contract.
-- Assumes nothing.
use Rattle.subtract_from.proofs.CallExits.{subtracted_exits}
use borrow.Author.Rules.{rules}
use Rattle.subtract_from.proofs.subtracted.Goals.{then-not-passes-via-then-not-passes, then-not-passes-via-else-not-passes+then-not-passes-2}
use Rattle.subtract_from.proofs.subtracted.Goals as goal

pub returns-then-not-passes-clause-value : goal.returns-then-not-passes-clause-value
returns-then-not-passes-clause-value c =
    elim c.then-not-passes.branch [
      | then-not-passes-via-then-not-passes w ↦ search (rules, subtracted_exits)
      | then-not-passes-via-else-not-passes+then-not-passes-2 w ↦ search (rules, subtracted_exits)
    ]

pub returns-then-not-passes-clause-out_after : goal.returns-then-not-passes-clause-out_after
returns-then-not-passes-clause-out_after c =
    elim c.then-not-passes.branch [
      | then-not-passes-via-then-not-passes w ↦ search (rules, subtracted_exits)
      | then-not-passes-via-else-not-passes+then-not-passes-2 w ↦ search (rules, subtracted_exits)
    ]

pub returns-then-not-half_open-clause-value : goal.returns-then-not-half_open-clause-value
returns-then-not-half_open-clause-value c = search (rules, subtracted_exits)

pub returns-then-not-half_open-clause-out_after : goal.returns-then-not-half_open-clause-out_after
returns-then-not-half_open-clause-out_after c = search (rules, subtracted_exits)

pub returns-clause-value : goal.returns-clause-value
returns-clause-value c = search (rules, subtracted_exits)

pub returns-clause-out_after : goal.returns-clause-out_after
returns-clause-out_after c = search (rules, subtracted_exits)
