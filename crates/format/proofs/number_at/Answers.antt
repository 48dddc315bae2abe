-- `format::number_at` meets its contract: the number is there where neither test of the `||` holds.
-- Assumes nothing.
use mathlib.Core.Path.{sym, ◌∙◌}
use borrow.Author.Tests.{lt-ltb, ltb-false, both_ways}
use Rattle.format.proofs.Digits.{number_read}
use Rattle.format.proofs.number_at.Goals as goal
use Rattle.format.proofs.number_at.Goals.{then-s-at, else-s-at}

pub returns-else-s-at-2 : goal.returns-else-s-at-2
returns-else-s-at-2 c =
    elim c.if-s-at.branch [
      | then-s-at w ↦ absurd (both_ways _ c.if-s-at-2.false (w.value-is ∙ lt-ltb _ _ w.if-s-at.true))
      | else-s-at w ↦ number_read _ _ _ c.big_endian.ensures w.if-s-at.false (ltb-false _ _ (sym w.value-is ∙ c.if-s-at-2.false))
    ]
