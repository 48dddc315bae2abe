-- `subtract_from`: what of a range lies outside a durable interval. The checks in their order, then the answer.
use Rattle.std.specs.Prelude.{ℕ, ◌&&◌, List}
use Rattle.base.specs.Outcome.{Outcome, answer, and_then, check, written_to}
use Rattle.comparable_range.specs.Range.{Range, non_empty}
use Rattle.format.specs.Range.{read_range}
use Rattle.format.specs.Whole.{whole}
use Rattle.records.specs.Values.{Plan}
use Rattle.records.specs.Layouts.{plan}
use Rattle.incremental_progress.specs.Checks.{half_open}
use Rattle.incremental_progress.specs.Intervals.{subtract_from}
use Rattle.incremental_progress.specs.Parts.{from_planned_range}

-- the interval d, given as a range, out of the range r: check 4 covers both, 10 says that d starts excluded or ends included
unfoldable pub subtracted : Range → Range → Outcome Plan
subtracted d r = check 4 (non_empty d && non_empty r) (check 10 (half_open d) (answer (subtract_from (from_planned_range d) r)))

unfoldable pub subtracted_given : List ℕ → List ℕ → Outcome Plan
subtracted_given interval range = and_then (whole read_range interval) (λ d. and_then (whole read_range range) (λ r. subtracted d r))

unfoldable pub subtract_from_outcome : List ℕ → List ℕ → ℕ → Outcome (List ℕ)
subtract_from_outcome interval range room = and_then (subtracted_given interval range) (λ p. written_to room (plan.write p))
