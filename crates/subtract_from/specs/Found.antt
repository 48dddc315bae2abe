-- A part of a range as the code finds it: its bounds stand in one of two slices.
use Rattle.std.specs.Prelude.{ℕ, ◌≡◌, List, [], ◌++◌}
use Rattle.std.proofs.Math.Option.{Option, none, some}
use Rattle.base.specs.Outcome.{Outcome, and_then, written_to}
use Rattle.comparable_range.specs.Range.{Range}
use Rattle.format.specs.Joint as joint
use Rattle.format.specs.Range.{range_in, write_range}
use Rattle.format.specs.Span.{joint_in, MetInside}
use Rattle.format.specs.declared.span.RangeSpan.{RangeSpan}
use Rattle.format.specs.Span.{Met}
use Rattle.std.specs.Prelude.{None, Some}
use Rattle.incremental_progress.specs.Intervals.{listed}
use Rattle.records.specs.Layouts.{plan}
use Rattle.subtract_from.specs.SubtractCalls.{subtracted}

-- the part, if there is one
abbrev pub part_in : List ℕ → List ℕ → Met → Option Range
part_in a b None = none
part_in a b (Some j) = some (joint.range (joint_in a b j))

pub record PartFound (a b : List ℕ) (o : Option Range) (m : Met) : Type 0 where
  pub meaning : part_in a b m ≡ o
  pub inside : MetInside a b m

-- its bytes, none if there is no part
abbrev pub part_bytes : Option Range → List ℕ
part_bytes none = []
part_bytes (some r) = write_range r

abbrev pub part_count : Met → ℕ
part_count None = 0
part_count (Some j) = 1

-- two parts, each if there is one
abbrev pub parts_in : List ℕ → List ℕ → Met → Met → List Range
parts_in a b before from = listed (part_in a b before) ++ listed (part_in a b from)

-- the range that a span stands for
abbrev pub span_in : List ℕ → RangeSpan → Range
span_in s r = range_in s r.start r.end

-- what is written of the range r in so much room, once it and the interval d are read
abbrev pub subtracted_to : ℕ → Range → Range → Outcome (List ℕ)
subtracted_to room d r = and_then (subtracted d r) (λ p. written_to room (plan.write p))
