-- What the enum that a call answers says: the number of a stop, or values that stand in the slices it was lent.
use Rattle.std.specs.Prelude.{ℕ, ◌≡◌, List, ℤ, length}
use Rattle.std.proofs.Math.Option.{Option, none, some}
use Rattle.base.specs.Outcome.{Outcome, stop, answer}
use Rattle.key.specs.Order.{Key}
use Rattle.comparable_range.specs.Range.{of}
use Rattle.comparable_range.specs.declared.Side.{Side}
use Rattle.comparable_range.specs.Range.{Sides}
use Rattle.std.specs.Prelude.{None, Some}
use Rattle.format.specs.Range.{range_in, BoundInside}
use Rattle.format.specs.Span.{key_of}
use Rattle.format.specs.declared.range.BoundSpan.{BoundSpan}
use Rattle.format.specs.declared.span.RangeSpan.{RangeSpan}
use Rattle.format.specs.declared.span.Supplied.{Supplied}
use Rattle.bilqarush.specs.Calls.{Pair, ranges_given}
use Rattle.bilqarush.specs.declared.Both.{Both}
use Rattle.bilqarush.specs.declared.Both.TheVariants.{Ranges, Stop as BothStop}
use Rattle.bilqarush.specs.declared.Compared.{Compared}
use Rattle.bilqarush.specs.declared.Compared.TheVariants.{Order, Stop as ComparedStop}
use Rattle.bilqarush.specs.declared.Point.{Point}
use Rattle.bilqarush.specs.declared.Point.TheVariants.{At, Nothing as NoPoint, Stop as PointStop}
use Rattle.format.specs.declared.span.Joined.{Joined}
use Rattle.format.specs.declared.span.Joined.TheVariants.{Range, Nothing, Stop}
use Rattle.bilqarush.specs.declared.KeyPart.{KeyPart}

abbrev pub order_of : Compared → Outcome ℤ
order_of (Order z) = answer z
order_of (ComparedStop n) = stop n

-- ---- what the code keeps of its arguments
abbrev pub both_of : List ℕ → List ℕ → Both → Outcome Pair
both_of a b (Ranges r q) =
    answer (record { first = range_in a r.start r.end; second = range_in b q.start q.end })
both_of a b (BothStop n) = stop n

abbrev pub BothInside : List ℕ → List ℕ → Both → Type 0
BothInside a b (Ranges r q) =
    BoundInside a r.start × (BoundInside a r.end × (BoundInside b q.start × BoundInside b q.end))
BothInside a b (BothStop n) = Unit

pub record BothFound (a b : List ℕ) (r : Both) : Type 0 where
  pub meaning : both_of a b r ≡ ranges_given a b
  pub inside : BothInside a b r

abbrev pub supplied_by : Side → BoundSpan → BoundSpan → Supplied
supplied_by side x y = record { side = side; bound = of side x y }

abbrev pub joined_by : Sides → RangeSpan → RangeSpan → Joined
joined_by None r q = Nothing
joined_by (Some (x, y)) r q = Range (supplied_by x r.start q.start) (supplied_by y r.end q.end)

-- ---- a point: its start is included, so its key stands behind the head byte and the 2 bytes of its length
abbrev pub point_at : Outcome (Option Key) → Point
point_at (stop n) = PointStop n
point_at (answer none) = NoPoint
point_at (answer (some k)) = At 3 (length k)

-- ---- the key of a bound of an intersection
-- the number of the stop that the code answered, 0 for none
abbrev pub stop_number : Joined → ℕ
stop_number (Range s e) = 0
stop_number Nothing = 0
stop_number (Stop n) = n

-- the same of an outcome
abbrev pub stop_of : {A : Type 0} → Outcome A → ℕ
stop_of (stop n) = n
stop_of (answer a) = 0

pub record PartFound (g : Outcome Key) (r : KeyPart) : Type 0 where
  pub number : r.stop ≡ stop_of g
  pub bytes : r.key.now ≡ key_of g
