-- Answers that are more than a number, as bytes in a lent buffer. A bound is told by its kind, the slice that its key stands
-- in, and the key's place and length there. Where a bound's key stands is the call's to choose: it is named, and what holds
-- of it is what the call without C says.
use Rattle.std.specs.Prelude.{ℕ, List, [], ◌∷◌, ◌++◌, length}
use Rattle.base.specs.Outcome.{Outcome, stop, and_then, written_to}
use Rattle.key.specs.Order.{Key}
use Rattle.comparable_range.specs.declared.Side.{Side}
use Rattle.comparable_range.specs.declared.Side.TheVariants.{First, Second}
use Rattle.format.specs.Number.{write_number}
use Rattle.format.specs.Range.{kind_number}
use Rattle.format.specs.declared.range.BoundSpan.{BoundSpan}
use Rattle.format.specs.declared.span.Supplied.{Supplied}
use Rattle.format.specs.Joint.{Joint}
use Rattle.format.specs.Span.{JointFound}
use Rattle.bilqarush.specs.ImageCalls.{compacted_effective_range_outcome, ViewRangeFound}
use Rattle.bilqarush.specs.declared.Point.{Point}
use Rattle.bilqarush.specs.declared.Point.TheVariants.{At, Nothing as NoPoint, Stop as PointStop}
use Rattle.format.specs.declared.span.Joined.{Joined}
use Rattle.format.specs.declared.span.Joined.TheVariants.{Range as Bounds, Nothing, Stop}
use Rattle.bilqarush.specs.declared.images.ViewRange.{ViewRange}
use Rattle.bilqarush.specs.declared.images.ViewRange.TheVariants.{At as RangeAt, Stop as RangeStop}
use Rattle.std.proofs.Math.Option.{Option}
use Rattle.told.specs.Told.{Held, Told}

abbrev pub side_number : Side → ℕ
side_number First = 1
side_number Second = 2

-- a key's place and its length
abbrev pub place : ℕ → ℕ → List ℕ
place at len = write_number 8 at ++ write_number 8 len

abbrev pub bound : BoundSpan → List ℕ
bound b = (kind_number b.kind ∷ []) ++ place b.at b.len

abbrev pub supplied : Supplied → List ℕ
supplied x = (kind_number x.bound.kind ∷ side_number x.side ∷ []) ++ place x.bound.at x.bound.len

-- no point, no range
abbrev pub nothing : List ℕ
nothing = 0 ∷ []

-- ---- what a call writes of its answer into a buffer of `room` bytes
unfoldable pub point_to : ℕ → Point → Outcome (List ℕ)
point_to room (At at len) = written_to room ((1 ∷ []) ++ place at len)
point_to room NoPoint = written_to room nothing
point_to room (PointStop n) = stop n

unfoldable pub joined_to : ℕ → Joined → Outcome (List ℕ)
joined_to room (Bounds s e) = written_to room ((1 ∷ []) ++ (supplied s ++ supplied e))
joined_to room Nothing = written_to room nothing
joined_to room (Stop n) = stop n

unfoldable pub view_range_to : ℕ → ViewRange → Outcome (List ℕ)
view_range_to room (RangeAt start end) = written_to room (bound start ++ bound end)
view_range_to room (RangeStop n) = stop n

-- the bytes of a key
abbrev pub key_to : ℕ → Outcome Key → Outcome (List ℕ)
key_to room g = and_then g (λ k. written_to room k)

-- ---- the calls that answer with places of their own choosing
pub record JointTold (a b : List ℕ) (g : Outcome (Option Joint)) (out : Held (List ℕ)) (written : Held ℕ) (r : ℕ) : Type 0 where
  pub joined : Joined
  pub found : JointFound a b g joined
  pub told : Told (joined_to (length out.before) joined) out written r

pub record ViewRangeTold (image : List ℕ) (run view : ℕ) (out : Held (List ℕ)) (written : Held ℕ) (r : ℕ) : Type 0 where
  pub range : ViewRange
  pub found : ViewRangeFound image (compacted_effective_range_outcome image run view) range
  pub told : Told (view_range_to (length out.before) range) out written r
