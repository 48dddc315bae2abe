-- What the code makes of the bounds of a view.
use Rattle.std.specs.Prelude.{ℕ, suc, ◌≡◌, Bool, List, take, drop}
use Rattle.std.proofs.Math.Option.{Option}
use Rattle.base.specs.Pick.{pick}
use Rattle.base.specs.Outcome.{Outcome, answer, and_then}
use Rattle.key.specs.Order.{Key}
use Rattle.comparable_range.specs.Range.{Range}
use Rattle.comparable_range.specs.declared.Kind.TheVariants.{Unbounded, Included, Excluded}
use Rattle.comparable_range.specs.declared.Side.{Side}
use Rattle.comparable_range.specs.declared.Side.TheVariants.{First, Second}
use Rattle.format.specs.Got.{Got, got}
use Rattle.format.specs.Range.{BoundInside}
use Rattle.format.specs.Joint.{Joint, from}
use Rattle.format.specs.Joint as joint
use Rattle.format.specs.declared.range.BoundSpan.{BoundSpan}
use Rattle.format.specs.declared.span.RangeSpan.{RangeSpan}
use Rattle.format.specs.declared.span.JointSpan.{JointSpan}
use Rattle.format.specs.Span.{Met}
use Rattle.std.specs.Prelude.{None, Some}
use Rattle.format.specs.declared.span.Joined.{Joined}
use Rattle.format.specs.declared.span.Joined.TheVariants.{Range as JoinedRange, Nothing as NoRange}
use Rattle.records.specs.Values.{View}
use Rattle.records.specs.declared.views.ViewSpan.{ViewSpan}
use Rattle.manifest.specs.Ranges.{effective}
use Rattle.db_state.specs.Places.{at, placed}
use Rattle.db_state.specs.Lookup.{between, start_key, end_before, cut_to_visible, compacted_intersection}

-- the bytes of a bound's key
abbrev pub key_at : List ℕ → BoundSpan → Key
key_at s b = take b.len (drop b.at s)

-- the start of a view that is there
pub record StartThere (s : List ℕ) (g : Got View) (b : BoundSpan) : Type 0 where
  pub value : View
  pub rest : List ℕ
  pub read : g ≡ got value rest
  pub key : key_at s b ≡ start_key value
  pub inside : BoundInside s b

-- the end at the next view's start, included if the view holds that key
abbrev pub end_span : Bool → BoundSpan → BoundSpan
end_span held next = record { kind = pick held Included Excluded; at = next.at; len = next.len }

abbrev pub no_end : BoundSpan
no_end = record { kind = Unbounded; at = 0; len = 0 }

-- what a view keeps of the asked range before a view that starts with a key
abbrev pub cut_before : View → Key → Range → Option Joint
cut_before v key asked =
    cut_to_visible v.visible (joint.intersect (from First (between (effective v).start (end_before v key))) (from Second asked))

-- the same at a place of some views: stop 9 if there is none
abbrev pub kept_at : List View → ℕ → Range → Outcome (Option Joint)
kept_at vs place asked = and_then (placed (at vs place)) (λ v. answer (compacted_intersection v (at vs (suc place)) asked))

-- a range that one of two slices supplies
abbrev pub from_span : Side → RangeSpan → JointSpan
from_span side r = record { start = record { side = side; bound = r.start }; end = record { side = side; bound = r.end } }

abbrev pub visible_span : ViewSpan → RangeSpan
visible_span v = record { start = v.start; end = v.end }

-- an intersection, as a call answers it
abbrev pub joined_of : Met → Joined
joined_of None = NoRange
joined_of (Some j) = JoinedRange j.start j.end
