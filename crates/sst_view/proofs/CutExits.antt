-- The asked range cut to what a view shows: a range of one supplier stands where its bounds do, and the view's flags say which
-- case of the definition holds.
-- Assumes nothing.
use Prim.Native.Nat.{ℕ}
use mathlib.Core.Path.{◌≡◌, sym, ap, ◌∙◌}
use mathlib.Core.Bool.{true, false}
use mathlib.Core.Option.{Option}
use mathlib.Core.List.{List}
use Rattle.base.specs.Outcome.{Outcome, answer}
use Rattle.comparable_range.specs.declared.Side.TheVariants.{First, Second}
use Rattle.format.specs.Joint.{Joint, from}
use Rattle.format.specs.Joint as joint
use Rattle.format.specs.Span.{joint_in, JointInside, MetFound, JointFound}
use Rattle.format.specs.declared.span.RangeSpan.{RangeSpan}
use Rattle.format.specs.declared.span.JointSpan.{JointSpan}
use Rattle.format.specs.Span.{Met}
use Rattle.std.specs.Prelude.{None, Some}
use Rattle.format.specs.declared.span.Joined.{Joined}
use Rattle.records.specs.Spans.{view_in, ViewInside}
use Rattle.records.specs.declared.views.ViewSpan.{ViewSpan}
use Rattle.manifest.specs.Spans.{EffectiveFound}
use Rattle.db_state.specs.Lookup.{calculate_view_range}
use Rattle.sst_view.specs.Asked.{range_at, SpanInside}
use Rattle.sst_view.specs.Views.{from_span, visible_span, joined_of}

-- ---- ranges of one supplier
module _ (a b : List ℕ) {j : JointSpan} where
  pub asked_inside : (asked : RangeSpan) → j ≡ from_span Second asked → SpanInside b asked → JointInside a b j
  asked_inside asked e i = rw e (record { start = i.start; end = i.end })

  pub visible_inside : (v : ViewSpan) {r : RangeSpan} → r ≡ visible_span v → j ≡ from_span First r → ViewInside a v → JointInside a b j
  visible_inside v p e i = rw (e, p) (record { start = i.start; end = i.end })

  pub effective_inside : (v : ViewSpan) {r : RangeSpan} → j ≡ from_span First r → EffectiveFound a v r → JointInside a b j
  effective_inside v e i = rw e (record { start = i.start; end = i.end })

-- ---- cut_to_view
module _ (a b : List ℕ) (v : ViewSpan) (asked : RangeSpan) {x : JointSpan} (p : x ≡ from_span Second asked) where
  module _ {y : JointSpan} {r : RangeSpan} {m : Met} (q : y ≡ from_span First r) (f : MetFound a b (joint.intersect (joint_in a b x) (joint_in a b y)) m) where
    pub shown_cut : r ≡ visible_span v → v.shown ≡ true → MetFound a b (calculate_view_range (view_in a v) (range_at b asked)) m
    unfolding calculate_view_range
    shown_cut e h = record { meaning = f.meaning ∙ rw (p, q, e, h); inside = f.inside }

    pub last_cut_lem : EffectiveFound a v r → v.shown ≡ false → v.table.flagged ≡ true → MetFound a b (calculate_view_range (view_in a v) (range_at b asked)) m
    unfolding calculate_view_range
    last_cut_lem e h k =
        record {
          meaning = f.meaning ∙ rw (p, q) (ap (λ o. joint.intersect (from Second (range_at b asked)) (from First o)) e.meaning ∙ rw (h, k));
          inside = f.inside;
        }

  pub not_cut : v.shown ≡ false → v.table.flagged ≡ false → SpanInside b asked → MetFound a b (calculate_view_range (view_in a v) (range_at b asked)) (Some x)
  unfolding calculate_view_range
  not_cut h k i = record { meaning = rw (p, h, k); inside = asked_inside a b asked p i }

pub ruleset cut_exits = (asked_inside, visible_inside, effective_inside, shown_cut, last_cut_lem, not_cut)

-- ---- the effective range of a view
pub own_inside : (a : List ℕ) (v : ViewSpan) (own : RangeSpan) → EffectiveFound a v own → SpanInside a own
own_inside a v own f = record { start = f.start; end = f.end }

-- ---- an intersection as a call answers it
pub joined_found : (a b : List ℕ) {o : Option Joint} {m : Met} {j : Joined} → MetFound a b o m → j ≡ joined_of m → JointFound a b (answer o) j
joined_found a b {o} {m} f e = rw e (go m f)
  where
    go : (m : Met) → MetFound a b o m → JointFound a b (answer o) (joined_of m)
    go None f = record { meaning = ap answer f.meaning; inside = tt }
    go (Some j) f = record { meaning = ap answer f.meaning; inside = (f.inside.start, f.inside.end) }

pub same_found : (a b : List ℕ) {g h : Outcome (Option Joint)} {j : Joined} → g ≡ h → JointFound a b h j → JointFound a b g j
same_found a b e f = record { meaning = f.meaning ∙ sym e; inside = f.inside }
