-- The calls on one view: what is given, then the view at its place, then the answer.
-- Assumes nothing.
use Prim.Native.Nat.{ℕ}
use native.Mathlib.Omega.{arith}
use mathlib.Core.Path.{◌≡◌, refl, sym, ap, ◌∙◌}
use mathlib.Core.Bool.{Bool, true}
use mathlib.Core.Option.{Option, none, some}
use mathlib.Core.List.{List}
use lib.Dec.{T}
use Rattle.base.specs.Outcome.{Outcome, answer, stop, and_then}
use Rattle.comparable_range.specs.Range.{Bound, Range}
use Rattle.format.specs.Whole.{whole}
use Rattle.format.specs.Range.{read_range, bound_in, BoundInside}
use Rattle.format.specs.Given.{bound_given}
use Rattle.format.specs.Span.{MetFound, JointFound}
use Rattle.format.specs.declared.range.BoundSpan.{BoundSpan}
use Rattle.format.specs.declared.span.RangeSpan.{RangeSpan}
use Rattle.format.specs.Span.{Met}
use Rattle.format.specs.declared.span.Joined.{Joined}
use Rattle.format.specs.declared.span.Joined.TheVariants.{Stop as JoinedStop}
use Rattle.records.specs.Values.{View, Run, Image}
use Rattle.records.specs.Found.{is_got, values_of}
use Rattle.records.specs.Layouts.{image}
use Rattle.records.specs.Spans.{view_in, ViewInside}
use Rattle.records.specs.declared.views.ViewSpan.{ViewSpan}
use Rattle.records.specs.declared.views.ViewRead.{ViewRead}
use Rattle.records.specs.declared.views.ViewRead.TheVariants.{At as ViewAt, Stop as ViewStop}
use Rattle.manifest.specs.Checks.{all, table_passes}
use Rattle.db_state.specs.Places.{at as index_at, placed, view_at}
use Rattle.db_state.specs.Lookup.{calculate_view_range, intersects_range}
use Rattle.db_state.specs.LookupCalls.{RangeAsked, checked_asked, image_and_range, calculate_view_range_outcome, intersects_range_outcome}
use Rattle.sst_view.specs.Asked.{range_at, SpanInside, AskedFound, image_end_and_range, end_outcome, EndInside, EndFound}
use Rattle.sst_view.specs.Spans.{ViewPlaced}
use Rattle.sst_view.specs.Views.{joined_of}
use Rattle.sst_view.specs.declared.asked.Asked.{Asked}
use Rattle.sst_view.specs.declared.asked.Asked.TheVariants.{Range as AskedRange, Stop as AskedStop}
use Rattle.sst_view.specs.declared.asked.EndAsked.{EndAsked}
use Rattle.sst_view.specs.declared.asked.EndAsked.TheVariants.{At as EndAt, Stop as EndStop}
use Rattle.db_state.proofs.RunLookups.{at_passes}
use Rattle.sst_view.proofs.AskedExits.{not_given, given}
use Rattle.sst_view.proofs.CutExits.{joined_found, same_found}

-- ---- a view that was called
module _ {s : List ℕ} {o : Outcome View} {z : ViewRead} (y : ViewPlaced s o z) where
  pub not_called : {k : ℕ} → z ≡ ViewStop k → o ≡ stop k
  not_called e = sym y.meaning ∙ rw e

  module _ {v : ViewSpan} (e : z ≡ ViewAt v) where
    pub called : o ≡ answer (view_in s v)
    called = sym y.meaning ∙ rw e

    pub called_inside : ViewInside s v
    called_inside = rw e at y.inside

-- ---- calculate_view_range
module _ (l q : List ℕ) (run place : ℕ) {w : Asked} (x : AskedFound l q (image_and_range l q) w) where
  pub calculate_not_given : {k : ℕ} → w ≡ AskedStop k → JointFound l q (calculate_view_range_outcome l run place q) (JoinedStop k)
  unfolding calculate_view_range_outcome
  calculate_not_given e = record { meaning = rw (not_given x e); inside = tt }

  module _ {r : RangeSpan} (e : w ≡ AskedRange r) {z : ViewRead} (y : ViewPlaced l (view_at (values_of (image.read l)) run place) z) where
    pub calculate_no_view : {k : ℕ} → z ≡ ViewStop k → JointFound l q (calculate_view_range_outcome l run place q) (JoinedStop k)
    unfolding calculate_view_range_outcome
    calculate_no_view h = record { meaning = rw (given x e, not_called y h); inside = tt }

    pub calculated : {v : ViewSpan} {m : Met} {j : Joined} → z ≡ ViewAt v → MetFound l q (calculate_view_range (view_in l v) (range_at q r)) m → j ≡ joined_of m → JointFound l q (calculate_view_range_outcome l run place q) j
    unfolding calculate_view_range_outcome
    calculated h f p = same_found l q (rw (given x e, called y h)) (joined_found l q f p)

pub ruleset calculate_exits = (called_inside, calculate_not_given, calculate_no_view, calculated)

-- ---- intersects_range
view_passes : (i : Image) (run place : ℕ) {v : View} → view_at i run place ≡ answer v → all (λ r. all table_passes r.views) i ≡ true → table_passes v ≡ true
unfolding view_at
view_passes i run place {v} e h = in_image (index_at i run) refl e
  where
    in_run : (r : Run) (o : Option View) → index_at r.views place ≡ o → all table_passes r.views ≡ true → placed o ≡ answer v → table_passes v ≡ true
    in_run r none p t e = absurd (let z : ◌≡◌ {A = ℕ} 0 1 = cc in omega arith)
    in_run r (some w) p t e =
        let z : w ≡ v = cc in
        rw (← z) (at_passes table_passes r.views place w t p)

    in_image : (o : Option Run) → index_at i run ≡ o → and_then (placed o) (λ r. placed (index_at r.views place)) ≡ answer v → table_passes v ≡ true
    in_image none p e = absurd (let z : ◌≡◌ {A = ℕ} 0 1 = cc in omega arith)
    in_image (some r) p e = in_run r (index_at r.views place) refl (at_passes (λ r. all table_passes r.views) i run r h p) e

-- the outcome, by what is given
abbrev tested : ℕ → ℕ → Bound × RangeAsked → Outcome Bool
tested run place p = and_then (view_at p.1.image run place) (λ v. answer (intersects_range v p.0 p.1.range))

by_given : (l key q : List ℕ) (run place kind : ℕ) → intersects_range_outcome l run place kind key q ≡ and_then (image_end_and_range l kind key q) (tested run place)
unfolding intersects_range_outcome image_end_and_range
by_given l key q run place kind = by_image (whole image.read l)
  where
    by_checks : (e : Bound) (o : Outcome RangeAsked) → and_then o (λ a. tested run place (e, a)) ≡ and_then (and_then o (λ a. answer (e, a))) (tested run place)
    by_checks e (stop k) = refl
    by_checks e (answer a) = refl

    by_range :
        (i : Image) (e : Bound) (o : Outcome Range)
        → and_then o (λ r. and_then (checked_asked i r) (λ a. tested run place (e, a)))
        ≡ and_then (and_then o (λ r. and_then (checked_asked i r) (λ a. answer (e, a)))) (tested run place)
    by_range i e (stop k) = refl
    by_range i e (answer r) = by_checks e (checked_asked i r)

    by_end :
        (i : Image) (o : Outcome Bound)
        → and_then o (λ e. and_then (whole read_range q) (λ r. and_then (checked_asked i r) (λ a. tested run place (e, a))))
        ≡ and_then (and_then o (λ e. and_then (whole read_range q) (λ r. and_then (checked_asked i r) (λ a. answer (e, a))))) (tested run place)
    by_end i (stop k) = refl
    by_end i (answer e) = by_range i e (whole read_range q)

    by_image :
        (o : Outcome Image)
        → and_then o (λ i. and_then (bound_given kind key) (λ e. and_then (whole read_range q) (λ r. and_then (checked_asked i r) (λ a. tested run place (e, a)))))
        ≡ and_then (and_then o (λ i. and_then (bound_given kind key) (λ e. and_then (whole read_range q) (λ r. and_then (checked_asked i r) (λ a. answer (e, a)))))) (tested run place)
    by_image (stop k) = refl
    by_image (answer i) = by_end i (bound_given kind key)

module _ (l key q : List ℕ) (run place kind : ℕ) {w : EndAsked} (x : EndFound l key q (image_end_and_range l kind key q) w) where
  outcome_by : {o : Outcome (Bound × RangeAsked)} → end_outcome l key q w ≡ o → intersects_range_outcome l run place kind key q ≡ and_then o (tested run place)
  outcome_by e = by_given l key q run place kind ∙ ap (λ o. and_then o (tested run place)) (sym x.meaning ∙ e)

  pub intersects_not_given : {k : ℕ} → w ≡ EndStop k → stop k ≡ intersects_range_outcome l run place kind key q
  intersects_not_given e = sym (outcome_by (ap (end_outcome l key q) e))

  module _ {b : BoundSpan} {r : RangeSpan} (e : w ≡ EndAt b r) where
    given_inside : EndInside l key q b r
    given_inside = rw e at x.inside

    pub end_image : T (is_got (image.read l))
    end_image = given_inside.read.there

    pub end_bound : BoundInside key b
    end_bound = given_inside.end

    pub end_range : SpanInside q r
    end_range = given_inside.range

    module _ {z : ViewRead} (y : ViewPlaced l (view_at (values_of (image.read l)) run place) z) where
      pub intersects_no_view : {k : ℕ} → z ≡ ViewStop k → stop k ≡ intersects_range_outcome l run place kind key q
      intersects_no_view h = sym (outcome_by (ap (end_outcome l key q) e) ∙ rw (not_called y h))

      module _ {v : ViewSpan} (h : z ≡ ViewAt v) where
        pub called_passes : table_passes (view_in l v) ≡ true
        called_passes = view_passes (values_of (image.read l)) run place (called y h) given_inside.read.tables

        pub intersected : {t : Bool} → t ≡ intersects_range (view_in l v) (bound_in key b) (range_at q r) → answer t ≡ intersects_range_outcome l run place kind key q
        intersected p = sym (outcome_by (ap (end_outcome l key q) e) ∙ rw (called y h, p))

pub ruleset intersects_exits = (called_inside, intersects_not_given, end_image, end_bound, end_range, intersects_no_view, called_passes, intersected)
