-- What a view keeps of the asked range, by the view after it in its run.
-- Assumes nothing.
use Prim.Native.Nat.{ℕ, ◌+◌, ◌<◌, ◌≤◌}
use mathlib.Core.Path.{◌≡◌, refl, sym, ap, ◌∙◌}
use mathlib.Core.Option.{Option}
use mathlib.Core.List.{List}
use lib.ListN.{drop}
use Rattle.base.specs.Outcome.{Outcome, and_then}
use Rattle.comparable_range.specs.declared.Side.TheVariants.{First, Second}
use Rattle.format.specs.Got.{Got}
use Rattle.format.specs.Joint.{Joint, from}
use Rattle.format.specs.Joint as joint
use Rattle.format.specs.Range.{BoundInside}
use Rattle.format.specs.Span.{MetFound, JointFound}
use Rattle.format.specs.declared.range.BoundSpan.{BoundSpan}
use Rattle.format.specs.declared.span.RangeSpan.{RangeSpan}
use Rattle.format.specs.Span.{Met}
use Rattle.format.specs.declared.span.Joined.{Joined}
use Rattle.format.specs.declared.span.Joined.TheVariants.{Stop as JoinedStop}
use Rattle.records.specs.Form.{read_many}
use Rattle.records.specs.Found.{values_of}
use Rattle.records.specs.Layouts.{view, image}
use Rattle.records.specs.Values.{View}
use Rattle.records.specs.Spans.{view_in}
use Rattle.records.specs.There.{ViewThere}
use Rattle.records.specs.declared.views.ViewSpan.{ViewSpan}
use Rattle.records.specs.declared.there.RunSpan.{RunSpan}
use Rattle.manifest.specs.Spans.{EffectiveFound}
use Rattle.db_state.specs.Lookup.{compacted_intersection}
use Rattle.db_state.specs.LookupCalls.{views_at, image_and_range, compacted_intersection_outcome}
use Rattle.sst_view.specs.Asked.{range_at, AskedFound}
use Rattle.records.specs.There.{Past}
use Rattle.sst_view.specs.Runs.{views_of, RunInside, RunCalled}
use Rattle.sst_view.specs.Views.{key_at, StartThere, cut_before, kept_at, joined_of}
use Rattle.sst_view.specs.declared.asked.Asked.{Asked}
use Rattle.sst_view.specs.declared.asked.Asked.TheVariants.{Range as AskedRange, Stop as AskedStop}
use Rattle.sst_view.specs.declared.places.RunPlaced.{RunPlaced}
use Rattle.sst_view.specs.declared.places.RunPlaced.TheVariants.{At as RunAt, Stop as RunStop}
use Rattle.sst_view.proofs.AskedExits.{not_given, given}
use Rattle.sst_view.proofs.CutExits.{own_inside, joined_found, same_found}
use Rattle.sst_view.proofs.Past.{none_past}
use Rattle.sst_view.proofs.PlaceExits.{run_not_called, run_called, run_called_inside}
use Rattle.sst_view.proofs.RunViews.{no_next, this_view, next_there, next_view, there_inside}

-- ---- view_kept and kept_in_run
pub start_inside : {s : List ℕ} {g : Got View} {b : BoundSpan} → StartThere s g b → BoundInside s b
start_inside z = z.inside

module _ (a b : List ℕ) (r : RunSpan) (place : ℕ) (asked : RangeSpan) (i : RunInside a r) where
  pub no_view_there : r.views ≤ place → JointFound a b (kept_at (views_of a r) place (range_at b asked)) (JoinedStop 9)
  no_view_there h = record { meaning = sym (rw (none_past view.read place r.views (drop r.first a) h i.there)); inside = tt }

  module _ {e : ℕ} (x : Past a (read_many view.read place (drop r.first a)) e) {v : ViewSpan} (y : ViewThere a (view.read (drop e a)) v) where
    pub kept_to_next :
        {w : BoundSpan} {m : Met}
        → place < r.views
        → place + 1 < r.views
        → StartThere a (view.read (drop v.past a)) w
        → MetFound a b (cut_before (view_in a v) (key_at a w) (range_at b asked)) m
        → JointFound a b (kept_at (views_of a r) place (range_at b asked)) (joined_of m)
    unfolding compacted_intersection
    kept_to_next h k z g =
        same_found a b (rw (this_view a r place i x y h, next_view a r place i x y k z.read)) (joined_found a b (rw z.key at g) refl)

    pub kept_last :
        {own : RangeSpan} {m : Met}
        → place < r.views
        → r.views ≤ place + 1
        → EffectiveFound a v own
        → MetFound a b (joint.intersect (from First (range_at a own)) (from Second (range_at b asked))) m
        → JointFound a b (kept_at (views_of a r) place (range_at b asked)) (joined_of m)
    unfolding compacted_intersection
    kept_last {own} {m} h k f g =
        let z = ap (λ o. joint.intersect (from First o) (from Second (range_at b asked))) f.meaning in
        same_found a b (rw (this_view a r place i x y h, no_next a r place i k)) (joined_found a b {m = m} (record { meaning = g.meaning ∙ z; inside = g.inside }) refl)

pub kept_joined : (a b : List ℕ) {g : Outcome (Option Joint)} (m : Met) {j : Joined} → JointFound a b g (joined_of m) → j ≡ joined_of m → JointFound a b g j
kept_joined a b m f p = rw p f

pub ruleset kept_exits = (there_inside, own_inside, start_inside, next_there, kept_to_next, kept_last)

pub ruleset in_run_kept = (no_view_there, kept_joined)

-- ---- compacted_intersection
module _ (l q : List ℕ) (run place : ℕ) {w : Asked} (x : AskedFound l q (image_and_range l q) w) where
  pub kept_not_given : {k : ℕ} → w ≡ AskedStop k → JointFound l q (compacted_intersection_outcome l run place q) (JoinedStop k)
  unfolding compacted_intersection_outcome
  kept_not_given e = record { meaning = rw (not_given x e); inside = tt }

  module _ {r : RangeSpan} (e : w ≡ AskedRange r) {z : RunPlaced} (y : RunCalled l (views_at (values_of (image.read l)) run) z) where
    outcome_is : {o : Outcome (List View)} → views_at (values_of (image.read l)) run ≡ o → compacted_intersection_outcome l run place q ≡ and_then o (λ vs. kept_at vs place (range_at q r))
    unfolding compacted_intersection_outcome
    outcome_is h = rw (given x e) (ap (λ o. and_then o (λ vs. kept_at vs place (range_at q r))) h)

    pub kept_no_run : {k : ℕ} → z ≡ RunStop k → JointFound l q (compacted_intersection_outcome l run place q) (JoinedStop k)
    kept_no_run h = record { meaning = sym (outcome_is (run_not_called y h)); inside = tt }

    pub kept : {s : RunSpan} {j : Joined} → z ≡ RunAt s → JointFound l q (kept_at (views_of l s) place (range_at q r)) j → JointFound l q (compacted_intersection_outcome l run place q) j
    kept h f = same_found l q (outcome_is (run_called y h)) f

pub ruleset compacted_exits = (run_called_inside, kept_not_given, kept_no_run, kept)
