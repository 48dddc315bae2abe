-- Whether a run's span meets the asked range: the view at the last place of a run is its last view.
-- Assumes nothing.
use Prim.Native.Nat.{ℕ, zero, suc, ◌-◌, ◌<◌, ◌≤◌}
use native.Mathlib.Omega.{arith}
use mathlib.Core.Path.{◌≡◌, refl, sym, ap, ap₂, ◌∙◌}
use mathlib.Core.Bool.{Bool, false}
use mathlib.Core.Option.{some}
use mathlib.Core.List.{List, [], ◌∷◌}
use lib.ListN.{length, drop}
use lib.Dec.{T}
use Rattle.base.specs.Outcome.{Outcome, answer, stop, and_then}
use Rattle.comparable_range.specs.Range.{Range, intersect_sides, meets}
use Rattle.format.specs.Got.{stop, Got, got}
use Rattle.format.specs.Range.{bound_in}
use Rattle.format.specs.declared.span.RangeSpan.{RangeSpan}
use Rattle.records.specs.Form.{read_many}
use Rattle.records.specs.Found.{is_got, values_of}
use Rattle.records.specs.Layouts.{view, image}
use Rattle.records.specs.Values.{View}
use Rattle.records.specs.declared.there.RunSpan.{RunSpan}
use Rattle.records.proofs.Forms.{read_many_length}
use Rattle.manifest.specs.Ranges.{effective}
use Rattle.db_state.specs.Places.{at as index_at}
use Rattle.db_state.specs.Lookup.{between, last_view, overlaps_range}
use Rattle.db_state.specs.LookupCalls.{image_and_range, views_at, overlaps_range_outcome}
use Rattle.sst_view.specs.Asked.{range_at, AskedFound}
use Rattle.records.specs.There.{Past}
use Rattle.sst_view.specs.Runs.{views_of, RunInside, RunCalled}
use Rattle.sst_view.specs.declared.asked.Asked.{Asked}
use Rattle.sst_view.specs.declared.asked.Asked.TheVariants.{Range as AskedRange, Stop as AskedStop}
use Rattle.sst_view.specs.declared.places.RunPlaced.{RunPlaced}
use Rattle.sst_view.specs.declared.places.RunPlaced.TheVariants.{At as RunAt, Stop as RunStop}
use Rattle.sst_view.proofs.AskedExits.{not_given, given, image_given_lem, range_given_lem}
use Rattle.sst_view.proofs.Past.{past_none, past_here, value_here, before_got}
use Rattle.sst_view.proofs.PlaceExits.{run_not_called, run_called, run_called_inside}
use Rattle.sorted_run.specs.Found.{EffectiveThere}
use Rattle.sorted_run.specs.declared.views.EffectiveSpan.{EffectiveSpan}
use Rattle.sorted_run.proofs.ViewExits.{start_inside, end_inside, start_is, end_is}

-- ---- the views of a run
pub views_long : (s : List ℕ) (r : RunSpan) → RunInside s r → length (views_of s r) ≡ r.views
views_long s r i = go (read_many view.read r.views (drop r.first s)) refl i.there
  where
    go : (g : Got (List View)) → read_many view.read r.views (drop r.first s) ≡ g → T (is_got g) → length (values_of g) ≡ r.views
    go (got vs l) e t = read_many_length view.read r.views (drop r.first s) vs l e
    go (stop _) e t = elim t [ ]

last_at : (v : View) (vs : List View) → index_at (v ∷ vs) (length vs) ≡ some (last_view v vs)
unfolding index_at
last_at v [] = refl
last_at v (w ∷ ws) = last_at w ws

-- the first view's start and the last view's end are the span
overlaps_by :
    (vs : List View) (n : ℕ) (a b : View) (asked : Range)
    → length vs ≡ n
    → index_at vs 0 ≡ some a
    → index_at vs (n - 1) ≡ some b
    → overlaps_range vs asked ≡ meets (intersect_sides (between (effective a).start (effective b).end) asked)
unfolding overlaps_range index_at
overlaps_by [] n a b asked l e f = absurd (let z : ◌≡◌ {A = ℕ} 0 1 = cc in omega arith)
overlaps_by (v ∷ vs) n a b asked l e f =
    let y : v ≡ a = cc in
    let k : n - 1 ≡ length vs = omega (arith, l) in
    let m : some (last_view v vs) ≡ some b = sym (last_at v vs) ∙ (ap (index_at (v ∷ vs)) (sym k) ∙ f) in
    let z : last_view v vs ≡ b = cc in
    ap₂ (λ (x : View) (w : View). meets (intersect_sides (between (effective x).start (effective w).end) asked)) y z

-- ---- run_overlaps
module _ (s q : List ℕ) (r : RunSpan) (asked : RangeSpan) (i : RunInside s r) where
  pub no_views : r.views ≡ 0 → false ≡ overlaps_range (views_of s r) (range_at q asked)
  unfolding overlaps_range
  no_views e = go (views_of s r) (views_long s r i ∙ e)
    where
      go : (vs : List View) → length vs ≡ 0 → false ≡ overlaps_range vs (range_at q asked)
      go [] e = refl
      go (v ∷ vs) e = absurd (omega (arith, e))

  pub first_from : r.first ≤ length s
  first_from = i.first

  module _ (h : r.views ≡ 0 → ⊥) where
    some_views : 0 < r.views
    some_views = go r.views h
      where
        go : (n : ℕ) → (n ≡ 0 → ⊥) → 0 < n
        go zero h = absurd (h refl)
        go (suc n) h = omega arith

    pub first_there : T (is_got (view.read (drop r.first s)))
    first_there = past_here view.read s r.first 0 (past_none view.read s r.first i.first) r.views some_views i.there

    pub one_less : 1 ≤ r.views
    one_less = some_views

    pub others_there : T (is_got (read_many view.read (r.views - 1) (drop r.first s)))
    others_there = before_got view.read (r.views - 1) r.views (drop r.first s) (omega (arith, some_views)) i.there

    module _ {e : ℕ} (p : Past s (read_many view.read (r.views - 1) (drop r.first s)) e) where
      pub last_there : T (is_got (view.read (drop e s)))
      last_there = past_here view.read s r.first (r.views - 1) p r.views (omega (arith, some_views)) i.there

      pub span_meets :
          {a b : EffectiveSpan} {t : Bool}
          → EffectiveThere s (view.read (drop r.first s)) a
          → EffectiveThere s (view.read (drop e s)) b
          → t ≡ meets (intersect_sides (between (bound_in s a.range.start) (bound_in s b.range.end)) (range_at q asked))
          → t ≡ overlaps_range (views_of s r) (range_at q asked)
      span_meets {a} {b} x y w =
          let f = value_here view.read s r.first 0 (past_none view.read s r.first i.first) r.views some_views i.there x.read in
          let g = value_here view.read s r.first (r.views - 1) p r.views (omega (arith, some_views)) i.there y.read in
          w ∙ (ap₂ (λ u v. meets (intersect_sides (between u v) (range_at q asked))) (start_is x) (end_is y)
          ∙ sym (overlaps_by (views_of s r) r.views x.value y.value (range_at q asked) (views_long s r i) f g))

pub ruleset overlap_exits = (start_inside, end_inside, no_views, first_from, first_there, one_less, others_there, last_there, span_meets)

-- ---- overlaps_range
module _ (l q : List ℕ) (run : ℕ) {w : Asked} (x : AskedFound l q (image_and_range l q) w) where
  pub overlap_not_given : {k : ℕ} → w ≡ AskedStop k → stop k ≡ overlaps_range_outcome l run q
  unfolding overlaps_range_outcome
  overlap_not_given e = rw (not_given x e)

  module _ {r : RangeSpan} (e : w ≡ AskedRange r) {z : RunPlaced} (y : RunCalled l (views_at (values_of (image.read l)) run) z) where
    outcome_is : {o : Outcome (List View)} → views_at (values_of (image.read l)) run ≡ o → overlaps_range_outcome l run q ≡ and_then o (λ vs. answer (overlaps_range vs (range_at q r)))
    unfolding overlaps_range_outcome
    outcome_is h = rw (given x e) (ap (λ o. and_then o (λ vs. answer (overlaps_range vs (range_at q r)))) h)

    pub overlap_no_run : {k : ℕ} → z ≡ RunStop k → stop k ≡ overlaps_range_outcome l run q
    overlap_no_run h = sym (outcome_is (run_not_called y h))

    pub overlap_tested : {s : RunSpan} {t : Bool} → z ≡ RunAt s → t ≡ overlaps_range (views_of l s) (range_at q r) → answer t ≡ overlaps_range_outcome l run q
    overlap_tested h u = sym (outcome_is (run_called y h) ∙ ap answer (sym u))

pub ruleset overlaps_range_exits = (image_given_lem, range_given_lem, run_called_inside, overlap_not_given, overlap_no_run, overlap_tested)
