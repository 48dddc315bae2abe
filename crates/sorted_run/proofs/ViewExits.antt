-- A view of a run, read where it stands, and whether it intersects the asked range: of a view that passed check 5, one meeting
-- of ranges tells it.
-- Assumes nothing.
use Prim.Native.Nat.{ℕ, suc, ◌+◌, ◌<◌, ◌≤◌, ◌^◌}
use native.Mathlib.Omega.{arith}
use native.Mathlib.Numerals.{add-one}
use mathlib.Core.Path.{◌≡◌, refl, sym, ap, ap₂, ◌∙◌}
use mathlib.Core.Bool.{Bool, true}
use mathlib.Core.Option.{Option, some}
use mathlib.Core.List.{List}
use lib.ListN.{length, drop, get_or}
use lib.Dec.{T}
use Rattle.base.specs.Pick.{pick}
use Rattle.comparable_range.specs.Range.{Bound, included, excluded, Range, holds, intersect_sides, meets}
use Rattle.comparable_range.specs.declared.Kind.TheVariants.{Unbounded}
use Rattle.format.specs.Got.{Got}
use Rattle.format.specs.Range.{bound_in, BoundInside}
use Rattle.format.specs.declared.range.BoundSpan.{BoundSpan}
use Rattle.format.specs.declared.span.RangeSpan.{RangeSpan}
use Rattle.records.specs.Form.{read_many}
use Rattle.records.specs.Found.{is_got}
use Rattle.records.specs.Layouts.{view}
use Rattle.records.specs.Values.{View}
use Rattle.records.specs.Spans.{view_in, ViewInside}
use Rattle.records.specs.There.{ViewThere}
use Rattle.records.specs.declared.views.ViewSpan.{ViewSpan}
use Rattle.records.specs.declared.there.RunSpan.{RunSpan}
use Rattle.manifest.specs.Ranges.{effective}
use Rattle.manifest.specs.Checks.{table_passes}
use Rattle.manifest.specs.Spans.{EffectiveFound}
use Rattle.db_state.specs.Places.{at as index_at}
use Rattle.db_state.specs.Lookup.{between, start_key, end_before, end_bound, table_end_bound, intersects_up_to, intersects_range, table_intersects}
use Rattle.sst_view.specs.Asked.{range_at, SpanInside}
use Rattle.records.specs.There.{Past}
use Rattle.sst_view.specs.Runs.{views_of, PlacesOf}
use Rattle.sst_view.proofs.Past.{past_more, past_here, value_here, none_past}
use Rattle.sst_view.proofs.RunViews.{start_key_lem}
use Rattle.db_state.proofs.RunLookups.{at_passes}
use Rattle.db_state.proofs.Intersects.{meets_by_cuts, intersects_range_by_cuts}
use Rattle.sorted_run.specs.Found.{EffectiveThere, EndThere, Sought}
use Rattle.sorted_run.specs.declared.views.EffectiveSpan.{EffectiveSpan}

-- ---- effective_there
module _ {s : List ℕ} {g : Got View} {v : ViewSpan} (y : ViewThere s g v) where
  pub there_inside : ViewInside s v
  there_inside = y.inside

  pub effective_there : {w : RangeSpan} → EffectiveFound s v w → EffectiveThere s g (record { range = w; past = v.past })
  effective_there f =
      record {
        value = view_in s v;
        read = y.meaning;
        past = y.inside.past;
        meaning = f.meaning;
        key = start_key_lem s f;
        inside = record { start = f.start; end = f.end };
      }

pub ruleset effective_exits = (there_inside, effective_there)

-- ---- what is there of a view
module _ {s : List ℕ} {g : Got View} {e : EffectiveSpan} (x : EffectiveThere s g e) where
  pub range_inside : SpanInside s e.range
  range_inside = x.inside

  pub start_inside : BoundInside s e.range.start
  start_inside = x.inside.start

  pub end_inside : BoundInside s e.range.end
  end_inside = x.inside.end

  pub start_is : bound_in s e.range.start ≡ (effective x.value).start
  start_is = ap (λ (r : Range). r.start) x.meaning

  pub end_is : bound_in s e.range.end ≡ (effective x.value).end
  end_is = ap (λ (r : Range). r.end) x.meaning

-- ---- a view and an end bound
met_once : (v : View) (end : Bound) (asked : Range) → table_passes v ≡ true → intersects_range v end asked ≡ meets (intersect_sides (between (effective v).start end) asked)
met_once v end asked h = intersects_range_by_cuts v end asked h ∙ sym (meets_by_cuts (between (effective v).start end) asked)

pub next_end_inside : {s : List ℕ} {own : RangeSpan} {g : Got View} {b : BoundSpan} → EndThere s own g b → BoundInside s b
next_end_inside y = y.inside

-- ---- intersects_at
module _ {s q : List ℕ} {r : RunSpan} {asked : RangeSpan} {places : List ℕ} {idx : ℕ} (i : Sought s r q asked) (p : PlacesOf s r places) (h : idx < r.views) where
  pub place_in : idx < length places
  place_in = omega (arith, p.room)

  pub next_fits : idx + 1 < 2 ^ 64
  next_fits = omega (arith, i.run.most)

  pub place_there : T (is_got (view.read (drop (get_or places idx 0) s)))
  place_there = past_here view.read s r.first idx (p.at idx h) r.views h i.run.there

  pub asked_inside : SpanInside q asked
  asked_inside = i.range

  module _ {e : EffectiveSpan} (x : EffectiveThere s (view.read (drop (get_or places idx 0) s)) e) where
    here : index_at (views_of s r) idx ≡ some x.value
    here = value_here view.read s r.first idx (p.at idx h) r.views h i.run.there x.read

    passes : table_passes x.value ≡ true
    passes = at_passes table_passes (views_of s r) idx x.value i.tables here

    next_past : Past s (read_many view.read (idx + 1) (drop r.first s)) e.past
    next_past = past_more view.read s r.first idx (p.at idx h) x.read x.past

    met : {o : Option View} {t : Bool} {end : Bound} → index_at (views_of s r) (suc idx) ≡ o → end ≡ end_bound (some x.value) o → t ≡ meets (intersect_sides (between (bound_in s e.range.start) end) (range_at q asked)) → t ≡ table_intersects (views_of s r) (range_at q asked) idx
    unfolding table_intersects table_end_bound
    met {o} {t} {end} f g w =
        w ∙ (ap₂ (λ a b. meets (intersect_sides (between a b) (range_at q asked))) (start_is x) g
        ∙ (sym (met_once x.value (end_bound (some x.value) o) (range_at q asked) passes)
        ∙ sym (ap₂ (λ a b. intersects_up_to a (end_bound a b) (range_at q asked)) here f)))

    pub last_met : {t : Bool} → r.views ≤ idx + 1 → t ≡ meets (intersect_sides (between (bound_in s e.range.start) (bound_in s (record { kind = Unbounded; at = 0; len = 0 }))) (range_at q asked)) → t ≡ table_intersects (views_of s r) (range_at q asked) idx
    last_met k w = met (none_past view.read (suc idx) r.views (drop r.first s) (omega arith) i.run.there) refl w

    module _ (k : idx + 1 < r.views) where
      pub next_there : T (is_got (view.read (drop e.past s)))
      next_there = past_here view.read s r.first (idx + 1) next_past r.views k i.run.there

      module _ {b : BoundSpan} (y : EndThere s e.range (view.read (drop e.past s)) b) where
        next_is : index_at (views_of s r) (suc idx) ≡ some y.value
        next_is = rw (← add-one) (value_here view.read s r.first (idx + 1) next_past r.views k i.run.there y.read)

        bound_is : bound_in s b ≡ end_before x.value (start_key y.value)
        bound_is = y.meaning ∙ ap (λ w. pick (holds w (start_key y.value)) (included (start_key y.value)) (excluded (start_key y.value))) x.meaning

        pub next_met : {t : Bool} → t ≡ meets (intersect_sides (between (bound_in s e.range.start) (bound_in s b)) (range_at q asked)) → t ≡ table_intersects (views_of s r) (range_at q asked) idx
        next_met w = met next_is bound_is w

pub ruleset at_exits = (range_inside, start_inside, end_inside, place_in, next_fits, place_there, asked_inside, next_there, next_end_inside, last_met, next_met)
