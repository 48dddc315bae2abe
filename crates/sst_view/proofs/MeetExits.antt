-- Whether a range meets the asked range: a bound of a side is read in the slice of that side. By cuts, a view that passes
-- check 5 intersects a range exactly if it meets it from its start on.
-- Assumes nothing.
use Prim.Native.Nat.{ℕ}
use mathlib.Core.Path.{◌≡◌, refl, sym, ap, ◌∙◌}
use mathlib.Core.Bool.{Bool, true}
use mathlib.Core.List.{List}
use Rattle.comparable_range.specs.Range.{Bound, Range, of, non_empty, start_side, end_side, intersect_sides, meets}
use Rattle.comparable_range.specs.declared.Side.{Side}
use Rattle.comparable_range.specs.declared.Side.TheVariants.{First, Second}
use Rattle.comparable_range.proofs.Unions.{meets_is}
use Rattle.format.specs.Range.{bound_in, BoundInside}
use Rattle.format.specs.declared.range.BoundSpan.{BoundSpan}
use Rattle.format.specs.declared.span.RangeSpan.{RangeSpan}
use Rattle.records.specs.Values.{View}
use Rattle.records.specs.Spans.{view_in}
use Rattle.records.specs.declared.views.ViewSpan.{ViewSpan}
use Rattle.manifest.specs.Ranges.{effective}
use Rattle.manifest.specs.Checks.{table_passes}
use Rattle.manifest.specs.Spans.{EffectiveFound}
use Rattle.db_state.specs.Lookup.{between, intersects_range}
use Rattle.sst_view.specs.Asked.{range_at, SpanInside}
use Rattle.db_state.proofs.Intersects.{meets_by_cuts, intersects_range_by_cuts}

chosen_inside : (side : Side) (a b : List ℕ) (x y : BoundSpan) → BoundInside a x → BoundInside b y → BoundInside (of side a b) (of side x y)
chosen_inside First a b x y h k = h
chosen_inside Second a b x y h k = k

chosen_in : (side : Side) (a b : List ℕ) (x y : BoundSpan) → bound_in (of side a b) (of side x y) ≡ of side (bound_in a x) (bound_in b y)
chosen_in First a b x y = refl
chosen_in Second a b x y = refl

module _ {q : List ℕ} {asked : RangeSpan} (w : SpanInside q asked) where
  pub asked_starts : BoundInside q asked.start
  asked_starts = w.start

  pub asked_ends : BoundInside q asked.end
  asked_ends = w.end

  module _ (i : List ℕ) (start : BoundSpan) (h : BoundInside i start) {s : Side} {l : List ℕ} {b : BoundSpan} where
    pub start_chosen : s ≡ start_side (bound_in i start) (bound_in q asked.start) → l ≡ of s i q → b ≡ of s start asked.start → BoundInside l b
    start_chosen o x y = rw (x, y) (chosen_inside s i q start asked.start h w.start)

  module _ (e : List ℕ) (end : BoundSpan) (h : BoundInside e end) {s : Side} {l : List ℕ} {b : BoundSpan} where
    pub end_chosen : s ≡ end_side (bound_in e end) (bound_in q asked.end) → l ≡ of s e q → b ≡ of s end asked.end → BoundInside l b
    end_chosen o x y = rw (x, y) (chosen_inside s e q end asked.end h w.end)

module _ (i e q : List ℕ) (start end : BoundSpan) (asked : RangeSpan) {s f : Side} {l m : List ℕ} {b d : BoundSpan} where
  pub chosen_meets :
      s ≡ start_side (bound_in i start) (bound_in q asked.start)
      → f ≡ end_side (bound_in e end) (bound_in q asked.end)
      → l ≡ of s i q
      → b ≡ of s start asked.start
      → m ≡ of f e q
      → d ≡ of f end asked.end
      → {t : Bool}
      → t ≡ non_empty (between (bound_in l b) (bound_in m d))
      → t ≡ meets (intersect_sides (between (bound_in i start) (bound_in e end)) (range_at q asked))
  chosen_meets hs hf hl hb hm hd h =
      let m = meets_is (between (bound_in i start) (bound_in e end)) (range_at q asked) in
      h ∙ rw (hl, hb, hm, hd, chosen_in s i q start asked.start, chosen_in f e q end asked.end, hs, hf) (sym m)

pub ruleset meet_exits = (asked_starts, asked_ends, start_chosen, end_chosen, chosen_meets)

-- ---- view_intersects
-- with check 5, a view intersects where the range from its start to the end bound meets the asked range
pub intersects_is :
    (v : View) (end : Bound) (asked : Range)
    → table_passes v ≡ true
    → meets (intersect_sides (between (effective v).start end) asked) ≡ intersects_range v end asked
intersects_is v end asked h = meets_by_cuts (between (effective v).start end) asked ∙ sym (intersects_range_by_cuts v end asked h)

pub from_start :
    (s e q : List ℕ) (v : ViewSpan) (end : BoundSpan) (asked : RangeSpan) {w : RangeSpan} {t : Bool}
    → EffectiveFound s v w
    → table_passes (view_in s v) ≡ true
    → t ≡ meets (intersect_sides (between (bound_in s w.start) (bound_in e end)) (range_at q asked))
    → t ≡ intersects_range (view_in s v) (bound_in e end) (range_at q asked)
from_start s e q v end asked f p h =
    let z = ap (λ (r : Range). meets (intersect_sides (between r.start (bound_in e end)) (range_at q asked))) f.meaning in
    h ∙ (z ∙ intersects_is (view_in s v) (bound_in e end) (range_at q asked) p)

pub effective_starts : {s : List ℕ} {v : ViewSpan} {w : RangeSpan} → EffectiveFound s v w → BoundInside s w.start
effective_starts f = f.start

pub ruleset start_exits = (from_start, effective_starts)
