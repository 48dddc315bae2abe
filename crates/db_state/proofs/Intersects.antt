-- Whether a view intersects a range, by cuts: a range from below all keys gives the view's start, and the given end stays.
-- Assumes nothing.
use Prim.Native.Nat.{ℕ}
use native.Mathlib.Omega.{arith}
use mathlib.Core.Path.{◌≡◌, refl, sym, ap, ◌∙◌}
use mathlib.Core.Logic.{inl, inr}
use mathlib.Core.Bool.{Bool, true, false}
use mathlib.Core.Option.{some}
use Rattle.base.specs.Pick.{pick}
use Rattle.std.specs.Prelude.{None, Some}
use Rattle.comparable_range.specs.Range.{Bound, unbounded, included, excluded, Range, of, cmp_bound, bounds_pass, non_empty, start_side, end_side, overlap, chosen, intersect_sides, intersect, meets}
use Rattle.comparable_range.specs.Cut.{Cut, cut_below, ◌≼◌, ◌≺◌, later, sooner, start_cut, end_cut}
use Rattle.comparable_range.proofs.Cut.{order, ≼_trans, ≼-not-≺, ≺-≼-trans, ≼-≺-trans, before-≺}
use Rattle.comparable_range.proofs.Lattice.{≼-later-left, sooner-≼-left, ≺-sooner}
use Rattle.comparable_range.proofs.ByCuts.{start_side_cut, end_side_cut, passes_by_cuts, ≺-passes, ≺-of-below, ≼-of-not-below, not-below-of-≼, held_parts}
use Rattle.comparable_range.proofs.Unions.{meets_is}
use Rattle.format.specs.Span.{bound_key}
use Rattle.records.specs.Values.{View}
use Rattle.manifest.specs.Ranges.{effective}
use Rattle.manifest.specs.Checks.{table_passes}
use Rattle.manifest.proofs.ViewRanges.{effective_start_is_held}
use Rattle.db_state.specs.Lookup.{between, start_key, meets_from, intersects_range}
use Rattle.db_state.specs.LookupLaws.{IntersectsRangeByCuts, StartKeyIsTheStart, ToAnEndPasses, FromTheStartPasses}

-- ---- check 5
pub start_key_is_the_start : StartKeyIsTheStart
unfolding start_key
start_key_is_the_start v h =
    let s = effective_start_is_held v h in
    s.start ∙ ap included (sym (ap bound_key s.start))

-- an effective range starts before it ends
pub starts_before_end : (v : View) → table_passes v ≡ true → start_cut (effective v).start ≺ end_cut (effective v).end
starts_before_end v h =
    let s = effective_start_is_held v h in
    let p = held_parts (effective v) s.key s.held in
    ≼-≺-trans p.0 (before-≺ p.1)

-- ---- two ranges
pub meets_by_cuts :
    (r q : Range)
    → meets (intersect_sides r q)
    ≡ cut_below (later (start_cut r.start) (start_cut q.start)) (sooner (end_cut r.end) (end_cut q.end))
meets_by_cuts r q = meets_is r q ∙ (passes_by_cuts _ _ ∙ rw (start_side_cut r.start q.start, end_side_cut r.end q.end))

-- ---- intersects_range
from_below : (s : Bound) → of (start_side unbounded s) unbounded s ≡ s
unfolding start_side cmp_bound
from_below unbounded = refl
from_below (included k) = refl
from_below (excluded k) = refl

-- the first of the two ranges that the Rust builds, cut by a range, passes if the greater start stands before the lesser end
abbrev first_passes : Bound → Range → Bool
first_passes end w = non_empty (overlap (between unbounded end) w)

first_cuts : (end : Bound) (w : Range) → first_passes end w ≡ cut_below (start_cut w.start) (sooner (end_cut end) (end_cut w.end))
first_cuts end w = passes_by_cuts _ _ ∙ rw (from_below w.start, end_side_cut end w.end)

opened :
    (end : Bound) (w asked : Range)
    → meets_from (intersect (between unbounded end) w) end asked
    ≡ pick (first_passes end w) (meets (intersect_sides (between w.start end) asked)) false
unfolding intersect_sides
opened end w asked = go (first_passes end w)
  where
    go :
        (t : Bool)
        → meets_from (chosen (between unbounded end) w (pick t (Some (start_side unbounded w.start, end_side end w.end)) None)) end asked
        ≡ pick t (meets (intersect_sides (between w.start end) asked)) false
    go true = ap (λ b. meets (intersect_sides (between b end) asked)) (from_below w.start)
    go false = refl

-- an end that the range does not reach before its own is at or before its start
ends_first : {s e f : Cut} → s ≺ f → sooner e f ≼ s → e ≼ s
ends_first {s} {e} {f} p h = elim (order e s) [ inl k ↦ k | inr k ↦ ≼-not-≺ h (≺-sooner k p) ]

pub intersects_range_by_cuts : IntersectsRangeByCuts
unfolding intersects_range
intersects_range_by_cuts v end asked h = opened end w asked ∙ go (first_passes end w) refl
  where
    w : Range
    w = effective v

    go :
        (t : Bool)
        → first_passes end w ≡ t
        → pick t (meets (intersect_sides (between w.start end) asked)) false
        ≡ cut_below (later (start_cut w.start) (start_cut asked.start)) (sooner (end_cut end) (end_cut asked.end))
    go true e = meets_by_cuts (between w.start end) asked
    go false e =
        let c = ends_first (starts_before_end v h) (≼-of-not-below (sym (first_cuts end w) ∙ e)) in
        sym (not-below-of-≼ (≼_trans (sooner-≼-left (end_cut end) (end_cut asked.end)) (≼_trans c (≼-later-left (start_cut w.start) (start_cut asked.start)))))

-- ---- the two ranges that it builds
pub to_an_end_passes : ToAnEndPasses
unfolding bounds_pass
to_an_end_passes end = refl

pub from_the_start_passes : FromTheStartPasses
unfolding intersect_sides
from_the_start_passes v end r e = go (first_passes end w) refl e
  where
    w : Range
    w = effective v

    go :
        (t : Bool)
        → first_passes end w ≡ t
        → chosen (between unbounded end) w (pick t (Some (start_side unbounded w.start, end_side end w.end)) None) ≡ some r
        → non_empty (between r.start end) ≡ true
    go true p q =
        let z : overlap (between unbounded end) w ≡ r = cc in
        let s : w.start ≡ r.start = sym (from_below w.start) ∙ ap (λ (o : Range). o.start) z in
        rw (← s) (≺-passes w.start end (≺-≼-trans (≺-of-below (sym (first_cuts end w) ∙ p)) (sooner-≼-left (end_cut end) (end_cut w.end))))
    go false p q = absurd (let z : ◌≡◌ {A = ℕ} 0 1 = cc in omega arith)
