-- One more output or part in what is checked, and the tests of cuts by bounds.
-- Assumes nothing.
use mathlib.Core.Path.{◌≡◌, refl, ap, ◌∙◌}
use mathlib.Core.Bool.{true, false, not, ◌&&◌, not-not, and-true, and_assoc}
use mathlib.Core.List.{List, [], ◌∷◌, ◌++◌}
use Rattle.key.specs.Order.{at_most}
use Rattle.comparable_range.specs.Range.{Bound, Range, non_empty, cmp_bound}
use Rattle.comparable_range.specs.Cut.{Cut, cut_at_most, start_cut, end_cut}
use Rattle.comparable_range.proofs.Cut.{cut_below_not}
use Rattle.comparable_range.proofs.ByCuts.{cmp_start, cmp_end, non_empty_by_cuts}
use Rattle.records.specs.Values.{Table, Part}
use Rattle.incremental_progress.specs.Checks.{planned_from, last_cut, outputs_from}
use Rattle.commit_durable.specs.Faults.{planned_after, output_between}

-- ---- cuts by bounds
pub starts_by_cuts : (a b : Bound) → at_most (cmp_bound true a b) ≡ cut_at_most (start_cut a) (start_cut b)
unfolding cut_at_most
starts_by_cuts a b = ap at_most (cmp_start a b)

pub ends_by_cuts : (a b : Bound) → at_most (cmp_bound false a b) ≡ cut_at_most (end_cut a) (end_cut b)
unfolding cut_at_most
ends_by_cuts a b = ap at_most (cmp_end a b)

-- a start stands at or after an end exactly if the range from the one to the other fails
pub after_by_cuts : (r : Range) → not (non_empty r) ≡ cut_at_most (end_cut r.end) (start_cut r.start)
after_by_cuts r =
    ap not (non_empty_by_cuts r ∙ cut_below_not (start_cut r.start) (end_cut r.end))
    ∙ not-not (cut_at_most (end_cut r.end) (start_cut r.start))

-- ---- the cut that the last of some values makes for the next, or the one given
unfoldable pub cut_past : {A : Type 0} → (A → Cut) → Cut → List A → Cut
cut_past f c [] = c
cut_past f c (a ∷ bs) = cut_past f (f a) bs

pub past_more : {A : Type 0} (f : A → Cut) (c : Cut) (seen : List A) (a : A) → cut_past f c (seen ++ (a ∷ [])) ≡ f a
unfolding cut_past
past_more f c [] a = refl
past_more f c (b ∷ seen) a = past_more f (f b) seen a

-- ---- outputs
abbrev pub output_cut : Table → Cut
output_cut t = last_cut t.last

pub outputs_more :
    (e c : Cut) (seen : List Table) (t : Table)
    → outputs_from e c (seen ++ (t ∷ [])) ≡ (outputs_from e c seen && output_between e (cut_past output_cut c seen) t)
unfolding outputs_from output_between cut_past
outputs_more e c [] t = rw and-true
outputs_more e c (u ∷ seen) t = rw (outputs_more e (output_cut u) seen t) (simp and_assoc)

-- ---- parts
abbrev pub part_cut : Part → Cut
part_cut p = end_cut p.planned.end

pub planned_more :
    (c : Cut) (seen : List Part) (p : Part)
    → planned_from c (seen ++ (p ∷ [])) ≡ (planned_from c seen && planned_after (cut_past part_cut c seen) p.planned)
unfolding planned_from planned_after cut_past
planned_more c [] p = rw and-true
planned_more c (q ∷ seen) p = rw (planned_more (part_cut q) seen p) (simp and_assoc)
