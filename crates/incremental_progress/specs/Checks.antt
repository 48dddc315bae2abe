-- The checks 8 to 13 on an image and a job, each true where it passes. Document 01, "Stops, in checking order".
use Rattle.std.specs.Prelude.{ℕ, Bool, true, false, not, ◌&&◌, ◌||◌, List, [], ◌∷◌, map, eqb}
use Rattle.std.proofs.Math.Option.{Option, none, some}
use Rattle.key.specs.Order.{Key}
use Rattle.comparable_range.specs.Range.{Bound, unbounded, included, excluded, Range, intersect_sides, meets}
use Rattle.comparable_range.specs.Cut.{Cut, below, before, after, cut_at_most, start_cut, end_cut}
use Rattle.records.specs.Values.{Table, View, Run, Image, Part, Job}
use Rattle.manifest.specs.Ranges.{own, effective}
use Rattle.manifest.specs.Checks.{all, has, is_excluded}
use Rattle.incremental_progress.specs.Intervals.{Interval, cut_out}
use Rattle.incremental_progress.specs.Parts.{intervals}
use Rattle.incremental_progress.specs.Jobs.{is_output}

-- ---- 8: the destination is not a source
unfoldable pub destination_is_source : Job → Bool
destination_is_source j = has j.destination j.sources

-- ---- 9: a source is not in the image
unfoldable pub sources_there : Image → Job → Bool
sources_there i j = all (λ n. has n (map (λ r. r.id) i)) j.sources

-- ---- 10: a planned range starts excluded or ends included, or a part begins before the previous part's end
abbrev pub is_included : Bound → Bool
is_included unbounded = false
is_included (included k) = true
is_included (excluded k) = false

abbrev pub half_open : Range → Bool
half_open r = not (is_excluded r.start) && not (is_included r.end)

-- parts from a cut on; the cut below all keys stands before the first
unfoldable pub planned_from : Cut → List Part → Bool
planned_from c [] = true
planned_from c (p ∷ ps) = half_open p.planned && cut_at_most c (start_cut p.planned.start) && planned_from (end_cut p.planned.end) ps

unfoldable pub planned_in_order : Job → Bool
planned_in_order j = planned_from below j.parts

-- ---- 11: an output lacks a last key, is not wholly inside its planned range, or starts below the last key of its part's
-- previous output
abbrev pub ends_by : Cut → Option Key → Bool
ends_by e none = false
ends_by e (some l) = cut_at_most (after l) e

abbrev pub last_cut : Option Key → Cut
last_cut none = below
last_cut (some l) = before l

-- outputs from a cut on that end by another
unfoldable pub outputs_from : Cut → Cut → List Table → Bool
outputs_from e c [] = true
outputs_from e c (t ∷ ts) = cut_at_most c (before t.first) && ends_by e t.last && outputs_from e (last_cut t.last) ts

unfoldable pub outputs_inside : Part → Bool
outputs_inside p = outputs_from (end_cut p.planned.end) (start_cut p.planned.start) p.outputs

unfoldable pub outputs_in_order : Job → Bool
outputs_in_order j = all outputs_inside j.parts

-- ---- 12: a destination view of an output table holds some key that lies in no durable interval: something of it is left
abbrev pub nothing_left : List Range → Bool
nothing_left [] = true
nothing_left (r ∷ rs) = false

unfoldable pub covered : List Interval → View → Bool
covered ivs v = nothing_left (cut_out ivs (effective v ∷ []))

unfoldable pub output_views_covered : Image → Job → Bool
output_views_covered i j =
    all
    (λ r. not (eqb r.id j.destination) || all (λ v. not (is_output j.parts v.table) || covered (intervals j.parts) v) r.views)
    i

-- ---- 13: a retained range misses its table's own range
unfoldable pub retained_meets : List Interval → View → Bool
retained_meets ivs v = all (λ r. meets (intersect_sides (own v.table) r)) (cut_out ivs (effective v ∷ []))

unfoldable pub retained_meet : Image → Job → Bool
retained_meet i j = all (λ r. not (has r.id j.sources) || all (retained_meets (intervals j.parts)) r.views) i
