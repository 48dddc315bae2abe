-- The outcome of each lookup in a run or a view of an image: the checks in their order, then the answer.
use Rattle.std.specs.Prelude.{ℕ, suc, Bool, List}
use Rattle.std.proofs.Math.Option.{Option}
use Rattle.base.specs.Outcome.{Outcome, answer, and_then}
use Rattle.comparable_range.specs.Range.{Range}
use Rattle.format.specs.Whole.{whole}
use Rattle.format.specs.Range.{read_range}
use Rattle.format.specs.Joint.{Joint}
use Rattle.format.specs.Given.{bound_given}
use Rattle.records.specs.Values.{View, Image}
use Rattle.records.specs.Layouts.{image}
use Rattle.manifest.specs.Checks.{checked, joined, image_checks}
use Rattle.partitioned_keyspace.specs.Partitions.{Places}
use Rattle.partitioned_keyspace.specs.Asked.{asked_checks}
use Rattle.db_state.specs.Places.{at, placed, view_at}
use Rattle.db_state.specs.Lookup.{intersects_range, calculate_view_range, compacted_intersection, overlaps_range, table_idx_covering_range}

-- ---- what is given
pub record RangeAsked : Type 0 where
  pub image : Image
  pub range : Range

-- the checks 4 to 7 of the image and of the asked range together
abbrev pub checked_asked : Image → Range → Outcome RangeAsked
checked_asked i r = checked (joined (image_checks i) (asked_checks r)) (answer (record { image = i; range = r }))

unfoldable pub image_and_range : List ℕ → List ℕ → Outcome RangeAsked
image_and_range l q = and_then (whole image.read l) (λ i. and_then (whole read_range q) (λ r. checked_asked i r))

-- the views of the run at a place: stop 9 if it is not in the image
abbrev pub views_at : Image → ℕ → Outcome (List View)
views_at i run = and_then (placed (at i run)) (λ r. answer r.views)

-- ---- the calls
unfoldable pub table_idx_covering_range_outcome : List ℕ → ℕ → List ℕ → Outcome Places
table_idx_covering_range_outcome l run q =
    and_then (image_and_range l q) (λ a. and_then (views_at a.image run) (λ vs. answer (table_idx_covering_range vs a.range)))

unfoldable pub overlaps_range_outcome : List ℕ → ℕ → List ℕ → Outcome Bool
overlaps_range_outcome l run q =
    and_then (image_and_range l q) (λ a. and_then (views_at a.image run) (λ vs. answer (overlaps_range vs a.range)))

-- the next view is the one after it in its run
unfoldable pub compacted_intersection_outcome : List ℕ → ℕ → ℕ → List ℕ → Outcome (Option Joint)
compacted_intersection_outcome l run view q =
    and_then (image_and_range l q) (λ a.
    and_then (views_at a.image run) (λ vs.
    and_then (placed (at vs view)) (λ v. answer (compacted_intersection v (at vs (suc view)) a.range))))

unfoldable pub calculate_view_range_outcome : List ℕ → ℕ → ℕ → List ℕ → Outcome (Option Joint)
calculate_view_range_outcome l run view q =
    and_then (image_and_range l q) (λ a. and_then (view_at a.image run view) (λ v. answer (calculate_view_range v a.range)))

-- the end bound, given by its kind and key, is read after the image and before the range
unfoldable pub intersects_range_outcome : List ℕ → ℕ → ℕ → ℕ → List ℕ → List ℕ → Outcome Bool
intersects_range_outcome l run view kind key q =
    and_then (whole image.read l) (λ i.
    and_then (bound_given kind key) (λ e.
    and_then (whole read_range q) (λ r.
    and_then (checked_asked i r) (λ a. and_then (view_at a.image run view) (λ v. answer (intersects_range v e a.range))))))
