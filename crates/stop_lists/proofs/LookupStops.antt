-- The stops of the lookups are in their lists.
-- Assumes nothing.
use Prim.Native.Nat.{ℕ}
use mathlib.Core.Path.{refl}
use mathlib.Core.List.{List}
use Rattle.comparable_range.specs.Range.{Range, non_empty}
use Rattle.format.specs.Range.{read_range}
use Rattle.format.specs.Whole.{whole, key_given}
use Rattle.format.specs.Given.{bound_given}
use Rattle.records.specs.Values.{Image}
use Rattle.records.specs.Layouts.{index, image}
use Rattle.manifest.specs.Checks.{has, joined, image_checks, index_checks}
use Rattle.partitioned_keyspace.specs.Asked.{asked_checks, index_and_key, index_and_range}
use Rattle.db_state.specs.Places.{at, placed, view_at}
use Rattle.db_state.specs.LookupCalls.{checked_asked, image_and_range, views_at, table_idx_covering_range_outcome, overlaps_range_outcome, compacted_intersection_outcome, calculate_view_range_outcome, intersects_range_outcome}
use Rattle.incremental_progress.specs.Repeated.{StopsIn}
use Rattle.incremental_progress.proofs.Repeated.{answers}
use Rattle.stop_lists.specs.Stops.{key_lookup_stops, partitions_covering_range_stops, range_lookup_stops}
use Rattle.stop_lists.proofs.Stopping.{checks, and-then, key_given_lem, ReadsKeys, index_stops, whole_stops}
use Rattle.stop_lists.proofs.GivenStops.{whole_range, bound_given_lem, three_listed, seven_listed, checked_stops, whole_image, placed_stops, views_at_lem, view_at_lem}

-- ---- in an index
keys_listed : ReadsKeys key_lookup_stops
unfolding has
keys_listed = record { one = refl; three = refl }

-- checks 4, 5 and 7 ask nothing of an index
pub index_and_key_lem : (l k : List ℕ) → StopsIn key_lookup_stops (index_and_key l k)
unfolding index_and_key index_checks has
index_and_key_lem l k =
    and-then (whole index.read l) (whole_stops keys_listed index (index_stops keys_listed) l) (λ x.
    and-then (key_given k) (key_given_lem k refl) (λ key. checks 6 (index_checks x).order refl (λ _. answers _)))

pub index_and_range_lem : (l q : List ℕ) → StopsIn partitions_covering_range_stops (index_and_range l q)
unfolding index_and_range index_checks asked_checks has
index_and_range_lem l q =
    and-then (whole index.read l) (whole_stops three_listed.keys index (index_stops three_listed.keys) l) (λ x.
    and-then (whole read_range q) (whole_range three_listed q) (λ r.
    checks 4 (non_empty r) refl (λ _. checks 6 (joined (index_checks x) (asked_checks r)).order refl (λ _. answers _))))

-- ---- in a run or a view
checked_asked_lem : (i : Image) (r : Range) → StopsIn range_lookup_stops (checked_asked i r)
checked_asked_lem i r = checked_stops seven_listed (joined (image_checks i) (asked_checks r)) (λ _. answers _)

image_and_range_lem : (l q : List ℕ) → StopsIn range_lookup_stops (image_and_range l q)
unfolding image_and_range
image_and_range_lem l q =
    and-then (whole image.read l) (whole_image seven_listed l) (λ i.
    and-then (whole read_range q) (whole_range three_listed q) (λ r. checked_asked_lem i r))

pub table_idx_stops : (l : List ℕ) (run : ℕ) (q : List ℕ) → StopsIn range_lookup_stops (table_idx_covering_range_outcome l run q)
unfolding table_idx_covering_range_outcome has
table_idx_stops l run q =
    and-then (image_and_range l q) (image_and_range_lem l q) (λ a. and-then (views_at a.image run) (views_at_lem a.image run refl) (λ vs. answers _))

pub overlaps_stops : (l : List ℕ) (run : ℕ) (q : List ℕ) → StopsIn range_lookup_stops (overlaps_range_outcome l run q)
unfolding overlaps_range_outcome has
overlaps_stops l run q =
    and-then (image_and_range l q) (image_and_range_lem l q) (λ a. and-then (views_at a.image run) (views_at_lem a.image run refl) (λ vs. answers _))

pub compacted_intersection_stops : (l : List ℕ) (run view : ℕ) (q : List ℕ) → StopsIn range_lookup_stops (compacted_intersection_outcome l run view q)
unfolding compacted_intersection_outcome has
compacted_intersection_stops l run view q =
    and-then (image_and_range l q) (image_and_range_lem l q) (λ a.
    and-then (views_at a.image run) (views_at_lem a.image run refl) (λ vs.
    and-then (placed (at vs view)) (placed_stops (at vs view) refl) (λ v. answers _)))

pub view_range_stops : (l : List ℕ) (run view : ℕ) (q : List ℕ) → StopsIn range_lookup_stops (calculate_view_range_outcome l run view q)
unfolding calculate_view_range_outcome has
view_range_stops l run view q =
    and-then (image_and_range l q) (image_and_range_lem l q) (λ a.
    and-then (view_at a.image run view) (view_at_lem a.image run view refl) (λ v. answers _))

pub intersects_stops : (l : List ℕ) (run view kind : ℕ) (end q : List ℕ) → StopsIn range_lookup_stops (intersects_range_outcome l run view kind end q)
unfolding intersects_range_outcome has
intersects_stops l run view kind end q =
    and-then (whole image.read l) (whole_image seven_listed l) (λ i.
    and-then (bound_given kind end) (bound_given_lem three_listed kind end) (λ e.
    and-then (whole read_range q) (whole_range three_listed q) (λ r.
    and-then (checked_asked i r) (checked_asked_lem i r) (λ a.
    and-then (view_at a.image run view) (view_at_lem a.image run view refl) (λ v. answers _)))))
