-- An input for each stop of each lookup: what the lookups share is computed once, and each stops where it does.
-- Assumes nothing.
use Prim.Native.Nat.{ℕ}
use mathlib.Core.Path.{◌≡◌, refl, ap}
use mathlib.Core.List.{List, []}
use Rattle.base.specs.Outcome.{Outcome, stop, answer, and_then}
use Rattle.key.specs.Order.{cmp_key, cmp_number}
use Rattle.key.specs.Word.{digits}
use Rattle.comparable_range.specs.Range.{cmp_bound, bounds_pass, start_side, end_side, intersect_sides}
use Rattle.format.specs.Number.{read_number, write_number}
use Rattle.format.specs.Key.{read_bytes, read_key, write_key}
use Rattle.format.specs.Range.{head_of, read_bound, read_range}
use Rattle.format.specs.Whole.{whole, key_given}
use Rattle.format.specs.Given.{bound_given}
use Rattle.records.specs.Values.{Run}
use Rattle.records.specs.Form.{read_if, write_if, read_many, write_many}
use Rattle.records.specs.Layouts.{flag_of, count_of, view_count_of, table, view, run, image, block, index}
use Rattle.manifest.specs.Ranges.{effective}
use Rattle.manifest.specs.Checks.{all, visible_passes, keys_in_order, table_passes, ascend_from, has, distinct, size_passes, image_checks, index_checks}
use Rattle.partitioned_keyspace.specs.Asked.{asked_checks, index_and_key, index_and_range}
use Rattle.partitioned_keyspace.specs.Calls.{partition_point_outcome, first_partition_including_key_outcome, first_partition_including_or_after_key_outcome, last_partition_including_key_outcome, partitions_covering_range_outcome}
use Rattle.partitioned_keyspace.specs.declared.Test.TheVariants.{Below}
use Rattle.db_state.specs.Places.{at, placed, view_at}
use Rattle.db_state.specs.LookupCalls.{RangeAsked, checked_asked, image_and_range, table_idx_covering_range_outcome, overlaps_range_outcome, compacted_intersection_outcome, calculate_view_range_outcome, intersects_range_outcome}
use Rattle.stop_lists.specs.Stops.{key_lookup_stops, partitions_covering_range_stops, range_lookup_stops, Reached, no_more, reached}
use Rattle.stop_lists.proofs.Crowded.{zeros}
use Rattle.stop_lists.proofs.Refused.{padded, long, empty, every, padded_run, too_many_runs, turned, twice, large, no_runs, no_blocks, descending}

-- ---- a call that stops where another does
pub reached_by : {I A B : Type 0} {f : I → Outcome A} {g : I → Outcome B} {ns : List ℕ} → ((x : I) (n : ℕ) → f x ≡ stop n → g x ≡ stop n) → Reached f ns → Reached g ns
reached_by t no_more = no_more
reached_by t (reached {n} input e more) = reached input (t input n e) (reached_by t more)

same_stop : {A B : Type 0} {k n : ℕ} → ◌≡◌ {A = Outcome A} (stop k) (stop n) → ◌≡◌ {A = Outcome B} (stop k) (stop n)
same_stop {k = k} {n = n} e = ap stop (let z : k ≡ n = cc in z)

module _ {n : ℕ} where
  -- the same first step, and then a step that stops where another does
  pub after : {A B C : Type 0} (o : Outcome A) {f : A → Outcome B} {g : A → Outcome C} → ((a : A) → f a ≡ stop n → g a ≡ stop n) → and_then o f ≡ stop n → and_then o g ≡ stop n
  after (stop k) t e = same_stop e
  after (answer a) t e = t a e

  within : {A B C D : Type 0} (o : Outcome A) (f : A → Outcome B) (p : B → Outcome C) {g : A → Outcome D} → ((a : A) → and_then (f a) p ≡ stop n → g a ≡ stop n) → and_then (and_then o f) p ≡ stop n → and_then o g ≡ stop n
  within (stop k) f p t e = same_stop e
  within (answer a) f p t e = t a e

-- ---- in an index
with_key : Reached (λ (x : List ℕ × List ℕ). index_and_key x.0 x.1) key_lookup_stops
unfolding cmp_number cmp_key digits cmp_bound read_number write_number read_bytes read_key write_key whole key_given read_many write_many block index ascend_from index_checks index_and_key
with_key = reached ([], []) refl (reached (no_blocks, zeros 1025) refl (reached (descending, []) refl no_more))

with_range : Reached (λ (x : List ℕ × List ℕ). index_and_range x.0 x.1) partitions_covering_range_stops
unfolding cmp_number cmp_key digits cmp_bound bounds_pass read_number write_number read_bytes read_key write_key head_of read_bound read_range whole read_many write_many block index ascend_from index_checks asked_checks index_and_range
with_range =
    reached ([], every) refl
    (reached (no_blocks, padded) refl
    (reached (no_blocks, long) refl
    (reached (no_blocks, empty) refl
    (reached (descending, every) refl
    no_more))))

pub partition_point_lem : Reached (λ (x : List ℕ × List ℕ). partition_point_outcome x.0 Below x.1) key_lookup_stops
unfolding partition_point_outcome
partition_point_lem = reached_by (λ x n e. rw e) with_key

pub first_partition : Reached (λ (x : List ℕ × List ℕ). first_partition_including_key_outcome x.0 x.1) key_lookup_stops
unfolding first_partition_including_key_outcome
first_partition = reached_by (λ x n e. rw e) with_key

pub first_or_after : Reached (λ (x : List ℕ × List ℕ). first_partition_including_or_after_key_outcome x.0 x.1) key_lookup_stops
unfolding first_partition_including_or_after_key_outcome
first_or_after = reached_by (λ x n e. rw e) with_key

pub last_partition : Reached (λ (x : List ℕ × List ℕ). last_partition_including_key_outcome x.0 x.1) key_lookup_stops
unfolding last_partition_including_key_outcome
last_partition = reached_by (λ x n e. rw e) with_key

pub partitions_covering : Reached (λ (x : List ℕ × List ℕ). partitions_covering_range_outcome x.0 x.1) partitions_covering_range_stops
unfolding partitions_covering_range_outcome
partitions_covering = reached_by (λ x n e. rw e) with_range

-- ---- in the first run of an image, and its first view
abbrev first_run : RangeAsked → Outcome Run
first_run a = placed (at a.image 0)

abbrev run_asked : List ℕ × List ℕ → Outcome Run
run_asked x = and_then (image_and_range x.0 x.1) first_run

in_run : Reached run_asked range_lookup_stops
unfolding cmp_number cmp_key digits cmp_bound bounds_pass start_side end_side intersect_sides read_number write_number read_bytes read_key write_key head_of read_bound read_range whole read_if write_if read_many write_many flag_of count_of view_count_of table view run image effective all visible_passes keys_in_order table_passes ascend_from has distinct size_passes image_checks asked_checks at image_and_range
in_run =
    reached ([], every) refl
    (reached (padded_run, every) refl
    (reached (too_many_runs, every) refl
    (reached (no_runs, empty) refl
    (reached (turned, every) refl
    (reached (twice, every) refl
    (reached (large, every) refl
    (reached (no_runs, every) refl
    no_more)))))))

pub table_idx : Reached (λ (x : List ℕ × List ℕ). table_idx_covering_range_outcome x.0 0 x.1) range_lookup_stops
unfolding table_idx_covering_range_outcome
table_idx = reached_by (λ x n. after (image_and_range x.0 x.1) (λ a e. rw e)) in_run

pub overlaps : Reached (λ (x : List ℕ × List ℕ). overlaps_range_outcome x.0 0 x.1) range_lookup_stops
unfolding overlaps_range_outcome
overlaps = reached_by (λ x n. after (image_and_range x.0 x.1) (λ a e. rw e)) in_run

pub compacted_intersection_lem : Reached (λ (x : List ℕ × List ℕ). compacted_intersection_outcome x.0 0 0 x.1) range_lookup_stops
unfolding compacted_intersection_outcome
compacted_intersection_lem = reached_by (λ x n. after (image_and_range x.0 x.1) (λ a e. rw e)) in_run

pub view_range : Reached (λ (x : List ℕ × List ℕ). calculate_view_range_outcome x.0 0 0 x.1) range_lookup_stops
unfolding calculate_view_range_outcome view_at
view_range = reached_by (λ x n. after (image_and_range x.0 x.1) (λ a e. rw e)) in_run

-- with an unbounded end bound
pub intersects : Reached (λ (x : List ℕ × List ℕ). intersects_range_outcome x.0 0 0 0 [] x.1) range_lookup_stops
unfolding intersects_range_outcome image_and_range bound_given view_at
intersects =
    reached_by (λ x n.
    within (whole image.read x.0) (λ i. and_then (whole read_range x.1) (λ r. checked_asked i r)) first_run (λ i.
    within (whole read_range x.1) (λ r. checked_asked i r) first_run (λ r. after (checked_asked i r) (λ a e. rw e))))
    in_run
