-- The stops of each public call: if its outcome is `stop n`, then n is in the call's list, for every input. Document 01,
-- "Stops, in checking order", has what each number says.
use Rattle.std.specs.Prelude.{ℕ, ◌≡◌, Bool, true, List, [], ◌∷◌}
use Rattle.base.specs.Outcome.{Outcome, stop}
use Rattle.partitioned_keyspace.specs.Calls.{partition_point_outcome, first_partition_including_key_outcome, first_partition_including_or_after_key_outcome, last_partition_including_key_outcome, partitions_covering_range_outcome}
use Rattle.partitioned_keyspace.specs.declared.Test.{Test}
use Rattle.partitioned_keyspace.specs.declared.Test.TheVariants.{Below}
use Rattle.db_state.specs.LookupCalls.{table_idx_covering_range_outcome, overlaps_range_outcome, compacted_intersection_outcome, calculate_view_range_outcome, intersects_range_outcome}
use Rattle.view_sizes.specs.SizeCalls.{visible_fraction_outcome, estimate_visible_size_outcome, estimate_run_visible_size_outcome}
use Rattle.subcompaction.specs.PlanCalls.{sample_anchors_outcome, select_boundaries_outcome, plan_subcompaction_ranges_outcome}
use Rattle.from_compaction.specs.ProgressCalls.{from_compaction_outcome}
use Rattle.subtract_from.specs.SubtractCalls.{subtract_from_outcome}
use Rattle.incremental_progress.specs.Commit.{commit_outcome}
use Rattle.incremental_progress.specs.Repeated.{StopsIn}
use Rattle.bilqarush.specs.Calls.{compare_outcome, cmp_bound_outcome, non_empty_outcome, contains_outcome, as_point_outcome, intersect_outcome, intersect_start_key_outcome, intersect_end_key_outcome, union_outcome, from_prefix_outcome, from_prefix_and_subrange_outcome}
use Rattle.bilqarush.specs.ImageCalls.{check_image_outcome, compacted_effective_range_outcome, list_outcome}

-- ---- the lists
-- a key is longer than its ceiling
abbrev pub compare_stops : List ℕ
compare_stops = 3 ∷ []

-- bytes are left over, a kind is 3 or more, a key is longer than its ceiling
abbrev pub cmp_bound_stops : List ℕ
cmp_bound_stops = 1 ∷ 2 ∷ 3 ∷ []

-- the range ends inside a field or bytes remain after it, a padding bit is set or a kind is 3, a length exceeds its ceiling
abbrev pub non_empty_stops : List ℕ
non_empty_stops = 1 ∷ 2 ∷ 3 ∷ []

-- or a range fails `non_empty`
abbrev pub contains_stops : List ℕ
contains_stops = 1 ∷ 2 ∷ 3 ∷ 4 ∷ []

abbrev pub as_point_stops : List ℕ
as_point_stops = 1 ∷ 2 ∷ 3 ∷ 4 ∷ []

-- also those of the two calls that hand back a key of the intersection
abbrev pub intersect_stops : List ℕ
intersect_stops = 1 ∷ 2 ∷ 3 ∷ 4 ∷ []

abbrev pub union_stops : List ℕ
union_stops = 1 ∷ 2 ∷ 3 ∷ 4 ∷ []

-- the prefix is longer than its ceiling, the buffer shorter than the answer
abbrev pub from_prefix_stops : List ℕ
from_prefix_stops = 3 ∷ 16 ∷ []

-- or the subrange is refused, or its join with the prefix
abbrev pub from_prefix_and_subrange_stops : List ℕ
from_prefix_and_subrange_stops = 1 ∷ 2 ∷ 3 ∷ 4 ∷ 16 ∷ []

-- the image is not read, or fails one of the checks on ranges, tables, order and sizes
abbrev pub check_image_stops : List ℕ
check_image_stops = 1 ∷ 2 ∷ 3 ∷ 4 ∷ 5 ∷ 6 ∷ 7 ∷ []

-- or the run or the view is not in it
abbrev pub compacted_effective_range_stops : List ℕ
compacted_effective_range_stops = 1 ∷ 2 ∷ 3 ∷ 4 ∷ 5 ∷ 6 ∷ 7 ∷ 9 ∷ []

-- or the buffer is shorter than the listing
abbrev pub list_stops : List ℕ
list_stops = 1 ∷ 2 ∷ 3 ∷ 4 ∷ 5 ∷ 6 ∷ 7 ∷ 16 ∷ []

-- the four lookups of a key in an index: the index ends inside a field or bytes remain after it, it or a key is longer than
-- its ceiling, its first keys descend
abbrev pub key_lookup_stops : List ℕ
key_lookup_stops = 1 ∷ 3 ∷ 6 ∷ []

-- or the range is not read, or fails `non_empty`
abbrev pub partitions_covering_range_stops : List ℕ
partitions_covering_range_stops = 1 ∷ 2 ∷ 3 ∷ 4 ∷ 6 ∷ []

-- the five lookups in a run or a view: the image, the end bound or the range is not read, the image or the range fails a
-- check, or the run or the view is not in the image
abbrev pub range_lookup_stops : List ℕ
range_lookup_stops = 1 ∷ 2 ∷ 3 ∷ 4 ∷ 5 ∷ 6 ∷ 7 ∷ 9 ∷ []

-- the three calls on visible sizes: the image is refused, or the run or the view is not in it
abbrev pub visible_size_stops : List ℕ
visible_size_stops = 1 ∷ 2 ∷ 3 ∷ 4 ∷ 5 ∷ 6 ∷ 7 ∷ 9 ∷ []

-- the setting is above its ceiling, the index or the range is not read, the range fails `non_empty`, first keys descend, the
-- buffer is shorter than the anchors
abbrev pub sample_anchors_stops : List ℕ
sample_anchors_stops = 1 ∷ 2 ∷ 3 ∷ 4 ∷ 6 ∷ 16 ∷ []

-- the setting is above its ceiling, the anchors are not read, their bytes total 2^63 or more, the buffer is shorter than the plan
abbrev pub select_boundaries_stops : List ℕ
select_boundaries_stops = 1 ∷ 3 ∷ 7 ∷ 16 ∷ []

-- the setting is above its ceiling, the image or an index image is not read or fails a check, over 4,096 anchors are sampled, the
-- buffer is shorter than the plan
abbrev pub plan_subcompaction_ranges_stops : List ℕ
plan_subcompaction_ranges_stops = 1 ∷ 2 ∷ 3 ∷ 4 ∷ 5 ∷ 6 ∷ 7 ∷ 15 ∷ 16 ∷ []

-- the job is not read or fails a check on ranges, tables or sizes, its destination is not a source, its parts or outputs are out of
-- order, the buffer is shorter than the intervals
abbrev pub from_compaction_stops : List ℕ
from_compaction_stops = 1 ∷ 2 ∷ 3 ∷ 4 ∷ 5 ∷ 7 ∷ 8 ∷ 10 ∷ 11 ∷ 16 ∷ []

-- the interval or the range is not read or fails `non_empty`, the interval starts excluded or ends included, the buffer is shorter than
-- what is left
abbrev pub subtract_from_stops : List ℕ
subtract_from_stops = 1 ∷ 2 ∷ 3 ∷ 4 ∷ 10 ∷ 16 ∷ []

-- every one but 13: a retained range never misses its table's own range
abbrev pub commit_stops : List ℕ
commit_stops = 1 ∷ 2 ∷ 3 ∷ 4 ∷ 5 ∷ 6 ∷ 7 ∷ 8 ∷ 9 ∷ 10 ∷ 11 ∷ 12 ∷ 14 ∷ 15 ∷ 16 ∷ []

-- ---- what is said of each call, its list and its outcome for each input
pub record OfEachCall (Says : (A : Type 0) → List ℕ → Outcome A → Type 0) : Type 0 where
  pub compare : (a b : List ℕ) → Says _ compare_stops (compare_outcome a b)
  pub cmp_bound : (ka : ℕ) (a : List ℕ) (kb : ℕ) (b : List ℕ) (start : Bool) → Says _ cmp_bound_stops (cmp_bound_outcome ka a kb b start)
  pub non_empty : (range : List ℕ) → Says _ non_empty_stops (non_empty_outcome range)
  pub contains : (range key : List ℕ) → Says _ contains_stops (contains_outcome range key)
  pub as_point : (range : List ℕ) → Says _ as_point_stops (as_point_outcome range)
  pub intersect : (a b : List ℕ) → Says _ intersect_stops (intersect_outcome a b)
  pub intersect_start_key : (a b : List ℕ) → Says _ intersect_stops (intersect_start_key_outcome a b)
  pub intersect_end_key : (a b : List ℕ) → Says _ intersect_stops (intersect_end_key_outcome a b)
  pub union : (a b : List ℕ) → Says _ union_stops (union_outcome a b)
  pub from_prefix : (prefix : List ℕ) (room : ℕ) → Says _ from_prefix_stops (from_prefix_outcome prefix room)
  pub from_prefix_and_subrange :
      (prefix subrange : List ℕ) (room : ℕ)
      → Says _ from_prefix_and_subrange_stops (from_prefix_and_subrange_outcome prefix subrange room)
  pub check_image : (image : List ℕ) → Says _ check_image_stops (check_image_outcome image)
  pub compacted_effective_range :
      (image : List ℕ) (run view : ℕ)
      → Says _ compacted_effective_range_stops (compacted_effective_range_outcome image run view)
  pub list : (image : List ℕ) (room : ℕ) → Says _ list_stops (list_outcome image room)
  pub partition_point : (index : List ℕ) (test : Test) (key : List ℕ) → Says _ key_lookup_stops (partition_point_outcome index test key)
  pub first_partition_including_key : (index key : List ℕ) → Says _ key_lookup_stops (first_partition_including_key_outcome index key)
  pub first_partition_including_or_after_key : (index key : List ℕ) → Says _ key_lookup_stops (first_partition_including_or_after_key_outcome index key)
  pub last_partition_including_key : (index key : List ℕ) → Says _ key_lookup_stops (last_partition_including_key_outcome index key)
  pub partitions_covering_range : (index range : List ℕ) → Says _ partitions_covering_range_stops (partitions_covering_range_outcome index range)
  pub table_idx_covering_range :
      (image : List ℕ) (run : ℕ) (range : List ℕ)
      → Says _ range_lookup_stops (table_idx_covering_range_outcome image run range)
  pub overlaps_range : (image : List ℕ) (run : ℕ) (range : List ℕ) → Says _ range_lookup_stops (overlaps_range_outcome image run range)
  pub compacted_intersection :
      (image : List ℕ) (run view : ℕ) (range : List ℕ)
      → Says _ range_lookup_stops (compacted_intersection_outcome image run view range)
  pub calculate_view_range :
      (image : List ℕ) (run view : ℕ) (range : List ℕ)
      → Says _ range_lookup_stops (calculate_view_range_outcome image run view range)
  pub intersects_range :
      (image : List ℕ) (run view kind : ℕ) (end range : List ℕ)
      → Says _ range_lookup_stops (intersects_range_outcome image run view kind end range)
  pub visible_fraction : (image : List ℕ) (run view : ℕ) → Says _ visible_size_stops (visible_fraction_outcome image run view)
  pub estimate_visible_size : (image : List ℕ) (run view : ℕ) → Says _ visible_size_stops (estimate_visible_size_outcome image run view)
  pub estimate_run_visible_size : (image : List ℕ) (run : ℕ) → Says _ visible_size_stops (estimate_run_visible_size_outcome image run)
  pub sample_anchors :
      (most data_end : ℕ) (index range : List ℕ) (room : ℕ)
      → Says _ sample_anchors_stops (sample_anchors_outcome most data_end index range room)
  pub select_boundaries :
      (parts least : ℕ) (anchors : List ℕ) (room : ℕ)
      → Says _ select_boundaries_stops (select_boundaries_outcome parts least anchors room)
  pub plan_subcompaction_ranges :
      (parts : ℕ) (image indexes : List ℕ) (room : ℕ)
      → Says _ plan_subcompaction_ranges_stops (plan_subcompaction_ranges_outcome parts image indexes room)
  pub from_compaction : (job : List ℕ) (room : ℕ) → Says _ from_compaction_stops (from_compaction_outcome job room)
  pub subtract_from :
      (interval range : List ℕ) (room : ℕ)
      → Says _ subtract_from_stops (subtract_from_outcome interval range room)
  pub commit : (image job ids : List ℕ) (room : ℕ) → Says _ commit_stops (commit_outcome image job ids room)

-- no call stops with a number that is not in its list
abbrev pub EachStopIsListed : Type 0
EachStopIsListed = OfEachCall (λ A ns o. StopsIn ns o)

-- so 0 is no stop: returned, it means an answer
abbrev pub NoStopIsZero : Type 0
NoStopIsZero = OfEachCall (λ A ns o. o ≡ stop 0 → ⊥)

-- and a commit never stops with 13
abbrev pub NoCommitStopsWith13 : Type 0
NoCommitStopsWith13 = (image job ids : List ℕ) (room : ℕ) → commit_outcome image job ids room ≡ stop 13 → ⊥

-- ---- the lists are as short as they can be
-- each number of a list is the stop of a call for some input
pub data Reached {I A : Type 0} (call : I → Outcome A) : List ℕ → Type 0 where
  no_more : Reached call []
  reached : {n : ℕ} {ns : List ℕ} (input : I) → call input ≡ stop n → Reached call ns → Reached call (n ∷ ns)

pub record EachListedStopIsReached : Type 0 where
  pub compare : Reached (λ (a : List ℕ). compare_outcome a []) compare_stops
  pub cmp_bound : Reached (λ (x : ℕ × List ℕ). cmp_bound_outcome x.0 x.1 0 [] true) cmp_bound_stops
  pub non_empty : Reached non_empty_outcome non_empty_stops
  pub contains : Reached (λ (range : List ℕ). contains_outcome range []) contains_stops
  pub as_point : Reached as_point_outcome as_point_stops
  pub intersect : Reached (λ (x : List ℕ × List ℕ). intersect_outcome x.0 x.1) intersect_stops
  pub intersect_start_key : Reached (λ (x : List ℕ × List ℕ). intersect_start_key_outcome x.0 x.1) intersect_stops
  pub intersect_end_key : Reached (λ (x : List ℕ × List ℕ). intersect_end_key_outcome x.0 x.1) intersect_stops
  pub union : Reached (λ (x : List ℕ × List ℕ). union_outcome x.0 x.1) union_stops
  pub from_prefix : Reached (λ (x : List ℕ × ℕ). from_prefix_outcome x.0 x.1) from_prefix_stops
  pub from_prefix_and_subrange : Reached (λ (x : List ℕ × ℕ). from_prefix_and_subrange_outcome [] x.0 x.1) from_prefix_and_subrange_stops
  pub check_image : Reached check_image_outcome check_image_stops
  pub compacted_effective_range : Reached (λ (image : List ℕ). compacted_effective_range_outcome image 0 0) compacted_effective_range_stops
  pub list : Reached (λ (x : List ℕ × ℕ). list_outcome x.0 x.1) list_stops
  pub partition_point : Reached (λ (x : List ℕ × List ℕ). partition_point_outcome x.0 Below x.1) key_lookup_stops
  pub first_partition_including_key : Reached (λ (x : List ℕ × List ℕ). first_partition_including_key_outcome x.0 x.1) key_lookup_stops
  pub first_partition_including_or_after_key : Reached (λ (x : List ℕ × List ℕ). first_partition_including_or_after_key_outcome x.0 x.1) key_lookup_stops
  pub last_partition_including_key : Reached (λ (x : List ℕ × List ℕ). last_partition_including_key_outcome x.0 x.1) key_lookup_stops
  pub partitions_covering_range : Reached (λ (x : List ℕ × List ℕ). partitions_covering_range_outcome x.0 x.1) partitions_covering_range_stops
  pub table_idx_covering_range : Reached (λ (x : List ℕ × List ℕ). table_idx_covering_range_outcome x.0 0 x.1) range_lookup_stops
  pub overlaps_range : Reached (λ (x : List ℕ × List ℕ). overlaps_range_outcome x.0 0 x.1) range_lookup_stops
  pub compacted_intersection : Reached (λ (x : List ℕ × List ℕ). compacted_intersection_outcome x.0 0 0 x.1) range_lookup_stops
  pub calculate_view_range : Reached (λ (x : List ℕ × List ℕ). calculate_view_range_outcome x.0 0 0 x.1) range_lookup_stops
  pub intersects_range : Reached (λ (x : List ℕ × List ℕ). intersects_range_outcome x.0 0 0 0 [] x.1) range_lookup_stops
  pub visible_fraction : Reached (λ (image : List ℕ). visible_fraction_outcome image 0 0) visible_size_stops
  pub estimate_visible_size : Reached (λ (image : List ℕ). estimate_visible_size_outcome image 0 0) visible_size_stops
  pub estimate_run_visible_size : Reached (λ (image : List ℕ). estimate_run_visible_size_outcome image 0) visible_size_stops
  pub sample_anchors : Reached (λ (x : List ℕ × List ℕ). sample_anchors_outcome 1 0 x.0 x.1 0) sample_anchors_stops
  pub select_boundaries : Reached (λ (x : ℕ × List ℕ). select_boundaries_outcome x.0 0 x.1 0) select_boundaries_stops
  pub plan_subcompaction_ranges : Reached (λ (x : List ℕ × List ℕ). plan_subcompaction_ranges_outcome 1 x.0 x.1 0) plan_subcompaction_ranges_stops
  pub from_compaction : Reached (λ (job : List ℕ). from_compaction_outcome job 0) from_compaction_stops
  pub subtract_from : Reached (λ (x : List ℕ × List ℕ). subtract_from_outcome x.0 x.1 0) subtract_from_stops

pub record GivenToCommit : Type 0 where
  pub image : List ℕ
  pub job : List ℕ
  pub ids : List ℕ
  pub room : ℕ

abbrev pub CommitStopsAreReached : Type 0
CommitStopsAreReached = Reached (λ (x : GivenToCommit). commit_outcome x.image x.job x.ids x.room) commit_stops
