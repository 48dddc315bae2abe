-- An input for each stop of each call, computed.
-- Assumes nothing.
use Prim.Native.Nat.{ℕ}
use mathlib.Core.Path.{refl}
use mathlib.Core.Option.{none}
use mathlib.Core.List.{List, [], ◌∷◌, ◌++◌, flat_map}
use Rattle.base.specs.Outcome.{Outcome, and_then}
use Rattle.base.specs.Sort.{sort, insert}
use Rattle.key.specs.Order.{Key, cmp_key, cmp_number}
use Rattle.key.specs.Word.{digits}
use Rattle.comparable_range.specs.Range.{Range, unbounded, included, excluded, cmp_bound, bounds_pass, start_side, end_side, intersect_sides}
use Rattle.format.specs.Number.{read_number, write_number}
use Rattle.format.specs.Key.{read_bytes, read_key, write_key}
use Rattle.format.specs.Range.{head_of, read_bound, write_bound, read_range, write_range}
use Rattle.format.specs.Whole.{whole, key_given}
use Rattle.bytes_range.specs.Prefix.{kept_of, raised, next_prefix, from_prefix, join_start, join_end, from_prefix_and_subrange}
use Rattle.bytes_range.specs.Writing.{joins_within, joined_to}
use Rattle.records.specs.Values.{Run}
use Rattle.records.specs.Form.{read_if, write_if, read_many, write_many}
use Rattle.records.specs.Layouts.{flag_of, count_of, view_count_of, outputs_of, table, view, run, image, part, job}
use Rattle.manifest.specs.Ranges.{effective}
use Rattle.manifest.specs.Checks.{all, visible_passes, keys_in_order, table_passes, ascend_from, has, distinct, size_passes, image_checks, job_checks, image_given}
use Rattle.db_state.specs.Places.{at, placed, view_at, view_given}
use Rattle.comparable_range.specs.Cut.{cmp_cut, cut_at_most}
use Rattle.incremental_progress.specs.Checks.{destination_is_source, sources_there, planned_from, planned_in_order, outputs_from, outputs_inside, outputs_in_order, covered, output_views_covered, retained_meets, retained_meet}
use Rattle.incremental_progress.specs.Jobs.{among, is_output, others, left_entries, with_outputs}
use Rattle.incremental_progress.specs.Intervals.{part_before, part_from, subtract_from, cut_out}
use Rattle.incremental_progress.specs.Parts.{last_written, is_key, up_to_key, durable, intervals, open_key}
use Rattle.incremental_progress.specs.Entries.{output_entries, part_entries, view_entries, run_entries}
use Rattle.incremental_progress.specs.Draws.{tens, supply, draw, fill_all, fill_views, fill_runs, fill_commit}
use Rattle.incremental_progress.specs.Views.{same_range}
use Rattle.incremental_progress.specs.Commit.{result_fits, drawn_image, job_checked, applied, committed, commit_outcome}
use Rattle.view_sizes.specs.SizeCalls.{visible_fraction_outcome, estimate_visible_size_outcome, estimate_run_visible_size_outcome}
use Rattle.listing.specs.Listing.{run_lines, listing}
use Rattle.format.specs.Given.{bound_given}
use Rattle.bilqarush.specs.Calls.{range_given, ranges_given, compare_outcome, cmp_bound_outcome, non_empty_outcome, contains_outcome, as_point_outcome, intersect_outcome, intersect_start_key_outcome, intersect_end_key_outcome, union_outcome, from_prefix_outcome, from_prefix_and_subrange_outcome}
use Rattle.bilqarush.specs.ImageCalls.{check_image_outcome, compacted_effective_range_outcome, list_outcome}
use Rattle.stop_lists.specs.Stops.{intersect_stops, visible_size_stops, Reached, no_more, reached, EachListedStopIsReached, GivenToCommit, CommitStopsAreReached}
use Rattle.stop_lists.proofs.Crowded.{zeros, crowd, bare, crowd_is_refused}
use Rattle.stop_lists.proofs.Refused.{padded, long, empty, every, a_table, image_of, padded_run, too_many_runs, empty_view, turned, twice, large, no_runs, job_of}
use Rattle.stop_lists.proofs.PlansReached.{sampling, selecting, planning}
use Rattle.stop_lists.proofs.ProgressReached.{progressing, subtracting}
use Rattle.stop_lists.proofs.LookupsReached.{reached_by, after, partition_point_lem, first_partition, first_or_after, last_partition, partitions_covering, table_idx, overlaps, compacted_intersection_lem, view_range, intersects}

intersecting : Reached (λ (x : List ℕ × List ℕ). intersect_outcome x.0 x.1) intersect_stops
unfolding cmp_number cmp_key digits cmp_bound bounds_pass read_number read_bytes read_key head_of read_bound read_range whole ranges_given intersect_outcome
intersecting = reached ([], every) refl (reached (padded, every) refl (reached (every, long) refl (reached (every, empty) refl no_more)))

-- what the calls on the first run share, and those on its first view: each stops where it does
abbrev first_run : List ℕ → Outcome Run
first_run l = and_then (image_given l) (λ i. placed (at i 0))

first_run_lem : Reached first_run visible_size_stops
unfolding cmp_number cmp_key digits cmp_bound bounds_pass start_side end_side intersect_sides read_number write_number read_bytes read_key write_key head_of read_bound write_bound read_range write_range whole read_if write_if read_many write_many flag_of count_of view_count_of table view run image effective all visible_passes keys_in_order table_passes ascend_from has distinct size_passes image_checks image_given at
first_run_lem =
    reached [] refl
    (reached padded_run refl
    (reached too_many_runs refl
    (reached empty_view refl
    (reached turned refl
    (reached twice refl
    (reached large refl
    (reached no_runs refl
    no_more)))))))

first_view : Reached (λ (l : List ℕ). view_given l 0 0) visible_size_stops
unfolding view_given view_at
first_view = reached_by (λ l n. after (image_given l) (λ i e. rw e)) first_run_lem

pub each_listed_stop_is_reached : EachListedStopIsReached
unfolding cmp_number cmp_key digits cmp_bound bounds_pass start_side end_side intersect_sides read_number write_number read_bytes read_key write_key head_of read_bound write_bound read_range write_range whole key_given kept_of raised next_prefix from_prefix join_start join_end from_prefix_and_subrange joins_within joined_to read_if write_if read_many write_many flag_of count_of view_count_of table view run image effective all visible_passes keys_in_order table_passes ascend_from has distinct size_passes image_checks image_given run_lines listing range_given ranges_given bound_given compare_outcome cmp_bound_outcome non_empty_outcome contains_outcome as_point_outcome intersect_start_key_outcome intersect_end_key_outcome union_outcome from_prefix_outcome from_prefix_and_subrange_outcome check_image_outcome compacted_effective_range_outcome list_outcome visible_fraction_outcome estimate_visible_size_outcome estimate_run_visible_size_outcome
each_listed_stop_is_reached =
    record {
      compare = reached (zeros 1025) refl no_more;
      cmp_bound = reached (0, 0 ∷ []) refl (reached (3, []) refl (reached (1, zeros 1025) refl no_more));
      non_empty = reached [] refl (reached padded refl (reached long refl no_more));
      contains = reached [] refl (reached padded refl (reached long refl (reached empty refl no_more)));
      as_point = reached [] refl (reached padded refl (reached long refl (reached empty refl no_more)));
      intersect = intersecting;
      intersect_start_key = reached_by (λ x n e. rw e) intersecting;
      intersect_end_key = reached_by (λ x n e. rw e) intersecting;
      union = reached ([], every) refl (reached (padded, every) refl (reached (every, long) refl (reached (every, empty) refl no_more)));
      from_prefix = reached (zeros 1025, 0) refl (reached ([], 0) refl no_more);
      from_prefix_and_subrange = reached ([], 1) refl (reached (padded, 1) refl (reached (long, 1) refl (reached (empty, 1) refl (reached (every, 0) refl no_more))));
      check_image = reached [] refl (reached padded_run refl (reached too_many_runs refl (reached empty_view refl (reached turned refl (reached twice refl (reached large refl no_more))))));
      compacted_effective_range = reached_by (λ l n e. rw e) first_view;
      list = reached ([], 0) refl (reached (padded_run, 0) refl (reached (too_many_runs, 0) refl (reached (empty_view, 0) refl (reached (turned, 0) refl (reached (twice, 0) refl (reached (large, 0) refl (reached (no_runs, 0) refl no_more)))))));
      partition_point = partition_point_lem;
      first_partition_including_key = first_partition;
      first_partition_including_or_after_key = first_or_after;
      last_partition_including_key = last_partition;
      partitions_covering_range = partitions_covering;
      table_idx_covering_range = table_idx;
      overlaps_range = overlaps;
      compacted_intersection = compacted_intersection_lem;
      calculate_view_range = view_range;
      intersects_range = intersects;
      visible_fraction = reached_by (λ l n e. rw e) first_view;
      estimate_visible_size = reached_by (λ l n e. rw e) first_view;
      estimate_run_visible_size = reached_by (λ l n. after (image_given l) (λ i e. rw e)) first_run_lem;
      sample_anchors = sampling;
      select_boundaries = selecting;
      plan_subcompaction_ranges = planning;
      from_compaction = progressing;
      subtract_from = subtracting;
    }

-- ---- commits
abbrev from : Key → Range
from k = record { start = included k; end = unbounded }

-- run 7 without views
abbrev bare_run : List ℕ
bare_run = image.write bare

abbrev crowded_job : List ℕ
crowded_job = job.write crowd

abbrev given : List ℕ → List ℕ → GivenToCommit
given i j = record { image = i; job = j; ids = []; room = 0 }

-- the part from the empty key on
abbrev whatever : List ℕ
whatever = job_of (7 ∷ []) (from [])

abbrev on_image : List ℕ → GivenToCommit
on_image i = given i whatever

pub commit_stops_are_reached : CommitStopsAreReached
unfolding cmp_cut cut_at_most cmp_number cmp_key digits cmp_bound bounds_pass start_side end_side intersect_sides read_number write_number read_bytes read_key write_key head_of read_bound write_bound read_range write_range whole read_if write_if read_many write_many flag_of count_of view_count_of outputs_of table view run image part job effective all visible_passes keys_in_order table_passes ascend_from has distinct size_passes image_checks job_checks destination_is_source sources_there planned_from planned_in_order outputs_from outputs_inside outputs_in_order covered output_views_covered retained_meets retained_meet among is_output others part_before part_from subtract_from cut_out last_written is_key up_to_key durable intervals open_key output_entries part_entries view_entries run_entries tens supply draw left_entries with_outputs fill_all fill_views fill_runs fill_commit same_range sort insert result_fits drawn_image job_checked applied committed commit_outcome flat_map
commit_stops_are_reached =
    reached (on_image []) refl
    (reached (on_image padded_run) refl
    (reached (on_image too_many_runs) refl
    (reached (on_image empty_view) refl
    (reached (on_image turned) refl
    (reached (on_image twice) refl
    (reached (on_image large) refl
    (reached (given bare_run (job_of [] (from []))) refl
    (reached (on_image no_runs) refl
    (reached (given bare_run (job_of (7 ∷ []) (record { start = excluded []; end = unbounded }))) refl
    (reached (given bare_run (job_of (7 ∷ []) (from (98 ∷ [])))) refl
    (reached (on_image (image_of (a_table 0 (97 ∷ []) (122 ∷ [])) none)) refl
    (reached (on_image bare_run) refl
    (reached (given bare_run crowded_job) crowd_is_refused
    (reached (record { image = bare_run; job = whatever; ids = zeros 9 ++ (1 ∷ []); room = 0 }) refl
    no_more))))))))))))))
