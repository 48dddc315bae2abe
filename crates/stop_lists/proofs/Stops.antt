-- The stops of each call are in its list.
-- Assumes nothing.
use Prim.Native.Nat.{ℕ}
use mathlib.Core.Path.{◌≡◌, refl, sym, ◌∙◌}
use mathlib.Core.Bool.{Bool, true, false, true≢false, ◌&&◌}
use mathlib.Core.List.{List}
use Rattle.base.specs.Pick.{and_first}
use Rattle.base.specs.Outcome.{Outcome, stop, check}
use Rattle.key.specs.Order.{Key}
use Rattle.comparable_range.specs.Range.{Range, non_empty}
use Rattle.format.specs.Range.{read_range, write_range}
use Rattle.format.specs.Whole.{whole, key_given}
use Rattle.bytes_range.specs.Prefix.{from_prefix, from_prefix_and_subrange}
use Rattle.bytes_range.specs.Writing.{range_joins, joined_to}
use Rattle.records.specs.Values.{Image, Job}
use Rattle.records.specs.Layouts.{image, job}
use Rattle.manifest.specs.Checks.{has, joined, image_checks, job_checks, image_given}
use Rattle.partitioned_keyspace.specs.Asked.{index_and_key, index_and_range}
use Rattle.partitioned_keyspace.specs.Calls.{partition_point_outcome, first_partition_including_key_outcome, first_partition_including_or_after_key_outcome, last_partition_including_key_outcome, partitions_covering_range_outcome}
use Rattle.db_state.specs.Places.{view_given}
use Rattle.db_state.specs.LookupCalls.{views_at}
use Rattle.view_sizes.specs.SizeCalls.{visible_fraction_outcome, estimate_visible_size_outcome, estimate_run_visible_size_outcome}
use Rattle.listing.specs.Listing.{listing}
use Rattle.incremental_progress.specs.Checks.{destination_is_source, sources_there, planned_in_order, outputs_in_order, output_views_covered}
use Rattle.incremental_progress.specs.Draws.{Drawn, used_up, got, supply, fill_commit}
use Rattle.incremental_progress.specs.Commit.{drawn_or, result_fits, drawn_image, job_checked, applied, committed, commit_outcome}
use Rattle.incremental_progress.proofs.ProgressLaws.{retained_always_meets}
use Rattle.format.specs.Given.{bound_given}
use Rattle.bilqarush.specs.Calls.{range_given, ranges_given, compare_outcome, cmp_bound_outcome, non_empty_outcome, contains_outcome, as_point_outcome, intersect_outcome, intersect_start_key_outcome, intersect_end_key_outcome, union_outcome, from_prefix_outcome, from_prefix_and_subrange_outcome}
use Rattle.bilqarush.specs.ImageCalls.{check_image_outcome, compacted_effective_range_outcome, list_outcome}
use Rattle.stop_lists.specs.Stops.{intersect_stops, from_prefix_and_subrange_stops, commit_stops, EachStopIsListed, NoStopIsZero, NoCommitStopsWith13}
use Rattle.incremental_progress.specs.Repeated.{StopsIn}
use Rattle.incremental_progress.proofs.Repeated.{answers, stops}
use Rattle.stop_lists.proofs.Stopping.{checks, and-then, written, key_given_lem, job_stops, whole_stops}
use Rattle.stop_lists.proofs.GivenStops.{whole_range, range_given_lem, ranges_given_lem, bound_given_lem, three_listed, seven_listed, checked_stops, whole_image, image_given_lem, views_at_lem, view_given_lem}
use Rattle.stop_lists.proofs.LookupStops.{index_and_key_lem, index_and_range_lem, table_idx_stops, overlaps_stops, compacted_intersection_stops, view_range_stops, intersects_stops}
use Rattle.stop_lists.proofs.PlanStops.{sample_anchors_stops_lem, select_boundaries_stops_lem, plan_stops}
use Rattle.stop_lists.proofs.ProgressStops.{from_compaction_stops_lem, subtract_from_stops_lem}

-- ---- a commit
drawn_stops : {ns : List ℕ} {A : Type 0} (d : Drawn A) → has 14 ns ≡ true → StopsIn ns (drawn_or d)
drawn_stops used_up h = stops 14 h
drawn_stops (got a s) h = answers a

-- a check that passes is no stop
passed : {ns : List ℕ} {A : Type 0} (k : ℕ) {passes : Bool} (o : Outcome A) → passes ≡ true → StopsIn ns o → StopsIn ns (check k passes o)
passed k o e s = rw e s

-- check 13 follows check 5, so it passes
committed_stops : (i : Image) (j : Job) (ids : List ℕ) → StopsIn commit_stops (committed i j ids)
unfolding committed applied job_checked drawn_image has
committed_stops i j ids =
    checked_stops seven_listed (joined (image_checks i) (job_checks j)) (λ tables.
    checks 8 (destination_is_source j) refl (λ _.
    checks 9 (sources_there i j) refl (λ _.
    checks 10 (planned_in_order j) refl (λ _.
    checks 11 (outputs_in_order j) refl (λ _.
    checks 12 (output_views_covered i j) refl (λ _.
    passed 13 _ (retained_always_meets i j (and_first (image_checks i).tables _ tables))
    (and-then (drawn_or (fill_commit j i (supply ids))) (drawn_stops (fill_commit j i (supply ids)) refl) (λ new.
    checks 15 (result_fits new) refl (λ _. answers new)))))))))

commit_stops_lem : (given record' ids : List ℕ) (room : ℕ) → StopsIn commit_stops (commit_outcome given record' ids room)
unfolding commit_outcome has
commit_stops_lem given record' ids room =
    and-then (whole image.read given) (whole_image seven_listed given) (λ i.
    and-then (whole job.read record') (whole_stops three_listed.keys job (job_stops three_listed) record') (λ j.
    and-then (committed i j ids) (committed_stops i j ids) (λ new. written room (image.write new) refl)))

-- ---- every call
joined_stops : (room : ℕ) (p : Key) (r : Range) → StopsIn from_prefix_and_subrange_stops (joined_to room p r)
unfolding joined_to has
joined_stops room p r =
    let q = from_prefix_and_subrange p r in
    checks 3 (range_joins p r) refl (λ _. checks 4 (non_empty r && non_empty q) refl (λ _. written room (write_range q) refl))

intersect_stops_lem : (a b : List ℕ) → StopsIn intersect_stops (intersect_outcome a b)
unfolding intersect_outcome has
intersect_stops_lem a b = and-then (ranges_given a b) (ranges_given_lem three_listed a b refl) (λ p. answers _)

pub each_stop_is_listed : EachStopIsListed
unfolding compare_outcome cmp_bound_outcome non_empty_outcome contains_outcome as_point_outcome intersect_start_key_outcome intersect_end_key_outcome union_outcome from_prefix_outcome from_prefix_and_subrange_outcome check_image_outcome compacted_effective_range_outcome list_outcome partition_point_outcome first_partition_including_key_outcome first_partition_including_or_after_key_outcome last_partition_including_key_outcome partitions_covering_range_outcome visible_fraction_outcome estimate_visible_size_outcome estimate_run_visible_size_outcome has
each_stop_is_listed =
    record {
      compare = λ a b.
          and-then (key_given a) (key_given_lem a refl) (λ j. and-then (key_given b) (key_given_lem b refl) (λ k. answers _));
      cmp_bound = λ ka a kb b start.
          and-then (bound_given ka a) (bound_given_lem three_listed ka a) (λ x.
          and-then (bound_given kb b) (bound_given_lem three_listed kb b) (λ y. answers _));
      non_empty = λ l. and-then (whole read_range l) (whole_range three_listed l) (λ r. answers _);
      contains = λ l key.
          and-then (whole read_range l) (whole_range three_listed l) (λ r.
          and-then (key_given key) (key_given_lem key refl) (λ k. checks 4 (non_empty r) refl (λ _. answers _)));
      as_point = λ l. and-then (range_given l) (range_given_lem three_listed l refl) (λ r. answers _);
      intersect = intersect_stops_lem;
      intersect_start_key = λ a b. and-then (intersect_outcome a b) (intersect_stops_lem a b) (λ j. answers _);
      intersect_end_key = λ a b. and-then (intersect_outcome a b) (intersect_stops_lem a b) (λ j. answers _);
      union = λ a b. and-then (ranges_given a b) (ranges_given_lem three_listed a b refl) (λ p. answers _);
      from_prefix = λ prefix room.
          and-then (key_given prefix) (key_given_lem prefix refl) (λ p. written room (write_range (from_prefix p)) refl);
      from_prefix_and_subrange = λ prefix subrange room.
          and-then (key_given prefix) (key_given_lem prefix refl) (λ p.
          and-then (whole read_range subrange) (whole_range three_listed subrange) (λ r. joined_stops room p r));
      check_image = λ l. and-then (image_given l) (image_given_lem seven_listed l) (λ i. answers tt);
      compacted_effective_range = λ l run view.
          and-then (view_given l run view) (view_given_lem seven_listed l run view refl) (λ v. answers _);
      list = λ l room. and-then (image_given l) (image_given_lem seven_listed l) (λ i. written room (listing i) refl);
      partition_point = λ l test key. and-then (index_and_key l key) (index_and_key_lem l key) (λ a. answers _);
      first_partition_including_key = λ l key. and-then (index_and_key l key) (index_and_key_lem l key) (λ a. answers _);
      first_partition_including_or_after_key = λ l key. and-then (index_and_key l key) (index_and_key_lem l key) (λ a. answers _);
      last_partition_including_key = λ l key. and-then (index_and_key l key) (index_and_key_lem l key) (λ a. answers _);
      partitions_covering_range = λ l q. and-then (index_and_range l q) (index_and_range_lem l q) (λ a. answers _);
      table_idx_covering_range = table_idx_stops;
      overlaps_range = overlaps_stops;
      compacted_intersection = compacted_intersection_stops;
      calculate_view_range = view_range_stops;
      intersects_range = intersects_stops;
      visible_fraction = λ l run view.
          and-then (view_given l run view) (view_given_lem seven_listed l run view refl) (λ v. answers _);
      estimate_visible_size = λ l run view.
          and-then (view_given l run view) (view_given_lem seven_listed l run view refl) (λ v. answers _);
      estimate_run_visible_size = λ l run.
          and-then (image_given l) (image_given_lem seven_listed l) (λ i.
          and-then (views_at i run) (views_at_lem i run refl) (λ vs. answers _));
      sample_anchors = sample_anchors_stops_lem;
      select_boundaries = select_boundaries_stops_lem;
      plan_subcompaction_ranges = plan_stops;
      from_compaction = from_compaction_stops_lem;
      subtract_from = subtract_from_stops_lem;
      commit = commit_stops_lem;
    }

-- ---- so these numbers are no stops
unlisted : {A : Type 0} {ns : List ℕ} {o : Outcome A} (n : ℕ) → StopsIn ns o → has n ns ≡ false → o ≡ stop n → ⊥
unlisted n s h e = true≢false (sym (s.listed n e) ∙ h)

pub no_commit_stops_with_13 : NoCommitStopsWith13
unfolding has
no_commit_stops_with_13 given record' ids room = unlisted 13 (commit_stops_lem given record' ids room) refl

pub no_stop_is_zero : NoStopIsZero
unfolding has
no_stop_is_zero =
    let each = each_stop_is_listed in
    record {
      compare = λ a b. unlisted 0 (each.compare a b) refl;
      cmp_bound = λ ka a kb b start. unlisted 0 (each.cmp_bound ka a kb b start) refl;
      non_empty = λ l. unlisted 0 (each.non_empty l) refl;
      contains = λ l key. unlisted 0 (each.contains l key) refl;
      as_point = λ l. unlisted 0 (each.as_point l) refl;
      intersect = λ a b. unlisted 0 (each.intersect a b) refl;
      intersect_start_key = λ a b. unlisted 0 (each.intersect_start_key a b) refl;
      intersect_end_key = λ a b. unlisted 0 (each.intersect_end_key a b) refl;
      union = λ a b. unlisted 0 (each.union a b) refl;
      from_prefix = λ prefix room. unlisted 0 (each.from_prefix prefix room) refl;
      from_prefix_and_subrange = λ prefix subrange room. unlisted 0 (each.from_prefix_and_subrange prefix subrange room) refl;
      check_image = λ l. unlisted 0 (each.check_image l) refl;
      compacted_effective_range = λ l run view. unlisted 0 (each.compacted_effective_range l run view) refl;
      list = λ l room. unlisted 0 (each.list l room) refl;
      partition_point = λ l test key. unlisted 0 (each.partition_point l test key) refl;
      first_partition_including_key = λ l key. unlisted 0 (each.first_partition_including_key l key) refl;
      first_partition_including_or_after_key = λ l key. unlisted 0 (each.first_partition_including_or_after_key l key) refl;
      last_partition_including_key = λ l key. unlisted 0 (each.last_partition_including_key l key) refl;
      partitions_covering_range = λ l q. unlisted 0 (each.partitions_covering_range l q) refl;
      table_idx_covering_range = λ l run q. unlisted 0 (each.table_idx_covering_range l run q) refl;
      overlaps_range = λ l run q. unlisted 0 (each.overlaps_range l run q) refl;
      compacted_intersection = λ l run view q. unlisted 0 (each.compacted_intersection l run view q) refl;
      calculate_view_range = λ l run view q. unlisted 0 (each.calculate_view_range l run view q) refl;
      intersects_range = λ l run view kind end q. unlisted 0 (each.intersects_range l run view kind end q) refl;
      visible_fraction = λ l run view. unlisted 0 (each.visible_fraction l run view) refl;
      estimate_visible_size = λ l run view. unlisted 0 (each.estimate_visible_size l run view) refl;
      estimate_run_visible_size = λ l run. unlisted 0 (each.estimate_run_visible_size l run) refl;
      sample_anchors = λ most data_end l q room. unlisted 0 (each.sample_anchors most data_end l q room) refl;
      select_boundaries = λ parts least l room. unlisted 0 (each.select_boundaries parts least l room) refl;
      plan_subcompaction_ranges = λ parts l m room. unlisted 0 (each.plan_subcompaction_ranges parts l m room) refl;
      from_compaction = λ l room. unlisted 0 (each.from_compaction l room) refl;
      subtract_from = λ l q room. unlisted 0 (each.subtract_from l q room) refl;
      commit = λ given job' ids room. unlisted 0 (each.commit given job' ids room) refl;
    }
