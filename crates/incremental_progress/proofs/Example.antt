-- The example of commits, computed.
-- Assumes nothing.
use Prim.Native.Nat.{ℕ}
use mathlib.Core.Path.{◌≡◌, refl}
use mathlib.Core.Bool.{Bool, true, false}
use mathlib.Core.Option.{some}
use mathlib.Core.List.{List, [], ◌∷◌, flat_map}
use lib.Dec.{ltb}
use borrow.Author.Tests.{ltb-true}
use Rattle.base.specs.Bytes.{Bytes, bytes_none, bytes_cons}
use Rattle.base.specs.Outcome.{answer, stop}
use Rattle.base.specs.Sort.{insert, sort}
use Rattle.key.specs.Order.{cmp_number, cmp_key}
use Rattle.key.specs.Word.{digits}
use Rattle.comparable_range.specs.Range.{Range, unbounded, included, excluded, cmp_bound, bounds_pass, start_holds, end_holds, holds, start_side, end_side, intersect_sides}
use Rattle.comparable_range.specs.Cut.{cmp_cut, cut_at_most}
use Rattle.format.specs.Number.{read_number, write_number}
use Rattle.format.specs.Key.{read_bytes, read_key, write_key}
use Rattle.format.specs.Range.{head_of, read_bound, write_bound, read_range, write_range}
use Rattle.format.specs.Whole.{whole}
use Rattle.records.specs.Values.{Table, Job}
use Rattle.records.specs.Form.{read_if, write_if, read_many, write_many}
use Rattle.records.specs.Layouts.{flag_of, count_of, view_count_of, outputs_of, table, view, run, image, part, job}
use Rattle.manifest.specs.Ranges.{effective}
use Rattle.manifest.specs.Checks.{all, visible_passes, keys_in_order, table_passes, ascend_from, has, distinct, size_passes, image_checks, job_checks}
use Rattle.incremental_progress.specs.Intervals.{part_before, part_from, subtract_from, cut_out, any_holds}
use Rattle.incremental_progress.specs.Views.{same_range, shown}
use Rattle.incremental_progress.specs.Parts.{last_written, is_key, up_to_key, durable, intervals, open_key, listings, listed_in, same_end, part_by_part}
use Rattle.incremental_progress.specs.Jobs.{among, is_output, others, left_entries, with_outputs, commit_runs, expected}
use Rattle.incremental_progress.specs.Checks.{destination_is_source, sources_there, planned_from, planned_in_order, outputs_from, outputs_inside, outputs_in_order, covered, output_views_covered, retained_meets, retained_meet}
use Rattle.incremental_progress.specs.Entries.{view_entries, run_entries, output_entries, part_entries}
use Rattle.incremental_progress.specs.Draws.{tens, supply, draw, fill_all, fill_views, fill_runs, fill_commit}
use Rattle.incremental_progress.specs.Commit.{result_fits, drawn_image, job_checked, applied, committed, commit_outcome}
use Rattle.incremental_progress.specs.Patterns.{unknown, id_pattern, entry_pattern, run_pattern, image_pattern}
use Rattle.incremental_progress.specs.OpenPlaces.{open_from}
use Rattle.incremental_progress.specs.Demand.{no_step, one_step, commit_step, after, accepted, LaterRecord, only, and-then}
use Rattle.incremental_progress.specs.Example.{first_image, first_record, second_record, third_record, wrong_record, first_step, wrong_step, second_step, third_step, steps, last_image, ExampleCommits, ExampleIsACommitList, ExampleShows, ExampleOpen}
use Rattle.incremental_progress.proofs.Span.{both_true}

-- the images between
abbrev second_image : List ℕ
second_image =
    3 ∷ 0 ∷ 0 ∷ 0 ∷ 1 ∷ 0 ∷ 32 ∷ 0 ∷ 0 ∷ 0 ∷ 0 ∷ 0 ∷ 0 ∷ 11 ∷ 11 ∷ 11 ∷ 11 ∷ 11 ∷ 11 ∷ 11 ∷ 11 ∷ 11 ∷ 11 ∷ 0
    ∷ 0 ∷ 0 ∷ 0 ∷ 0 ∷ 0 ∷ 0 ∷ 0 ∷ 0 ∷ 0 ∷ 0 ∷ 0 ∷ 0 ∷ 0 ∷ 0 ∷ 4 ∷ 0 ∷ 0 ∷ 0 ∷ 0 ∷ 0 ∷ 0 ∷ 0 ∷ 0 ∷ 0
    ∷ 0 ∷ 0 ∷ 0 ∷ 0 ∷ 0 ∷ 0 ∷ 0 ∷ 0 ∷ 0 ∷ 0 ∷ 0 ∷ 0 ∷ 0 ∷ 0 ∷ 0 ∷ 128 ∷ 0 ∷ 1 ∷ 98 ∷ 0 ∷ 1 ∷ 100 ∷ 128 ∷ 32
    ∷ 0 ∷ 1 ∷ 100 ∷ 1 ∷ 1 ∷ 1 ∷ 1 ∷ 1 ∷ 1 ∷ 12 ∷ 12 ∷ 12 ∷ 12 ∷ 12 ∷ 12 ∷ 12 ∷ 12 ∷ 12 ∷ 12 ∷ 0 ∷ 0 ∷ 0 ∷ 0 ∷ 0
    ∷ 0 ∷ 0 ∷ 0 ∷ 0 ∷ 0 ∷ 0 ∷ 0 ∷ 0 ∷ 0 ∷ 0 ∷ 1 ∷ 0 ∷ 0 ∷ 0 ∷ 0 ∷ 0 ∷ 0 ∷ 0 ∷ 0 ∷ 0 ∷ 0 ∷ 0 ∷ 0 ∷ 0
    ∷ 0 ∷ 0 ∷ 0 ∷ 0 ∷ 0 ∷ 0 ∷ 0 ∷ 0 ∷ 0 ∷ 0 ∷ 0 ∷ 128 ∷ 0 ∷ 1 ∷ 97 ∷ 0 ∷ 1 ∷ 122 ∷ 128 ∷ 80 ∷ 0 ∷ 1 ∷ 100 ∷ 0
    ∷ 1 ∷ 122 ∷ 0 ∷ 0 ∷ 0 ∷ 2 ∷ 0 ∷ 32 ∷ 2 ∷ 2 ∷ 2 ∷ 2 ∷ 2 ∷ 2 ∷ 13 ∷ 13 ∷ 13 ∷ 13 ∷ 13 ∷ 13 ∷ 13 ∷ 13 ∷ 13 ∷ 13
    ∷ 0 ∷ 0 ∷ 0 ∷ 0 ∷ 0 ∷ 0 ∷ 0 ∷ 0 ∷ 0 ∷ 0 ∷ 0 ∷ 0 ∷ 0 ∷ 0 ∷ 0 ∷ 2 ∷ 0 ∷ 0 ∷ 0 ∷ 0 ∷ 0 ∷ 0 ∷ 0 ∷ 0
    ∷ 0 ∷ 0 ∷ 0 ∷ 0 ∷ 0 ∷ 0 ∷ 0 ∷ 0 ∷ 0 ∷ 0 ∷ 0 ∷ 0 ∷ 0 ∷ 0 ∷ 0 ∷ 0 ∷ 128 ∷ 0 ∷ 1 ∷ 97 ∷ 0 ∷ 1 ∷ 122 ∷ 128
    ∷ 80 ∷ 0 ∷ 1 ∷ 100 ∷ 0 ∷ 1 ∷ 122 ∷ 2 ∷ 2 ∷ 2 ∷ 2 ∷ 2 ∷ 2 ∷ 14 ∷ 14 ∷ 14 ∷ 14 ∷ 14 ∷ 14 ∷ 14 ∷ 14 ∷ 14 ∷ 14 ∷ 0
    ∷ 0 ∷ 0 ∷ 0 ∷ 0 ∷ 0 ∷ 0 ∷ 0 ∷ 0 ∷ 0 ∷ 0 ∷ 0 ∷ 0 ∷ 0 ∷ 0 ∷ 2 ∷ 0 ∷ 0 ∷ 0 ∷ 0 ∷ 0 ∷ 0 ∷ 0 ∷ 0 ∷ 0
    ∷ 0 ∷ 0 ∷ 0 ∷ 0 ∷ 0 ∷ 0 ∷ 0 ∷ 0 ∷ 0 ∷ 0 ∷ 0 ∷ 0 ∷ 0 ∷ 0 ∷ 0 ∷ 128 ∷ 0 ∷ 1 ∷ 97 ∷ 0 ∷ 1 ∷ 122 ∷ 128 ∷ 80
    ∷ 0 ∷ 1 ∷ 100 ∷ 0 ∷ 1 ∷ 122 ∷ 0 ∷ 0 ∷ 0 ∷ 3 ∷ 0 ∷ 16 ∷ 3 ∷ 3 ∷ 3 ∷ 3 ∷ 3 ∷ 3 ∷ 0 ∷ 0 ∷ 0 ∷ 0 ∷ 0 ∷ 0
    ∷ 0 ∷ 0 ∷ 0 ∷ 4 ∷ 0 ∷ 0 ∷ 0 ∷ 0 ∷ 0 ∷ 0 ∷ 0 ∷ 0 ∷ 0 ∷ 0 ∷ 0 ∷ 0 ∷ 0 ∷ 0 ∷ 0 ∷ 3 ∷ 0 ∷ 0 ∷ 0 ∷ 0
    ∷ 0 ∷ 0 ∷ 0 ∷ 0 ∷ 0 ∷ 0 ∷ 0 ∷ 0 ∷ 0 ∷ 0 ∷ 0 ∷ 0 ∷ 0 ∷ 0 ∷ 0 ∷ 0 ∷ 0 ∷ 0 ∷ 0 ∷ 0 ∷ 128 ∷ 0 ∷ 1 ∷ 97
    ∷ 0 ∷ 1 ∷ 122 ∷ 0 ∷ []

abbrev third_image : List ℕ
third_image =
    3 ∷ 0 ∷ 0 ∷ 0 ∷ 1 ∷ 0 ∷ 48 ∷ 0 ∷ 0 ∷ 0 ∷ 0 ∷ 0 ∷ 0 ∷ 0 ∷ 0 ∷ 0 ∷ 0 ∷ 0 ∷ 0 ∷ 0 ∷ 0 ∷ 0 ∷ 4 ∷ 0
    ∷ 0 ∷ 0 ∷ 0 ∷ 0 ∷ 0 ∷ 0 ∷ 0 ∷ 0 ∷ 0 ∷ 0 ∷ 0 ∷ 0 ∷ 0 ∷ 0 ∷ 4 ∷ 0 ∷ 0 ∷ 0 ∷ 0 ∷ 0 ∷ 0 ∷ 0 ∷ 0 ∷ 0
    ∷ 0 ∷ 0 ∷ 0 ∷ 0 ∷ 0 ∷ 0 ∷ 0 ∷ 0 ∷ 0 ∷ 0 ∷ 0 ∷ 0 ∷ 0 ∷ 0 ∷ 0 ∷ 128 ∷ 0 ∷ 1 ∷ 98 ∷ 0 ∷ 1 ∷ 100 ∷ 0 ∷ 0
    ∷ 0 ∷ 0 ∷ 0 ∷ 0 ∷ 0 ∷ 21 ∷ 21 ∷ 21 ∷ 21 ∷ 21 ∷ 21 ∷ 21 ∷ 21 ∷ 21 ∷ 21 ∷ 0 ∷ 0 ∷ 0 ∷ 0 ∷ 0 ∷ 0 ∷ 0 ∷ 0 ∷ 0
    ∷ 0 ∷ 0 ∷ 0 ∷ 0 ∷ 0 ∷ 0 ∷ 5 ∷ 0 ∷ 0 ∷ 0 ∷ 0 ∷ 0 ∷ 0 ∷ 0 ∷ 0 ∷ 0 ∷ 0 ∷ 0 ∷ 0 ∷ 0 ∷ 0 ∷ 0 ∷ 0 ∷ 0
    ∷ 0 ∷ 0 ∷ 0 ∷ 0 ∷ 0 ∷ 0 ∷ 0 ∷ 128 ∷ 0 ∷ 1 ∷ 101 ∷ 0 ∷ 1 ∷ 103 ∷ 128 ∷ 32 ∷ 0 ∷ 1 ∷ 103 ∷ 1 ∷ 1 ∷ 1 ∷ 1 ∷ 1
    ∷ 1 ∷ 22 ∷ 22 ∷ 22 ∷ 22 ∷ 22 ∷ 22 ∷ 22 ∷ 22 ∷ 22 ∷ 22 ∷ 0 ∷ 0 ∷ 0 ∷ 0 ∷ 0 ∷ 0 ∷ 0 ∷ 0 ∷ 0 ∷ 0 ∷ 0 ∷ 0 ∷ 0
    ∷ 0 ∷ 0 ∷ 1 ∷ 0 ∷ 0 ∷ 0 ∷ 0 ∷ 0 ∷ 0 ∷ 0 ∷ 0 ∷ 0 ∷ 0 ∷ 0 ∷ 0 ∷ 0 ∷ 0 ∷ 0 ∷ 0 ∷ 0 ∷ 0 ∷ 0 ∷ 0 ∷ 0
    ∷ 0 ∷ 0 ∷ 0 ∷ 128 ∷ 0 ∷ 1 ∷ 97 ∷ 0 ∷ 1 ∷ 122 ∷ 128 ∷ 80 ∷ 0 ∷ 1 ∷ 103 ∷ 0 ∷ 1 ∷ 122 ∷ 0 ∷ 0 ∷ 0 ∷ 2 ∷ 0 ∷ 32
    ∷ 2 ∷ 2 ∷ 2 ∷ 2 ∷ 2 ∷ 2 ∷ 23 ∷ 23 ∷ 23 ∷ 23 ∷ 23 ∷ 23 ∷ 23 ∷ 23 ∷ 23 ∷ 23 ∷ 0 ∷ 0 ∷ 0 ∷ 0 ∷ 0 ∷ 0 ∷ 0 ∷ 0
    ∷ 0 ∷ 0 ∷ 0 ∷ 0 ∷ 0 ∷ 0 ∷ 0 ∷ 2 ∷ 0 ∷ 0 ∷ 0 ∷ 0 ∷ 0 ∷ 0 ∷ 0 ∷ 0 ∷ 0 ∷ 0 ∷ 0 ∷ 0 ∷ 0 ∷ 0 ∷ 0 ∷ 0
    ∷ 0 ∷ 0 ∷ 0 ∷ 0 ∷ 0 ∷ 0 ∷ 0 ∷ 0 ∷ 128 ∷ 0 ∷ 1 ∷ 97 ∷ 0 ∷ 1 ∷ 122 ∷ 128 ∷ 80 ∷ 0 ∷ 1 ∷ 103 ∷ 0 ∷ 1 ∷ 122 ∷ 2
    ∷ 2 ∷ 2 ∷ 2 ∷ 2 ∷ 2 ∷ 24 ∷ 24 ∷ 24 ∷ 24 ∷ 24 ∷ 24 ∷ 24 ∷ 24 ∷ 24 ∷ 24 ∷ 0 ∷ 0 ∷ 0 ∷ 0 ∷ 0 ∷ 0 ∷ 0 ∷ 0 ∷ 0
    ∷ 0 ∷ 0 ∷ 0 ∷ 0 ∷ 0 ∷ 0 ∷ 2 ∷ 0 ∷ 0 ∷ 0 ∷ 0 ∷ 0 ∷ 0 ∷ 0 ∷ 0 ∷ 0 ∷ 0 ∷ 0 ∷ 0 ∷ 0 ∷ 0 ∷ 0 ∷ 0 ∷ 0
    ∷ 0 ∷ 0 ∷ 0 ∷ 0 ∷ 0 ∷ 0 ∷ 0 ∷ 128 ∷ 0 ∷ 1 ∷ 97 ∷ 0 ∷ 1 ∷ 122 ∷ 128 ∷ 80 ∷ 0 ∷ 1 ∷ 103 ∷ 0 ∷ 1 ∷ 122 ∷ 0 ∷ 0
    ∷ 0 ∷ 3 ∷ 0 ∷ 16 ∷ 3 ∷ 3 ∷ 3 ∷ 3 ∷ 3 ∷ 3 ∷ 0 ∷ 0 ∷ 0 ∷ 0 ∷ 0 ∷ 0 ∷ 0 ∷ 0 ∷ 0 ∷ 4 ∷ 0 ∷ 0 ∷ 0 ∷ 0
    ∷ 0 ∷ 0 ∷ 0 ∷ 0 ∷ 0 ∷ 0 ∷ 0 ∷ 0 ∷ 0 ∷ 0 ∷ 0 ∷ 3 ∷ 0 ∷ 0 ∷ 0 ∷ 0 ∷ 0 ∷ 0 ∷ 0 ∷ 0 ∷ 0 ∷ 0 ∷ 0 ∷ 0
    ∷ 0 ∷ 0 ∷ 0 ∷ 0 ∷ 0 ∷ 0 ∷ 0 ∷ 0 ∷ 0 ∷ 0 ∷ 0 ∷ 0 ∷ 128 ∷ 0 ∷ 1 ∷ 97 ∷ 0 ∷ 1 ∷ 122 ∷ 0 ∷ []

first_commit : commit_step first_image first_step ≡ answer second_image
unfolding digits read_number read_bytes read_key head_of read_bound read_range read_if read_many flag_of count_of view_count_of outputs_of table view run image part job whole write_number write_key write_bound write_range write_if write_many cmp_number cmp_key cmp_bound bounds_pass start_holds end_holds holds start_side end_side intersect_sides cmp_cut cut_at_most effective all visible_passes keys_in_order table_passes ascend_from has distinct size_passes image_checks job_checks destination_is_source sources_there planned_from planned_in_order outputs_from outputs_inside outputs_in_order covered output_views_covered retained_meets retained_meet flat_map part_before part_from subtract_from cut_out any_holds last_written is_key up_to_key durable intervals open_key among is_output others same_range insert sort view_entries run_entries output_entries part_entries left_entries with_outputs tens supply draw fill_all fill_views fill_runs fill_commit result_fits drawn_image job_checked applied committed commit_outcome
first_commit = refl

wrong_commit : commit_step second_image wrong_step ≡ stop 8
unfolding digits read_number read_bytes read_key head_of read_bound read_range read_if read_many flag_of count_of view_count_of outputs_of table view run image part job whole write_number write_key write_bound write_range write_if write_many cmp_number cmp_key cmp_bound bounds_pass start_holds end_holds holds start_side end_side intersect_sides cmp_cut cut_at_most effective all visible_passes keys_in_order table_passes ascend_from has distinct size_passes image_checks job_checks destination_is_source sources_there planned_from planned_in_order outputs_from outputs_inside outputs_in_order covered output_views_covered retained_meets retained_meet flat_map part_before part_from subtract_from cut_out any_holds last_written is_key up_to_key durable intervals open_key among is_output others same_range insert sort view_entries run_entries output_entries part_entries left_entries with_outputs tens supply draw fill_all fill_views fill_runs fill_commit result_fits drawn_image job_checked applied committed commit_outcome
wrong_commit = refl

second_commit : commit_step second_image second_step ≡ answer third_image
unfolding digits read_number read_bytes read_key head_of read_bound read_range read_if read_many flag_of count_of view_count_of outputs_of table view run image part job whole write_number write_key write_bound write_range write_if write_many cmp_number cmp_key cmp_bound bounds_pass start_holds end_holds holds start_side end_side intersect_sides cmp_cut cut_at_most effective all visible_passes keys_in_order table_passes ascend_from has distinct size_passes image_checks job_checks destination_is_source sources_there planned_from planned_in_order outputs_from outputs_inside outputs_in_order covered output_views_covered retained_meets retained_meet flat_map part_before part_from subtract_from cut_out any_holds last_written is_key up_to_key durable intervals open_key among is_output others same_range insert sort view_entries run_entries output_entries part_entries left_entries with_outputs tens supply draw fill_all fill_views fill_runs fill_commit result_fits drawn_image job_checked applied committed commit_outcome
second_commit = refl

third_commit : commit_step third_image third_step ≡ answer last_image
unfolding digits read_number read_bytes read_key head_of read_bound read_range read_if read_many flag_of count_of view_count_of outputs_of table view run image part job whole write_number write_key write_bound write_range write_if write_many cmp_number cmp_key cmp_bound bounds_pass start_holds end_holds holds start_side end_side intersect_sides cmp_cut cut_at_most effective all visible_passes keys_in_order table_passes ascend_from has distinct size_passes image_checks job_checks destination_is_source sources_there planned_from planned_in_order outputs_from outputs_inside outputs_in_order covered output_views_covered retained_meets retained_meet flat_map part_before part_from subtract_from cut_out any_holds last_written is_key up_to_key durable intervals open_key among is_output others same_range insert sort view_entries run_entries output_entries part_entries left_entries with_outputs tens supply draw fill_all fill_views fill_runs fill_commit result_fits drawn_image job_checked applied committed commit_outcome
third_commit = refl

-- the first step alone
first_leaves : after first_image (first_step ∷ []) ≡ second_image
unfolding after
first_leaves = rw first_commit

all_taken : accepted first_image steps ≡ first_record ∷ second_record ∷ third_record ∷ []
unfolding accepted
all_taken = rw (first_commit, wrong_commit, second_commit, third_commit)

all_left : after first_image steps ≡ last_image
unfolding after
all_left = rw (first_commit, wrong_commit, second_commit, third_commit)

-- ---- what the records list
abbrev output : ℕ → ℕ → ℕ → Table
output n first last =
    record {
      id = record { 0 = 0 ∷ 0 ∷ 0 ∷ 0 ∷ 0 ∷ 0 ∷ 0 ∷ 0 ∷ 0 ∷ 0 ∷ 0 ∷ 0 ∷ 0 ∷ 0 ∷ 0 ∷ n ∷ [] };
      index_offset = 0;
      index_len = 0;
      filter_offset = 0;
      first = first ∷ [];
      last = some (last ∷ []);
    }

abbrev until_m : Range
until_m = record { start = unbounded; end = excluded (109 ∷ []) }

abbrev since_m : Range
since_m = record { start = included (109 ∷ []); end = unbounded }

abbrev job_with : List Table → Bool → List Table → Job
job_with ts done us =
    record {
      destination = 1;
      sources = 1 ∷ 2 ∷ [];
      parts =
          record { planned = until_m; completed = done; outputs = ts }
          ∷ record { planned = since_m; completed = false; outputs = us }
          ∷ [];
    }

abbrev first_job : Job
first_job = job_with (output 4 98 100 ∷ []) false []

abbrev second_job : Job
second_job = job_with (output 4 98 100 ∷ output 5 101 103 ∷ []) false []

abbrev third_job : Job
third_job = job_with (output 4 98 100 ∷ output 5 101 103 ∷ []) true (output 6 109 112 ∷ [])

second_later : LaterRecord first_record second_record
unfolding digits read_number read_bytes read_key head_of read_bound read_range read_if read_many flag_of count_of view_count_of outputs_of table view run image part job whole
second_later =
    record {
      earlier = first_job;
      later = second_job;
      earlier_is = refl;
      later_is = refl;
      is =
          record {
            destination = refl;
            sources = refl;
            parts =
                part_by_part (record { planned = refl; more = output 5 101 103 ∷ []; begins = refl; keeps = λ e. e })
                (part_by_part (record { planned = refl; more = []; begins = refl; keeps = λ e. e }) same_end);
          };
    }

third_later : LaterRecord second_record third_record
unfolding digits read_number read_bytes read_key head_of read_bound read_range read_if read_many flag_of count_of view_count_of outputs_of table view run image part job whole
third_later =
    record {
      earlier = second_job;
      later = third_job;
      earlier_is = refl;
      later_is = refl;
      is =
          record {
            destination = refl;
            sources = refl;
            parts =
                part_by_part (record { planned = refl; more = []; begins = refl; keeps = λ e. refl })
                (part_by_part (record { planned = refl; more = output 6 109 112 ∷ []; begins = refl; keeps = λ e. e }) same_end);
          };
    }

pub example_commits : ExampleCommits
example_commits =
    record {
      refused = rw first_leaves wrong_commit;
      taken = all_taken;
      later = rw all_taken (and-then second_later (and-then third_later only));
      leaves = all_left;
    }

-- ---- bytes
bytes_by_test : (l : List ℕ) → all (λ b. ltb b 256) l ≡ true → Bytes l
unfolding all
bytes_by_test [] e = bytes_none
bytes_by_test (b ∷ l) e = let h = both_true (ltb b 256) (all (λ c. ltb c 256) l) e in bytes_cons (ltb-true b 256 h.0) (bytes_by_test l h.1)

pub example_is_a_commit_list : ExampleIsACommitList
unfolding all
example_is_a_commit_list =
    record {
      bytes = bytes_by_test first_image refl;
      records =
          one_step (bytes_by_test first_record refl)
          (one_step (bytes_by_test wrong_record refl)
          (one_step (bytes_by_test second_record refl)
          (one_step (bytes_by_test third_record refl) no_step)));
      later = example_commits.later;
      last = rw all_taken;
    }

-- ---- how often keys are shown
pub example_shows : ExampleShows
unfolding digits read_number read_bytes read_key head_of read_bound read_range read_if read_many flag_of count_of view_count_of outputs_of table view run image part job whole cmp_number cmp_key cmp_bound bounds_pass start_holds end_holds holds start_side end_side intersect_sides cmp_cut cut_at_most flat_map part_before part_from subtract_from cut_out any_holds last_written is_key up_to_key durable intervals open_key among is_output others same_range insert sort effective has shown listings listed_in expected
example_shows =
    record {
      inside = record { at_first = refl; at_last = refl; as_expected = refl };
      between = record { at_first = refl; at_last = refl; as_expected = refl };
      sooner = record { at_first = refl; at_last = refl; as_expected = refl };
      sooner_sixth = record { at_first = refl; at_last = refl; as_expected = refl };
      last_written = record { at_first = refl; at_last = refl; as_expected = refl };
      last_written_sixth = record { at_first = refl; at_last = refl; as_expected = refl };
      outside = record { at_first = refl; at_last = refl; as_expected = refl };
    }

pub example_open : ExampleOpen
unfolding digits read_number read_bytes read_key head_of read_bound read_range read_if read_many flag_of count_of view_count_of outputs_of table view run image part job whole write_number write_key write_bound write_range write_if write_many cmp_number cmp_key cmp_bound bounds_pass start_holds end_holds holds start_side end_side intersect_sides cmp_cut cut_at_most flat_map part_before part_from subtract_from cut_out any_holds last_written is_key up_to_key durable intervals open_key among is_output others same_range insert sort effective has view_entries run_entries output_entries part_entries left_entries with_outputs commit_runs unknown id_pattern entry_pattern run_pattern image_pattern open_from
example_open = refl
