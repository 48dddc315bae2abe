-- An input for each stop of each call that plans, computed.
-- Assumes nothing.
use Prim.Native.Nat.{ℕ, ◌^◌}
use mathlib.Core.Path.{refl}
use mathlib.Core.List.{List, [], ◌∷◌, flat_map}
use Rattle.base.specs.Sort.{insert, sort}
use Rattle.key.specs.Order.{cmp_key, cmp_number}
use Rattle.key.specs.Word.{digits}
use Rattle.comparable_range.specs.Range.{cmp_bound, bounds_pass, start_side, end_side, intersect_sides}
use Rattle.format.specs.Number.{read_number, write_number}
use Rattle.format.specs.Key.{read_bytes, read_key, write_key}
use Rattle.format.specs.Range.{head_of, read_bound, write_bound, read_range, write_range}
use Rattle.format.specs.Whole.{whole}
use Rattle.records.specs.Form.{read_if, write_if, read_many, write_many}
use Rattle.records.specs.Layouts.{flag_of, count_of, view_count_of, table, view, run, image, block, index, anchor, anchors, plan}
use Rattle.manifest.specs.Ranges.{effective}
use Rattle.manifest.specs.Checks.{all, visible_passes, keys_in_order, table_passes, ascend_from, has, distinct, size_passes, total, image_checks, index_checks, anchors_checks}
use Rattle.partitioned_keyspace.specs.Asked.{asked_checks}
use Rattle.subcompaction.specs.Anchors.{stride, groups, held_by, sample_anchors}
use Rattle.subcompaction.specs.Boundaries.{target, unsplit, prepared, boundaries_from, boundaries, chosen, ranges_from, select_boundaries}
use Rattle.subcompaction.specs.PlanCalls.{sampled, largest_size, plan_subcompaction_ranges, sampled_checks, anchors_sampled, anchors_given, ranges_planned, sample_anchors_outcome, select_boundaries_outcome, plan_subcompaction_ranges_outcome}
use Rattle.stop_lists.specs.Stops.{sample_anchors_stops, select_boundaries_stops, plan_subcompaction_ranges_stops, Reached, no_more, reached}
use Rattle.stop_lists.proofs.Refused.{padded, long, empty, every, padded_run, too_many_runs, empty_view, turned, twice, large, no_runs, no_blocks, descending}
use Rattle.stop_lists.proofs.ManyAnchors.{views_image, blocks_images, many_anchors_are_refused}

pub sampling : Reached (λ (x : List ℕ × List ℕ). sample_anchors_outcome 1 0 x.0 x.1 0) sample_anchors_stops
unfolding cmp_number cmp_key digits cmp_bound bounds_pass read_number write_number read_bytes read_key write_key head_of read_bound read_range whole read_many write_many block index anchor anchors ascend_from index_checks asked_checks stride groups held_by sample_anchors anchors_sampled sample_anchors_outcome
sampling =
    reached ([], every) refl
    (reached (no_blocks, padded) refl
    (reached (no_blocks, long) refl
    (reached (no_blocks, empty) refl
    (reached (descending, every) refl
    (reached (no_blocks, every) refl
    no_more)))))

-- one anchor, on the empty key
abbrev anchor_of : ℕ → List ℕ
anchor_of bytes = anchors.write (record { key = []; bytes = bytes } ∷ [])

abbrev no_anchors : List ℕ
no_anchors = anchors.write []

pub selecting : Reached (λ (x : ℕ × List ℕ). select_boundaries_outcome x.0 0 x.1 0) select_boundaries_stops
unfolding cmp_number cmp_key digits read_number write_number read_bytes read_key write_key write_bound write_range whole read_many write_many count_of anchor anchors plan total anchors_checks insert sort target unsplit prepared boundaries_from boundaries chosen ranges_from select_boundaries anchors_given select_boundaries_outcome
selecting =
    reached (1, []) refl
    (reached (65, []) refl
    (reached (1, anchor_of (2 ^ 63)) refl
    (reached (1, no_anchors) refl
    no_more)))

pub planning : Reached (λ (x : List ℕ × List ℕ). plan_subcompaction_ranges_outcome 1 x.0 x.1 0) plan_subcompaction_ranges_stops
unfolding cmp_number cmp_key digits cmp_bound bounds_pass start_side end_side intersect_sides read_number write_number read_bytes read_key write_key head_of read_bound write_bound read_range write_range whole read_if write_if read_many write_many flag_of count_of view_count_of table view run image block index plan effective all visible_passes keys_in_order table_passes ascend_from has distinct size_passes total image_checks index_checks insert sort target unsplit prepared boundaries_from boundaries chosen ranges_from select_boundaries stride groups held_by sample_anchors sampled largest_size plan_subcompaction_ranges sampled_checks ranges_planned plan_subcompaction_ranges_outcome flat_map
planning =
    reached ([], []) refl
    (reached (padded_run, []) refl
    (reached (too_many_runs, []) refl
    (reached (empty_view, no_blocks) refl
    (reached (turned, no_blocks) refl
    (reached (twice, []) refl
    (reached (large, no_blocks) refl
    (reached (views_image, blocks_images) many_anchors_are_refused
    (reached (no_runs, []) refl
    no_more))))))))
