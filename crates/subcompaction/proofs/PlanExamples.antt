-- The plans and the sampled anchors, computed.
-- Assumes nothing.
use mathlib.Core.Path.{refl}
use Rattle.base.specs.Sort.{insert, sort}
use Rattle.key.specs.Order.{cmp_key, cmp_number}
use Rattle.comparable_range.specs.Range.{start_holds, end_holds, holds}
use Rattle.manifest.specs.Checks.{total}
use Rattle.subcompaction.specs.Anchors.{stride, groups, held_by, sample_anchors}
use Rattle.subcompaction.specs.Boundaries.{target, unsplit, prepared, boundaries_from, boundaries, chosen, ranges_from, select_boundaries}
use Rattle.subcompaction.specs.PlanExamples.{FourAnchorsTwoParts, TooSmallToSplit, EqualKeysInBothOrders, AllAnchorsOnOneKey, HeavySmallestKey, ThresholdIsNotReset, NoMoreRangesThanParts, NoPartsActAsOne, NothingToSplit, FiveBlocksTwoAnchors, FallingOffsetsHaveNoBytes, HeldAnchorsAreKept, NoAnchorsActAsOne, NoBlocksNoAnchors}

pub four_anchors_two_parts : FourAnchorsTwoParts
unfolding target unsplit prepared insert sort boundaries_from boundaries chosen ranges_from select_boundaries total cmp_key cmp_number
four_anchors_two_parts = record { in_order = refl; in_another = refl }

pub too_small_to_split : TooSmallToSplit
unfolding target unsplit prepared insert sort boundaries_from boundaries chosen ranges_from select_boundaries total cmp_key cmp_number
too_small_to_split = record { least_40 = refl; least_31 = refl; least_30 = refl; all_before_lem = refl }

pub equal_keys_in_both_orders : EqualKeysInBothOrders
unfolding target unsplit prepared insert sort boundaries_from boundaries chosen ranges_from select_boundaries total cmp_key cmp_number
equal_keys_in_both_orders = record { larger_first = refl; smaller_first = refl }

pub all_anchors_on_one_key : AllAnchorsOnOneKey
unfolding target unsplit prepared insert sort boundaries_from boundaries chosen ranges_from select_boundaries total cmp_key cmp_number
all_anchors_on_one_key = refl

pub heavy_smallest_key : HeavySmallestKey
unfolding target unsplit prepared insert sort boundaries_from boundaries chosen ranges_from select_boundaries total cmp_key cmp_number
heavy_smallest_key = record { once = refl; again = refl }

pub threshold_is_not_reset : ThresholdIsNotReset
unfolding target unsplit prepared insert sort boundaries_from boundaries chosen ranges_from select_boundaries total cmp_key cmp_number
threshold_is_not_reset = refl

pub no_more_ranges_than_parts : NoMoreRangesThanParts
unfolding target unsplit prepared insert sort boundaries_from boundaries chosen ranges_from select_boundaries total cmp_key cmp_number
no_more_ranges_than_parts = refl

pub no_parts_act_as_one : NoPartsActAsOne
unfolding target unsplit prepared insert sort boundaries_from boundaries chosen ranges_from select_boundaries total cmp_key cmp_number
no_parts_act_as_one = record { none = refl; one = refl }

pub nothing_to_split : NothingToSplit
unfolding target unsplit prepared insert sort boundaries_from boundaries chosen ranges_from select_boundaries total cmp_key cmp_number
nothing_to_split = record { no_anchors_lem = refl; no_bytes = refl; target_0 = refl }

pub five_blocks_two_anchors : FiveBlocksTwoAnchors
unfolding stride groups held_by sample_anchors start_holds end_holds holds cmp_key cmp_number
five_blocks_two_anchors = refl

pub falling_offsets_have_no_bytes : FallingOffsetsHaveNoBytes
unfolding stride groups held_by sample_anchors start_holds end_holds holds cmp_key cmp_number
falling_offsets_have_no_bytes = refl

pub held_anchors_are_kept : HeldAnchorsAreKept
unfolding stride groups held_by sample_anchors start_holds end_holds holds cmp_key cmp_number
held_anchors_are_kept = record { from_b_to_d = refl; of_two_groups = refl; none = refl }

pub no_anchors_act_as_one : NoAnchorsActAsOne
unfolding stride groups held_by sample_anchors start_holds end_holds holds cmp_key cmp_number
no_anchors_act_as_one = record { none = refl; one = refl }

pub no_blocks_no_anchors : NoBlocksNoAnchors
unfolding stride groups held_by sample_anchors start_holds end_holds holds cmp_key cmp_number
no_blocks_no_anchors = refl
