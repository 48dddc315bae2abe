-- The lookups in small runs, computed.
-- Assumes nothing.
use mathlib.Core.Path.{refl}
use Rattle.key.specs.Order.{cmp_key, cmp_number}
use Rattle.comparable_range.specs.Range.{cmp_bound, bounds_pass, start_holds, end_holds, holds, start_side, end_side, intersect_sides}
use Rattle.format.specs.Joint.{intersect}
use Rattle.manifest.specs.Ranges.{effective}
use Rattle.partitioned_keyspace.specs.Partitions.{partition_point}
use Rattle.db_state.specs.Places.{at}
use Rattle.db_state.specs.Lookup.{start_key, intersects_range, calculate_view_range, compacted_intersection, overlaps_range, table_end_bound, table_intersects, start_keys, max_idx, start_candidate, walk_back, min_idx, table_idx_covering_range}
use Rattle.db_state.specs.LookupExamples.{SharedBoundaryKey, GapBeforeTheNext, PastTheLastKey, VisibleWiderThanTheTable, NoLastKey, WalkBack, ReachingPastTheNext, EqualBounds, NoViews}

pub shared_boundary_key : SharedBoundaryKey
unfolding cmp_number cmp_key cmp_bound bounds_pass start_holds end_holds holds start_side end_side intersect_sides intersect effective partition_point at start_key intersects_range compacted_intersection table_end_bound table_intersects start_keys max_idx start_candidate walk_back min_idx table_idx_covering_range
shared_boundary_key = record { end = refl; at = refl; after = refl; before = refl; kept = refl }

pub gap_before_the_next : GapBeforeTheNext
unfolding cmp_number cmp_key cmp_bound bounds_pass start_holds end_holds holds start_side end_side intersect_sides intersect effective partition_point at start_key intersects_range calculate_view_range compacted_intersection overlaps_range table_end_bound table_intersects start_keys max_idx start_candidate walk_back min_idx table_idx_covering_range
gap_before_the_next =
    record { end = refl; inside = refl; intersects = refl; at_the_next = refl; overlaps = refl; not_shown = refl; nor_read = refl; kept = refl }

pub past_the_last_key : PastTheLastKey
unfolding cmp_number cmp_key cmp_bound bounds_pass start_holds end_holds holds start_side end_side intersect_sides intersect effective start_key compacted_intersection
past_the_last_key = record { kept = refl; in_the_gap = refl; of_the_last = refl }

pub visible_wider_than_the_table : VisibleWiderThanTheTable
unfolding cmp_number cmp_key cmp_bound bounds_pass start_side end_side intersect_sides intersect effective start_key calculate_view_range compacted_intersection
visible_wider_than_the_table = record { starts = refl; read = refl; kept = refl }

pub no_last_key : NoLastKey
unfolding cmp_number cmp_key cmp_bound bounds_pass start_holds end_holds holds start_side end_side intersect_sides intersect effective partition_point at start_key intersects_range calculate_view_range compacted_intersection overlaps_range table_end_bound table_intersects start_keys max_idx start_candidate walk_back min_idx table_idx_covering_range
no_last_key = record { read = refl; kept = refl; before = refl; after = refl; overlaps = refl }

pub walk_back_lem : WalkBack
unfolding cmp_number cmp_key cmp_bound bounds_pass start_holds end_holds holds start_side end_side intersect_sides effective partition_point at start_key intersects_range table_end_bound table_intersects start_keys max_idx start_candidate walk_back min_idx table_idx_covering_range
walk_back_lem = record { over_all = refl; from_below = refl; not_at_all = refl; from_excluded = refl; below = refl }

pub reaching_past_the_next : ReachingPastTheNext
unfolding cmp_number cmp_key cmp_bound bounds_pass start_holds end_holds holds start_side end_side intersect_sides effective partition_point at start_key intersects_range overlaps_range table_end_bound table_intersects start_keys max_idx start_candidate walk_back min_idx table_idx_covering_range
reaching_past_the_next = record { covering = refl; overlaps = refl }

pub equal_bounds : EqualBounds
unfolding cmp_number cmp_key cmp_bound bounds_pass start_holds end_holds holds start_side end_side intersect_sides intersect effective start_key calculate_view_range compacted_intersection
equal_bounds = record { read = refl; kept = refl; before_the_next = refl; at_the_next = refl }

pub no_views : NoViews
unfolding partition_point start_keys max_idx table_idx_covering_range overlaps_range
no_views = record { covering = refl; overlaps = refl }
