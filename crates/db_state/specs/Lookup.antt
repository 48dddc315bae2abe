-- Lookups in a view and in the views of a run, step for step as db_state.rs has them.
use Rattle.std.specs.Prelude.{ℕ, zero, suc, Bool, false, List, [], ◌∷◌, map, length}
use Rattle.std.proofs.Math.Option.{Option, none, some}
use Rattle.base.specs.Pick.{pick}
use Rattle.key.specs.Order.{Key}
use Rattle.comparable_range.specs.Range.{Bound, unbounded, included, excluded, Range, holds, intersect, intersect_sides, meets}
use Rattle.comparable_range.specs.declared.Side.TheVariants.{First, Second}
use Rattle.format.specs.Joint.{Joint, from}
use Rattle.format.specs.Joint as joint
use Rattle.format.specs.Span.{bound_key}
use Rattle.records.specs.Values.{View}
use Rattle.manifest.specs.Ranges.{effective}
use Rattle.partitioned_keyspace.specs.Partitions.{Places, passes_test, partition_point, last_before}
use Rattle.partitioned_keyspace.specs.declared.Test.TheVariants.{Below, AtOrBelow}
use Rattle.db_state.specs.Places.{at}

abbrev pub between : Bound → Bound → Range
between start end = record { start = start; end = end }

-- ---- one view
-- `compacted_effective_start_key`; check 5 leaves only included starts
unfoldable pub start_key : View → Key
start_key v = bound_key (effective v).start

-- where a range was found: from its start to the end bound it meets the asked range
abbrev pub meets_from : Option Range → Bound → Range → Bool
meets_from none end asked = false
meets_from (some r) end asked = meets (intersect_sides (between r.start end) asked)

-- the end bound stands for the view's own end
unfoldable pub intersects_range : View → Bound → Range → Bool
intersects_range v end asked = meets_from (intersect (between unbounded end) (effective v)) end asked

-- Range answers are `Joint`s: the image supplies the side First, the asked range Second.
-- The asked range cut by the visible range; without one, by the effective range of a table that has a last key.
abbrev pub cut_to_view : Option Range → Option Key → Range → Range → Option Joint
cut_to_view (some visible) last effective asked = joint.intersect (from Second asked) (from First visible)
cut_to_view none (some last) effective asked = joint.intersect (from Second asked) (from First effective)
cut_to_view none none effective asked = some (from Second asked)

unfoldable pub calculate_view_range : View → Range → Option Joint
calculate_view_range v asked = cut_to_view v.visible v.table.last (effective v) asked

-- the end of a view at the next view's start: included if the view holds that key
abbrev pub end_before : View → Key → Bound
end_before v next = pick (holds (effective v) next) (included next) (excluded next)

-- from its start to the next view's
abbrev pub to_next : View → View → Range
to_next v next = between (effective v).start (end_before v (start_key next))

-- a gap that an earlier projection left stays
abbrev pub cut_to_visible : Option Range → Option Joint → Option Joint
cut_to_visible visible none = none
cut_to_visible none (some j) = some j
cut_to_visible (some visible) (some j) = joint.intersect j (from First visible)

unfoldable pub compacted_intersection : View → Option View → Range → Option Joint
compacted_intersection v none asked = joint.intersect (from First (effective v)) (from Second asked)
compacted_intersection v (some next) asked =
    cut_to_visible v.visible (joint.intersect (from First (to_next v next)) (from Second asked))

-- ---- the views of a run
abbrev pub last_view : View → List View → View
last_view v [] = v
last_view v (w ∷ ws) = last_view w ws

-- from the first view's start to the last view's end
abbrev pub span : View → List View → Range
span v vs = between (effective v).start (effective (last_view v vs)).end

unfoldable pub overlaps_range : List View → Range → Bool
overlaps_range [] asked = false
overlaps_range (v ∷ vs) asked = meets (intersect_sides (span v vs) asked)

-- a view's end bound, before the next one: the last has none
abbrev pub end_bound : Option View → Option View → Bound
end_bound none next = unbounded
end_bound (some v) none = unbounded
end_bound (some v) (some next) = end_before v (start_key next)

unfoldable pub table_end_bound : List View → ℕ → Bound
table_end_bound vs idx = end_bound (at vs idx) (at vs (suc idx))

-- whether a view is there, and intersects the asked range up to its end bound
abbrev pub intersects_up_to : Option View → Bound → Range → Bool
intersects_up_to none end asked = false
intersects_up_to (some v) end asked = intersects_range v end asked

unfoldable pub table_intersects : List View → Range → ℕ → Bool
table_intersects vs asked idx = intersects_up_to (at vs idx) (table_end_bound vs idx) asked

-- ---- `table_idx_covering_range`
unfoldable pub start_keys : List View → List Key
start_keys vs = map start_key vs

-- the last view whose start key falls within the asked range's end
unfoldable pub max_idx : List View → Bound → Option ℕ
max_idx vs (included hi) = last_before (partition_point (passes_test AtOrBelow hi) (start_keys vs))
max_idx vs (excluded hi) = last_before (partition_point (passes_test Below hi) (start_keys vs))
max_idx vs unbounded = last_before (length vs)

-- the last view whose start key is at or below the asked range's start
unfoldable pub start_candidate : List View → Bound → Option ℕ
start_candidate vs (included lo) = last_before (partition_point (passes_test AtOrBelow lo) (start_keys vs))
start_candidate vs (excluded lo) = last_before (partition_point (passes_test AtOrBelow lo) (start_keys vs))
start_candidate vs unbounded = none

-- the candidate if it intersects the asked range, else the view after it
abbrev pub first_idx : List View → Range → Option ℕ → ℕ
first_idx vs asked none = 0
first_idx vs asked (some idx) = pick (table_intersects vs asked idx) idx (suc idx)

-- and back over the views before it that intersect
unfoldable pub walk_back : List View → Range → ℕ → ℕ
walk_back vs asked zero = zero
walk_back vs asked (suc idx) = pick (table_intersects vs asked idx) (walk_back vs asked idx) (suc idx)

unfoldable pub min_idx : List View → Range → ℕ
min_idx vs asked = walk_back vs asked (first_idx vs asked (start_candidate vs asked.start))

abbrev pub nowhere : Places
nowhere = record { start = 0; end = 0 }

abbrev pub covered_to : List View → Range → Option ℕ → Places
covered_to vs asked none = nowhere
covered_to vs asked (some max) = pick (table_intersects vs asked max) (record { start = min_idx vs asked; end = suc max }) nowhere

unfoldable pub table_idx_covering_range : List View → Range → Places
table_idx_covering_range vs asked = covered_to vs asked (max_idx vs asked.end)
