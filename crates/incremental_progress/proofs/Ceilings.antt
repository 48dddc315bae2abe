-- Ceilings: what is within them in an image and a job, and that a commit's entries are.
-- Assumes nothing.
use mathlib.Core.Bool.{Bool, true, false}
use mathlib.Core.Option.{Option, none, some}
use mathlib.Core.List.{List, [], ◌∷◌, flat_map}
use Rattle.base.specs.Pick.{pick}
use Rattle.key.specs.Order.{Key}
use Rattle.comparable_range.specs.declared.Side.{Side}
use Rattle.comparable_range.specs.declared.Side.TheVariants.{First, Second}
use Rattle.comparable_range.specs.Range.{Sides}
use Rattle.std.specs.Prelude.{None, Some}
use Rattle.comparable_range.specs.Range.{Bound, unbounded, included, excluded, Range, of, start_side, end_side, overlap, chosen, intersect_sides, non_empty}
use Rattle.format.specs.Laws.{KeyWithin, BoundWithin, RangeWithin}
use Rattle.records.specs.Values.{Table, View, Part}
use Rattle.records.specs.Layouts.{table}
use Rattle.records.proofs.Within.{If, TableKeys, table_keys, ViewWithin, PartWithin}
use Rattle.manifest.specs.Ranges.{last_bound, own, effective, cut_by}
use Rattle.incremental_progress.specs.Intervals.{Interval, listed, part_before, part_from, subtract_from, cut_out, start_bound, end_bound, to_range}
use Rattle.incremental_progress.specs.Parts.{planned_interval, key_of, last_written, is_key, up_to_key, durable, intervals, identity, open_key}
use Rattle.incremental_progress.specs.Views.{same_range}
use Rattle.incremental_progress.specs.Entries.{Entry, whole, cut, piece_entry, view_entries, output_entries, part_entries}
use Rattle.base.specs.Lists.{All, All-map, All-append, All-flatMap, All-mapped}

-- ---- ranges
of_within : (s : Side) (a b : Bound) → BoundWithin a → BoundWithin b → BoundWithin (of s a b)
of_within First a b h k = h
of_within Second a b h k = k

overlap_within : (r q : Range) → RangeWithin r → RangeWithin q → RangeWithin (overlap r q)
overlap_within r q h k =
    record {
      start = of_within (start_side r.start q.start) r.start q.start h.start k.start;
      end = of_within (end_side r.end q.end) r.end q.end h.end k.end;
    }

effective_within : (v : View) → ViewWithin v → RangeWithin (effective v)
unfolding effective
effective_within v h = go v.visible h.visible
  where
    k : TableKeys v.table
    k = table_keys v.table h.table

    ending : (o : Option Key) → If KeyWithin o → BoundWithin (last_bound o)
    ending none w = tt
    ending (some l) w = w

    owned : RangeWithin (own v.table)
    owned = record { start = k.first; end = ending v.table.last k.last }

    go : (o : Option Range) → If RangeWithin o → RangeWithin (cut_by o (own v.table))
    go none w = owned
    go (some r) w = overlap_within (own v.table) r owned w

-- ---- intervals, and what they leave of ranges
pub record IntervalWithin (iv : Interval) : Type 0 where
  pub start : If KeyWithin iv.start
  pub end : If KeyWithin iv.end

chosen_within : (s : Sides) (r q : Range) → RangeWithin r → RangeWithin q → All RangeWithin (listed (chosen r q s))
chosen_within None r q h k = tt
chosen_within (Some (s, e)) r q h k =
    (record { start = of_within s r.start q.start h.start k.start; end = of_within e r.end q.end h.end k.end }, tt)

before_within : (o : Option Key) (r : Range) → If KeyWithin o → RangeWithin r → All RangeWithin (listed (part_before o r))
unfolding part_before
before_within none r w h = tt
before_within (some k) r w h = chosen_within (intersect_sides r _) r _ h (record { start = tt; end = w })

from_within : (o : Option Key) (r : Range) → If KeyWithin o → RangeWithin r → All RangeWithin (listed (part_from o r))
unfolding part_from
from_within none r w h = tt
from_within (some k) r w h = chosen_within (intersect_sides r _) r _ h (record { start = w; end = tt })

subtract_within : (iv : Interval) (r : Range) → IntervalWithin iv → RangeWithin r → All RangeWithin (subtract_from iv r)
unfolding subtract_from
subtract_within iv r w h =
    All-append RangeWithin (listed (part_before iv.start r)) _ (before_within iv.start r w.start h) (from_within iv.end r w.end h)

cut_out_within : (ivs : List Interval) (rs : List Range) → All IntervalWithin ivs → All RangeWithin rs → All RangeWithin (cut_out ivs rs)
unfolding cut_out
cut_out_within [] rs w h = h
cut_out_within (iv ∷ ivs) rs w h =
    cut_out_within ivs (flat_map (subtract_from iv) rs) w.1 (All-flatMap RangeWithin RangeWithin (subtract_from iv) (λ r k. subtract_within iv r w.0 k) rs h)

-- ---- durable intervals
bound_key_lem : (b : Bound) → BoundWithin b → If KeyWithin (key_of b)
bound_key_lem unbounded h = tt
bound_key_lem (included k) h = h
bound_key_lem (excluded k) h = h

planned_within : (p : Part) → PartWithin p → IntervalWithin (planned_interval p)
planned_within p h = record { start = bound_key_lem p.planned.start h.planned.start; end = bound_key_lem p.planned.end h.planned.end }

last_within : (ts : List Table) → All table.Within ts → If KeyWithin (last_written ts)
unfolding last_written
last_within [] a = tt
last_within (t ∷ []) a = (table_keys t a.0).last
last_within (t ∷ u ∷ ts) a = last_within (u ∷ ts) a.1

up_within : (s b : Option Key) → If KeyWithin s → If KeyWithin b → All IntervalWithin (listed (up_to_key s b))
unfolding up_to_key
up_within s none h k = tt
up_within s (some b) h k = go (is_key s b)
  where
    go : (c : Bool) → All IntervalWithin (listed (pick c none (some (record { start = s; end = some b }))))
    go true = tt
    go false = (record { start = h; end = k }, tt)

durable_within : (p : Part) → PartWithin p → All IntervalWithin (listed (durable p))
unfolding durable
durable_within p h = go p.completed
  where
    go : (b : Bool) → All IntervalWithin (listed (pick b (some (planned_interval p)) (up_to_key (planned_interval p).start (last_written p.outputs))))
    go true = (planned_within p h, tt)
    go false = up_within (planned_interval p).start (last_written p.outputs) (planned_within p h).start (last_within p.outputs h.outputs)

pub intervals_within : (ps : List Part) → All PartWithin ps → All IntervalWithin (intervals ps)
unfolding intervals
intervals_within ps a = All-flatMap PartWithin IntervalWithin (λ p. listed (durable p)) durable_within ps a

-- ---- entries
abbrev pub EntryWithin : Entry → Type 0
EntryWithin (whole v) = ViewWithin v
EntryWithin (cut v r) = ViewWithin v × RangeWithin r

pub view_entries_within : (ivs : List Interval) (v : View) → All IntervalWithin ivs → ViewWithin v → All EntryWithin (view_entries ivs v)
unfolding view_entries
view_entries_within ivs v w h =
    All-mapped EntryWithin (piece_entry v) (cut_out ivs (effective v ∷ [])) (All-map piece (cut_out ivs (effective v ∷ [])) (cut_out_within ivs (effective v ∷ []) w (effective_within v h, tt)))
  where
    piece : (r : Range) → RangeWithin r → EntryWithin (piece_entry v r)
    piece r k = go (same_range r (effective v))
      where
        go : (b : Bool) → EntryWithin (pick b (whole v) (cut v r))
        go true = h
        go false = (h, k)

identity_within : (t : Table) → table.Within t → ViewWithin (identity t)
identity_within t w = record { id = (table_keys t w).id; table = w; visible = tt }

range_within : (iv : Interval) → IntervalWithin iv → RangeWithin (to_range iv)
range_within iv w = record { start = starts iv.start w.start; end = ends iv.end w.end }
  where
    starts : (o : Option Key) → If KeyWithin o → BoundWithin (start_bound o)
    starts none h = tt
    starts (some k) h = h

    ends : (o : Option Key) → If KeyWithin o → BoundWithin (end_bound o)
    ends none h = tt
    ends (some k) h = h

output_entries_within : (o : Option Key) (iv : Interval) (t : Table) → IntervalWithin iv → table.Within t → All EntryWithin (output_entries o iv t)
unfolding output_entries
output_entries_within none iv t w h = (identity_within t h, tt)
output_entries_within (some b) iv t w h = go (is_key t.last b) (non_empty (overlap (own t) (to_range iv)))
  where
    go : (c d : Bool) → All EntryWithin (pick c (pick d (cut (identity t) (to_range iv) ∷ []) []) (whole (identity t) ∷ []))
    go true true = ((identity_within t h, range_within iv w), tt)
    go true false = tt
    go false d = (identity_within t h, tt)

part_entries_within : (p : Part) → PartWithin p → All EntryWithin (part_entries p)
unfolding part_entries
part_entries_within p h =
    All-flatMap IntervalWithin EntryWithin _ (λ iv w. All-flatMap table.Within EntryWithin (output_entries (open_key p) iv) (λ t k. output_entries_within (open_key p) iv t w k) p.outputs h.outputs)
    (listed (durable p)) (durable_within p h)

pub outputs_within : (ps : List Part) → All PartWithin ps → All EntryWithin (flat_map part_entries ps)
outputs_within ps a = All-flatMap PartWithin EntryWithin part_entries part_entries_within ps a
