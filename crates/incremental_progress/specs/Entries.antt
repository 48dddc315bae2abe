-- What a commit is to write: a view as it is, or a range of a view under a new id.
use Rattle.std.proofs.Math.Option.{Option, none, some}
use mathlib.Core.List.{List, [], ◌∷◌, map, flat_map}
use Rattle.base.specs.Pick.{pick}
use Rattle.key.specs.Order.{Key}
use Rattle.comparable_range.specs.Range.{Range, non_empty, overlap}
use Rattle.comparable_range.specs.Cut.{Cut}
use Rattle.records.specs.Values.{Table, View, Part}
use Rattle.manifest.specs.Ranges.{own, effective}
use Rattle.incremental_progress.specs.Intervals.{Interval, listed, to_range, cut_out}
use Rattle.incremental_progress.specs.Ids.{NewId, kept, drawn, time_of}
use Rattle.incremental_progress.specs.Views.{start, same_range}
use Rattle.incremental_progress.specs.Parts.{is_key, durable, identity, open_key}

pub data Entry : Type 0 where
  whole : View → Entry
  cut : View → Range → Entry

-- the view that an entry becomes, under the id that it had
abbrev pub entry_view : Entry → View
entry_view (whole v) = v
entry_view (cut v r) = record { id = v.id; table = v.table; visible = some r }

-- where it starts, whatever its id
abbrev pub entry_start : Entry → Cut
entry_start e = start (entry_view e)

-- the id that it gets
abbrev pub entry_id : Entry → NewId
entry_id (whole v) = kept v.id
entry_id (cut v r) = drawn (time_of v.id)

-- ---- what is left of views
-- the view itself, if the range is all that it shows
abbrev pub piece_entry : View → Range → Entry
piece_entry v r = pick (same_range r (effective v)) (whole v) (cut v r)

-- what of a view lies outside the intervals
unfoldable pub view_entries : List Interval → View → List Entry
view_entries ivs v = map (piece_entry v) (cut_out ivs (effective v ∷ []))

unfoldable pub run_entries : List Interval → List View → List Entry
run_entries ivs vs = flat_map (view_entries ivs) vs

-- ---- the outputs
-- An output that ends at the last written key b is cut to the interval, and left out if nothing of it is left.
unfoldable pub output_entries : Option Key → Interval → Table → List Entry
output_entries none iv t = whole (identity t) ∷ []
output_entries (some b) iv t =
    pick (is_key t.last b)
    (pick (non_empty (overlap (own t) (to_range iv))) (cut (identity t) (to_range iv) ∷ []) [])
    (whole (identity t) ∷ [])

unfoldable pub part_entries : Part → List Entry
part_entries p = flat_map (λ iv. flat_map (output_entries (open_key p) iv) p.outputs) (listed (durable p))
