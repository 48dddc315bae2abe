-- A commit whose drawn ids are left open, as an image again: of a drawn id only the 6 bytes of time are there. So commits
-- can follow each other whatever they draw. What a commit writes fills the image that this makes.
-- Assumes nothing.
use Prim.Native.Nat.{ℕ}
use mathlib.Core.Path.{◌≡◌}
use mathlib.Core.Option.{Option, some}
use mathlib.Core.List.{List, [], ◌∷◌, ◌++◌, map, flat_map}
use lib.Dec.{eqb}
use lib.ListN.{length}
use Rattle.base.specs.Pick.{pick}
use Rattle.base.specs.Sort.{sort}
use Rattle.comparable_range.specs.Cut.{cut_at_most}
use Rattle.key.specs.Order.{Key}
use Rattle.comparable_range.specs.Range.{Range}
use Rattle.records.specs.Values.{Table, View, Run, Image, Part, Job}
use Rattle.records.specs.declared.ids.ViewId.{ViewId}
use Rattle.manifest.specs.Ranges.{effective}
use Rattle.manifest.specs.Checks.{has}
use Rattle.incremental_progress.specs.Intervals.{Interval, listed, cut_out}
use Rattle.incremental_progress.specs.Ids.{time_of}
use Rattle.incremental_progress.specs.Views.{start}
use Rattle.incremental_progress.specs.Parts.{durable, intervals, open_key}
use Rattle.incremental_progress.specs.Entries.{Entry, whole, cut, piece_entry, output_entries}
use Rattle.incremental_progress.specs.Jobs.{others}

-- an id of which the time is left
abbrev pub only_time : ViewId → ViewId
only_time id = record { 0 = time_of id }

-- a view that shows a range of a view's table, under a new id
abbrev pub cut_view : View → Range → View
cut_view v r = record { id = only_time v.id; table = v.table; visible = some r }

-- an entry as it is left open
abbrev pub marked : Entry → View
marked (whole v) = v
marked (cut v r) = cut_view v r

unfoldable pub piece : View → Range → View
piece v r = marked (piece_entry v r)

-- what of a view lies outside the intervals
unfoldable pub retained : List Interval → View → List View
retained ivs v = map (piece v) (cut_out ivs (effective v ∷ []))

-- a source run
unfoldable pub cut_run : List Interval → List View → List View
cut_run ivs vs = flat_map (retained ivs) vs

-- the destination, which also gets the outputs
unfoldable pub cut_destination : List Interval → List View → List View → List View
cut_destination ivs outs vs = sort cut_at_most start (cut_run ivs vs ++ outs)

-- ---- the outputs
unfoldable pub publish : Option Key → Interval → Table → List View
publish k iv t = map marked (output_entries k iv t)

unfoldable pub published : Part → List View
published p = flat_map (λ iv. flat_map (publish (open_key p) iv) p.outputs) (listed (durable p))

-- ---- the runs
unfoldable pub marked_views : Job → ℕ → List View → List View
marked_views j n vs =
    pick (eqb n j.destination) (cut_destination (intervals j.parts) (flat_map published j.parts) (others j.parts vs))
    (pick (has n j.sources) (cut_run (intervals j.parts) vs) vs)

unfoldable pub marked_runs : Job → Image → Image
marked_runs j runs = map (λ r. record { id = r.id; views = marked_views j r.id r.views }) runs

-- ---- images that fill it
-- the view with its random bits left open
abbrev pub blank : View → View
blank v = record { id = only_time v.id; table = v.table; visible = v.visible }

-- the second is the first, but for random bits that the first leaves open
pub data Fills : View → View → Type 0 where
  kept : {v : View} → Fills v v
  drawn : {v : View} → Fills (blank v) v

pub data Each {A : Type 0} (R : A → A → Type 0) : List A → List A → Type 0 where
  no_more : Each R [] []
  and : {x y : A} {xs ys : List A} → R x y → Each R xs ys → Each R (x ∷ xs) (y ∷ ys)

pub data FillsRun : Run → Run → Type 0 where
  same_id : {n : ℕ} {vs ws : List View} → Each Fills vs ws → FillsRun (record { id = n; views = vs }) (record { id = n; views = ws })

abbrev pub FillsImage : Image → Image → Type 0
FillsImage = Each FillsRun

-- an id as it is read has 16 bytes: none is left open
pub record Closed (v : View) : Type 0 where
  pub full : length v.id.0 ≡ 16

pub data AllClosed : List View → Type 0 where
  none_left : AllClosed []
  one_more : {v : View} {vs : List View} → Closed v → AllClosed vs → AllClosed (v ∷ vs)

pub data ClosedImage : Image → Type 0 where
  no_runs_lem : ClosedImage []
  one_run : {r : Run} {rs : List Run} → AllClosed r.views → ClosedImage rs → ClosedImage (r ∷ rs)

-- a job as it is read: each output's id has 16 bytes
pub data FullTables : List Table → Type 0 where
  no_tables : FullTables []
  one_table : {t : Table} {ts : List Table} → length t.id.0 ≡ 16 → FullTables ts → FullTables (t ∷ ts)

pub data FullParts : List Part → Type 0 where
  no_parts : FullParts []
  one_part : {p : Part} {ps : List Part} → FullTables p.outputs → FullParts ps → FullParts (p ∷ ps)
