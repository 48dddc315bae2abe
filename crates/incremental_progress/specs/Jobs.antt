-- A commit over values, after `apply_to_manifest_core`: what each run is to hold.
use Rattle.std.specs.Prelude.{ℕ, ◌≡◌, Bool, false, ◌||◌, eqb}
use mathlib.Core.List.{List, [], ◌∷◌, ◌++◌, map, flat_map}
use Rattle.base.specs.Pick.{pick}
use Rattle.base.specs.Sort.{sort}
use Rattle.key.specs.Order.{Key}
use Rattle.comparable_range.specs.Cut.{Cut, cut_at_most}
use Rattle.records.specs.Values.{Table, View, Image, Part, Job}
use Rattle.manifest.specs.Checks.{has}
use Rattle.incremental_progress.specs.Intervals.{any_holds}
use Rattle.incremental_progress.specs.Ids.{same_table_id}
use Rattle.incremental_progress.specs.Parts.{intervals, listed_in, LaterParts}
use Rattle.incremental_progress.specs.Entries.{Entry, whole, entry_start, run_entries, part_entries}

-- an output table, by its id
unfoldable pub among : Table → List Table → Bool
among t [] = false
among t (u ∷ us) = same_table_id t.id u.id || among t us

abbrev pub outputs : List Part → List Table
outputs ps = flat_map (λ p. p.outputs) ps

unfoldable pub is_output : List Part → Table → Bool
is_output ps t = among t (outputs ps)

-- the views of other tables
unfoldable pub others : List Part → List View → List View
others ps [] = []
others ps (v ∷ vs) = pick (is_output ps v.table) (others ps vs) (v ∷ others ps vs)

-- ---- the commit
-- what is left of a run's views, in the order in which they draw: the destination's views of output tables are replaced, and
-- a run that is no source stays as it is
unfoldable pub left_entries : Job → ℕ → List View → List Entry
left_entries j n vs =
    pick (eqb n j.destination) (run_entries (intervals j.parts) (others j.parts vs))
    (pick (has n j.sources) (run_entries (intervals j.parts) vs) (map whole vs))

-- the destination also gets the outputs, and is sorted
unfoldable pub with_outputs : {A : Type 0} → (A → Cut) → Job → ℕ → List A → List A → List A
with_outputs start j n left outs = pick (eqb n j.destination) (sort cut_at_most start (left ++ outs)) left

-- a run of the new image, with drawn ids left open
pub record OpenRun : Type 0 where
  pub id : ℕ
  pub entries : List Entry

unfoldable pub commit_runs : Job → Image → List OpenRun
commit_runs j runs =
    map (λ r. record { id = r.id; entries = with_outputs entry_start j r.id (left_entries j r.id r.views) (flat_map part_entries j.parts) }) runs

-- ---- later records of a job
pub record LaterJob (i j : Job) : Type 0 where
  pub destination : i.destination ≡ j.destination
  pub sources : i.sources ≡ j.sources
  pub parts : LaterParts i.parts j.parts

-- ---- what a run shows after the commit of a job, from what it showed before
-- Inside a durable interval the destination shows what the listed outputs hold and the other sources nothing; outside,
-- each shows what it did. Other runs show what they did.
unfoldable pub expected : Job → ℕ → (Table → Bool) → Key → ℕ → ℕ
expected j n q x before =
    pick (eqb n j.destination) (pick (any_holds (intervals j.parts) x) (listed_in q x j.parts) before)
    (pick (has n j.sources) (pick (any_holds (intervals j.parts) x) 0 before) before)
