-- A commit by gaps with all its entries in one list: they are filled in one go, and each run takes its views from what comes out.
use Rattle.std.specs.Prelude.{ℕ, ◌+◌, ◌*◌, Bool, ◌||◌, eqb, length, take, drop}
use mathlib.Core.List.{List, [], ◌∷◌, ◌++◌, map, flat_map}
use Rattle.base.specs.Pick.{pick}
use Rattle.comparable_range.specs.Range.{Range}
use Rattle.format.specs.Number.{write_number}
use Rattle.records.specs.Form.{write_many}
use Rattle.records.specs.Values.{View, Run, Image, Part, Job}
use Rattle.records.specs.Layouts.{view}
use Rattle.manifest.specs.Checks.{has}
use Rattle.incremental_progress.specs.Parts.{durable, intervals}
use Rattle.incremental_progress.specs.Entries.{Entry, entry_view, part_entries}
use Rattle.incremental_progress.specs.Gaps.{gaps, gap_entries, by_gap, run_gaps, placed, of_interval}

-- ---- who draws
-- a run whose views are cut: the destination or another source
abbrev pub is_source_of : Job → ℕ → Bool
is_source_of j n = eqb n j.destination || has n j.sources

-- one thing for the destination, one for another source, one for a run beside the job
abbrev pub by_kind : {A : Type 0} → Job → Run → A → A → A → A
by_kind j r destination source other = pick (eqb r.id j.destination) destination (pick (has r.id j.sources) source other)

abbrev pub job_gaps : Job → List Range
job_gaps j = gaps (intervals j.parts)

-- the entries of a run
unfoldable pub run_draws : Job → Run → List Entry
run_draws j r = pick (is_source_of j r.id) (flat_map (gap_entries (job_gaps j)) r.views) []

-- all entries in the order in which they draw: the outputs', then the runs' in image order
unfoldable pub draw_entries : Job → Image → List Entry
draw_entries j i = flat_map part_entries j.parts ++ flat_map (run_draws j) i

-- ---- the new image, from the views that fill the entries
-- the outputs, interval by interval
unfoldable pub outputs_of : List Part → List View → List (List View)
outputs_of [] vs = []
outputs_of (p ∷ ps) vs =
    let n = length (part_entries p) in
    of_interval (durable p) (take n vs) ++ outputs_of ps (drop n vs)

-- the views of a run whose entries became mine
unfoldable pub new_views : Job → List (List View) → Run → List View → List View
new_views j outs r mine = by_kind j r (by_gap 0 outs (placed (run_gaps (job_gaps j) r.views) mine)) mine r.views

unfoldable pub new_runs : Job → List (List View) → List Run → List View → List Run
new_runs j outs [] vs = []
new_runs j outs (r ∷ rs) vs =
    let n = length (run_draws j r) in
    record { id = r.id; views = new_views j outs r (take n vs) } ∷ new_runs j outs rs (drop n vs)

unfoldable pub new_image : Job → Image → List View → Image
new_image j i vs =
    let m = length (flat_map part_entries j.parts) in
    new_runs j (outputs_of j.parts (take m vs)) i (drop m vs)

-- ---- how many views, how many bytes: known before any id is drawn
abbrev pub view_bytes : List View → List ℕ
view_bytes vs = write_many view.write vs

-- under the ids that they had, which are as long as the new ones
abbrev pub entry_bytes : List Entry → List ℕ
entry_bytes es = view_bytes (map entry_view es)

unfoldable pub view_count : Job → Run → ℕ
view_count j r = by_kind j r (length (run_draws j r) + length (flat_map part_entries j.parts)) (length (run_draws j r)) (length r.views)

unfoldable pub views_length : Job → Run → ℕ
views_length j r =
    by_kind j r (length (entry_bytes (run_draws j r)) + length (entry_bytes (flat_map part_entries j.parts))) (length (entry_bytes (run_draws j r)))
    (length (view_bytes r.views))

unfoldable pub runs_length : Job → List Run → ℕ
runs_length j [] = 0
runs_length j (r ∷ rs) = (6 + views_length j r) + runs_length j rs

unfoldable pub image_length : Job → Image → ℕ
image_length j i = 1 + runs_length j i

-- ---- the bytes of a run
-- those before its n views
unfoldable pub head_bytes : ℕ → ℕ → List ℕ
head_bytes id n = write_number 4 id ++ write_number 2 (n * 16)
