-- What of the job's outputs is published, and what it means that it is planned. The keys stand in the job s.
use Rattle.std.specs.Prelude.{ℕ, suc, ◌+◌, ◌*◌, ◌≤◌, ◌≡◌, true, T, length, drop}
use Rattle.std.proofs.Math.Option.{Option, none, some}
use mathlib.Core.List.{List, [], ◌∷◌, ◌++◌, map, flat_map}
use Rattle.base.specs.Pick.{pick}
use Rattle.key.specs.Order.{Key}
use Rattle.comparable_range.specs.Range.{non_empty, overlap}
use Rattle.format.specs.Range.{range_in, BoundInside}
use Rattle.records.specs.Form.{read_many}
use Rattle.records.specs.Found.{is_got, values_of}
use Rattle.records.specs.Values.{Table, Part}
use Rattle.records.specs.Layouts.{table}
use Rattle.manifest.specs.Ranges.{own}
use Rattle.incremental_progress.specs.Intervals.{Interval, to_range}
use Rattle.incremental_progress.specs.Parts.{is_key, identity, durable}
use Rattle.incremental_progress.specs.Entries.{Entry, whole, cut, output_entries, part_entries}
use Rattle.commit_rows.specs.declared.parts.PartSpan.{PartSpan}
use Rattle.commit_rows.specs.declared.rows.Form.{Form}
use Rattle.commit_rows.specs.declared.rows.Row.{Row}
use Rattle.commit_durable.specs.Tables.{job_of, interval_in, open_in}
use Rattle.commit_entries.specs.Planned.{PlanReady, PlannedMore}
use Rattle.commit_entries.specs.declared.Plan.{Plan}
use Rattle.commit_outputs.specs.declared.output.Published.{Published}
use Rattle.commit_outputs.specs.declared.output.Published.TheVariants.{Left, Whole, Cut}

-- a part's interval stands in s
pub record IntervalHeld (s : List ℕ) (h : PartSpan) : Type 0 where
  pub range : range_in s h.start h.end ≡ to_range (interval_in s h.start h.end)
  pub start : BoundInside s h.start
  pub end : BoundInside s h.end

-- so do its outputs
pub record OutputsThere (s : List ℕ) (h : PartSpan) : Type 0 where
  pub first : h.first ≤ length s
  pub few : h.outputs ≤ 1024
  pub there : T (is_got (read_many table.read h.outputs (drop h.first s)))

-- the entries of an output
abbrev pub entries_in : List ℕ → PartSpan → Table → List Entry
entries_in s h = output_entries (open_in s h) (interval_in s h.start h.end)

-- those of all outputs of a part
abbrev pub outputs_in : List ℕ → PartSpan → List Entry
outputs_in s h = flat_map (entries_in s h) (values_of (read_many table.read h.outputs (drop h.first s)))

-- ---- the same by cases: `output_entries` is `entries_as` of `published_as`
unfoldable pub published_as : Option Key → Interval → Table → Published
published_as none iv t = Whole
published_as (some b) iv t = pick (is_key t.last b) (pick (non_empty (overlap (own t) (to_range iv))) Cut Left) Whole

abbrev pub entries_as : Interval → Table → Published → List Entry
entries_as iv t Left = []
entries_as iv t Whole = whole (identity t) ∷ []
entries_as iv t Cut = cut (identity t) (to_range iv) ∷ []

-- its row
abbrev pub output_row : Form → PartSpan → ℕ → ℕ → ℕ → Row
output_row form h bucket at past = record { form = form; bucket = bucket; at = at; past = past; start = h.start; end = h.end; ten = 0 }

-- ---- planned
-- each in one bucket
abbrev pub bucketed : ℕ → List Entry → List ℕ
bucketed b es = map (λ (e : Entry). b) es

-- whatever the image is: no row of an output points into it
abbrev pub PlannedIn : List ℕ → List ℕ → List Entry → ℕ → Plan → List ℕ → Plan → List ℕ → Type 0
PlannedIn job ids es b p d q t = (image : List ℕ) → PlannedMore image job ids es (bucketed b es) p d q t

-- interval i's outputs come after gap i
abbrev pub output_bucket : ℕ → ℕ
output_bucket i = i * 2 + 1

abbrev pub after_interval : Option Interval → ℕ → ℕ
after_interval none i = i
after_interval (some iv) i = suc i

-- the buckets of all outputs, from interval i on; a part without an interval has no entries
unfoldable pub output_buckets : ℕ → List Part → List ℕ
output_buckets i [] = []
output_buckets i (p ∷ ps) = bucketed (output_bucket i) (part_entries p) ++ output_buckets (after_interval (durable p) i) ps

-- all of the job's outputs, and nothing before them
abbrev pub no_plan : Plan
no_plan = record { rows = 0; bytes = 0; cuts = 0; drawn = 0; enough = true }

pub record PlannedOutputs (job ids d : List ℕ) (q : Plan) (t : List ℕ) : Type 0 where
  pub planned : (image : List ℕ) → PlannedMore image job ids (flat_map part_entries (job_of job).parts) (output_buckets 0 (job_of job).parts) no_plan d q t
  pub ready : PlanReady ids 65536 q
