-- The views of a run that stands in the image s.
use Rattle.std.specs.Prelude.{ℕ, ◌≤◌, ◌≡◌, true, T, length, drop}
use mathlib.Core.List.{List, map, flat_map}
use Rattle.base.specs.Bytes.{Bytes}
use Rattle.records.specs.Form.{read_many}
use Rattle.records.specs.Found.{is_got, values_of}
use Rattle.records.specs.Values.{View}
use Rattle.records.specs.Layouts.{view}
use Rattle.manifest.specs.Checks.{all, table_passes, ascend, starts}
use Rattle.incremental_progress.specs.Gaps.{gap_entries, run_gaps}
use Rattle.commit_durable.specs.Tables.{job_gaps}
use Rattle.commit_entries.specs.Planned.{PlannedMore}
use Rattle.commit_entries.specs.declared.Plan.{Plan}
use Rattle.commit_plan.specs.Views.{gap_bucket}

-- n views, one after another
abbrev pub views_at : List ℕ → ℕ → ℕ → List View
views_at s first n = values_of (read_many view.read n (drop first s))

-- what is left of them is planned
abbrev pub PlannedViews : List ℕ → List ℕ → List ℕ → List View → Plan → List ℕ → Plan → List ℕ → Type 0
PlannedViews image job ids vs p d q t =
    PlannedMore image job ids (flat_map (gap_entries (job_gaps job)) vs) (map gap_bucket (run_gaps (job_gaps job) vs)) p d q t

-- they are there, and passed the checks 5 and 6
pub record RunReady (s : List ℕ) (first n : ℕ) : Type 0 where
  pub small : length s ≤ 262144
  pub bytes : Bytes s
  pub within : first ≤ length s
  pub most : n ≤ 1024
  pub there : T (is_got (read_many view.read n (drop first s)))
  pub tables : all table_passes (views_at s first n) ≡ true
  pub order : ascend (starts (views_at s first n)) ≡ true
