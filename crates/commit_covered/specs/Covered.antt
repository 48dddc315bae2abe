-- Check 12 by gaps: nothing of a destination view of an output table lies in a gap between durable intervals.
use Rattle.std.specs.Prelude.{ℕ, ◌≤◌, ◌≡◌, Bool, true, not, ◌||◌, List, T, eqb, length, drop}
use Rattle.comparable_range.specs.Range.{Range}
use Rattle.records.specs.Form.{read_many}
use Rattle.records.specs.Found.{is_got, values_of}
use Rattle.records.specs.Layouts.{view}
use Rattle.records.specs.Values.{View, Image, Part, Job}
use Rattle.manifest.specs.Ranges.{effective}
use Rattle.manifest.specs.Checks.{all, table_passes, ascend, starts}
use Rattle.incremental_progress.specs.Gaps.{pieces}
use Rattle.incremental_progress.specs.Checks.{nothing_left}
use Rattle.incremental_progress.specs.Jobs.{is_output}

-- n views of a run stand at a place of the image s, and pass the checks 5 and 6
pub record ViewsHere (s : List ℕ) (first n : ℕ) : Type 0 where
  pub inside : first ≤ length s
  pub there : T (is_got (read_many view.read n (drop first s)))
  pub tables : all table_passes (values_of (read_many view.read n (drop first s))) ≡ true
  pub order : ascend (starts (values_of (read_many view.read n (drop first s)))) ≡ true

-- nothing of the view lies in a gap
unfoldable pub covered_in : List Range → View → Bool
covered_in gs v = nothing_left (pieces gs (effective v))

-- of the views of one run
unfoldable pub views_covered : List Range → List Part → List View → Bool
views_covered gs ps vs = all (λ v. not (is_output ps v.table) || covered_in gs v) vs

-- of an image
unfoldable pub covered_by : List Range → Image → Job → Bool
covered_by gs i j = all (λ r. not (eqb r.id j.destination) || views_covered gs j.parts r.views) i
