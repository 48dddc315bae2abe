-- A commit's outcome after the checks 1 to 7, as the code goes through it.
use Rattle.std.specs.Prelude.{ℕ, ◌+◌, ◌*◌, ◌≤◌, ◌≡◌, true, T, length, get_or, drop}
use mathlib.Core.List.{List, [], ◌∷◌, flat_map}
use Rattle.base.specs.Bytes.{Bytes}
use Rattle.base.specs.Pick.{pick}
use Rattle.base.specs.Outcome.{Outcome, check, and_then, written_to}
use Rattle.format.specs.Got.{is_got}
use Rattle.records.specs.Values.{Image, Job}
use Rattle.records.specs.Layouts.{image}
use Rattle.records.specs.Spans.{ids_in}
use Rattle.manifest.specs.Checks.{job_checks}
use Rattle.incremental_progress.specs.Draws.{Drawn, supply}
use Rattle.incremental_progress.specs.Gaps.{gap_commit}
use Rattle.incremental_progress.specs.Checks.{destination_is_source, sources_there, planned_in_order, outputs_in_order}
use Rattle.incremental_progress.specs.Commit.{drawn_image, applied}
use Rattle.incremental_progress.specs.Jobs.{outputs}
use Rattle.incremental_progress.specs.Plans.{draw_entries, image_length}
use Rattle.incremental_progress.specs.Laws.{JobPasses}
use Rattle.commit_index.specs.Index.{image_of, IndexHold}
use Rattle.commit_durable.specs.Tables.{job_of, job_gaps, PartsHold}
use Rattle.commit_durable.specs.Faults.{parts_fault}
use Rattle.commit_durable.specs.declared.jobs.JobHead.{JobHead}
use Rattle.commit_covered.specs.Covered.{covered_by}
use Rattle.commit_plan.specs.Plans.{ImagePassed, CommitPlanned}
use Rattle.commit_plan.specs.declared.plan.ImagePlan.{ImagePlan}
use Rattle.commit.specs.declared.stages.StageHead.{StageHead}

-- from check 14 on, into a buffer of `room` bytes
unfoldable pub drawn_outcome : Drawn Image → ℕ → Outcome (List ℕ)
drawn_outcome d room = and_then (drawn_image d) (λ new. written_to room (image.write new))

-- of the image and the job that were read
abbrev pub planned_outcome : List ℕ → List ℕ → List ℕ → ℕ → Outcome (List ℕ)
planned_outcome given record' ids room = drawn_outcome (gap_commit (job_of record') (image_of given) (supply ids)) room

-- from check 12 on
abbrev pub covered_outcome : List ℕ → List ℕ → List ℕ → ℕ → Outcome (List ℕ)
covered_outcome given record' ids room = check 12 (covered_by (job_gaps record') (image_of given) (job_of record')) (planned_outcome given record' ids room)

-- from check 8 on
unfoldable pub applied_outcome : Image → Job → List ℕ → ℕ → Outcome (List ℕ)
applied_outcome i j ids room = and_then (applied i j ids) (λ new. written_to room (image.write new))

-- the checks 8 to 11: the number of the first that fails, or 12
unfoldable pub progress_fault : Image → Job → ℕ
progress_fault i j =
    pick (destination_is_source j) (pick (sources_there i j) (pick (planned_in_order j) (pick (outputs_in_order j) 12 11) 10) 9) 8

-- head tells of the job what these checks ask
pub record HeadTold (record' : List ℕ) (h : JobHead) : Type 0 where
  pub destination : h.destination ≡ (job_of record').destination
  pub sources : ids_in h.sources (drop h.from record') ≡ (job_of record').sources
  pub sources_within : h.from + 4 * h.sources ≤ length record'
  pub late : h.late ≡ parts_fault (job_of record').parts

-- ---- what the stages lean on
-- the image and the job were read whole and passed the checks 4 to 7; head, and the tables of runs and of parts, tell of them
pub record Given (given record' index parts : List ℕ) (n : ℕ) (h : JobHead) : Type 0 where
  pub there : T (is_got (image.read given))
  pub passed : ImagePassed given
  pub small_job : length record' ≤ 65536
  pub job_bytes : Bytes record'
  pub ranges : (job_checks (job_of record')).ranges ≡ true
  pub tables : (job_checks (job_of record')).tables ≡ true
  pub runs_are : IndexHold given n index
  pub told : HeadTold record' h
  pub parts_are : PartsHold record' h.parts parts

-- the image passed 5 and 6, the job 4, 5, 8, 10 and 11, and its sources are in the image
pub record Read (given record' : List ℕ) : Type 0 where
  pub there : T (is_got (image.read given))
  pub passed : ImagePassed given
  pub small_job : length record' ≤ 262144
  pub job_bytes : Bytes record'
  pub job : JobPasses (job_of record')
  pub destination : destination_is_source (job_of record') ≡ true
  pub sources : sources_there (image_of given) (job_of record') ≡ true

-- head tells of the job, whose parts stand in a table, and of the image, whose runs do
pub record StageHeld (given record' index parts : List ℕ) (h : StageHead) : Type 0 where
  pub destination : h.destination ≡ (job_of record').destination
  pub sources : ids_in h.sources (drop h.from record') ≡ (job_of record').sources
  pub sources_within : h.from + 4 * h.sources ≤ length record'
  pub parts_are : PartsHold record' h.parts parts
  pub runs_are : IndexHold given h.runs index

-- the sum of number c of each row
unfoldable pub column_sum : ℕ → List (List ℕ) → ℕ
column_sum c [] = 0
column_sum c (row ∷ rows) = get_or row c 0 + column_sum c rows

-- The most rows that its plan may have: a view may have a piece in each gap, of which there is one more than parts.
unfoldable pub rows_at_most : Image → Job → ℕ
rows_at_most i j = length (flat_map (λ r. r.views) i) * (length j.parts + 1) + length (outputs j.parts)

-- there is room for all rows, unless check 15 refuses them
pub record RowsEnough (given record' rows : List ℕ) : Type 0 where
  pub enough : image_length (job_of record') (image_of given) ≤ 65536 → length (draw_entries (job_of record') (image_of given)) * 11 ≤ length rows

-- ---- a commit that is planned
-- its rows are all there, unless check 15 refuses it
pub record Ready (given record' ids runs rows : List ℕ) (a : ImagePlan) : Type 0 where
  pub there : T (is_got (image.read given))
  pub bytes : Bytes given
  pub job_bytes : Bytes record'
  pub planned : CommitPlanned given record' ids rows runs a
  pub room : a.bytes ≤ 65536 → a.plan.rows * 11 ≤ length rows

-- A table for the order of the destination's rows: it has at most 1,024, and no more than there are.
pub record OrderLong (a : ImagePlan) (order : List ℕ) : Type 0 where
  pub enough : (n : ℕ) → n ≤ 1024 → n ≤ a.plan.rows → n ≤ length order

-- and passed the checks 14 and 15
pub record Settled (given record' ids runs rows : List ℕ) (a : ImagePlan) : Type 0 where
  pub ready : Ready given record' ids runs rows a
  pub enough : a.plan.enough ≡ true
  pub fits : a.fits ≡ true
  pub short : a.bytes ≤ 65536
