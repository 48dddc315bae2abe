-- What it means that a commit is planned. The image is read from the bytes `given`, the job from the bytes `record`.
use Rattle.std.specs.Prelude.{ℕ, ◌+◌, ◌-◌, ◌*◌, ◌≤◌, ◌≡◌, true, ◌&&◌, leb, length, drop}
use mathlib.Core.List.{List, [], ◌++◌, map, flat_map}
use Rattle.base.specs.Bytes.{Bytes}
use Rattle.base.specs.Pick.{pick}
use Rattle.base.specs.Rows.{RowsHold}
use Rattle.base.specs.Splice.{splice}
use Rattle.format.specs.Got.{got}
use Rattle.records.specs.Values.{Run, Image, Job}
use Rattle.records.specs.Layouts.{run}
use Rattle.records.specs.Spans.{ids_in}
use Rattle.manifest.specs.Checks.{all, image_checks}
use Rattle.commit_index.specs.Index.{image_of}
use Rattle.commit_index.specs.declared.runs.IndexedRun.{IndexedRun}
use Rattle.incremental_progress.specs.Entries.{part_entries}
use Rattle.incremental_progress.specs.Gaps.{run_gaps}
use Rattle.incremental_progress.specs.Plans.{is_source_of, by_kind, run_draws, draw_entries, view_count, image_length}
use Rattle.incremental_progress.specs.Plans as plans
use Rattle.commit_rows.specs.Numbers.{run_of, run_numbers}
use Rattle.commit_rows.specs.declared.runs.RunKind.{RunKind}
use Rattle.commit_rows.specs.declared.runs.RunKind.TheVariants.{Other, Source, Destination}
use Rattle.commit_rows.specs.declared.runs.RunRow.{RunRow}
use Rattle.commit_durable.specs.Tables.{job_of, GapsHold}
use Rattle.commit_gaps.specs.Ordered.{GapsOrdered}
use Rattle.commit_entries.specs.Planned.{PlanReady, Planned, PlannedMore}
use Rattle.commit_entries.specs.declared.Plan.{Plan}
use Rattle.commit_outputs.specs.Outputs.{output_buckets}
use Rattle.commit_plan.specs.Views.{gap_bucket}
use Rattle.commit_plan.specs.Runs.{views_at}
use Rattle.commit_plan.specs.declared.plan.PlanHead.{PlanHead}
use Rattle.commit_plan.specs.declared.plan.ImagePlan.{ImagePlan}
use Rattle.commit_plan.specs.declared.plan.RunPlanned.{RunPlanned}
use Rattle.commit_plan.specs.declared.plan.RunSize.{RunSize}

-- ---- a run
abbrev pub kind_of : Job → Run → RunKind
kind_of j r = by_kind j r Destination Source Other

-- x stands for the run of the old image, with what the commit does with it
pub record RunHeld (given : List ℕ) (j : Job) (r : Run) (x : RunRow) : Type 0 where
  pub id : x.id ≡ r.id
  pub kind : x.kind ≡ kind_of j r
  pub rows : x.rows ≡ length (run_draws j r)
  pub at : ℕ
  pub first : x.first ≡ at + 6
  pub past : x.past ≤ length given
  pub is : run.read (drop at given) ≡ got r (drop x.past given)

abbrev pub RunMade : List ℕ → Job → Run → List ℕ → Type 0
RunMade given j r row = RunHeld given j r (run_of row)

-- the gaps that its entries lie in
unfoldable pub run_buckets : Job → Run → List ℕ
run_buckets j r = pick (is_source_of j r.id) (map gap_bucket (run_gaps (plans.job_gaps j) r.views)) []

-- the buckets of all entries, in the order in which they are drawn
abbrev pub draw_buckets : Job → Image → List ℕ
draw_buckets j i = output_buckets 0 j.parts ++ flat_map (run_buckets j) i

-- ---- what planning the runs needs
-- head tells of the job
pub record HeadHeld (record' : List ℕ) (h : PlanHead) : Type 0 where
  pub destination : h.destination ≡ (job_of record').destination
  pub sources : ids_in h.sources (drop h.from record') ≡ (job_of record').sources
  pub sources_within : h.from + 4 * h.sources ≤ length record'

pub record GapsReady (record' gap_table : List ℕ) (h : PlanHead) : Type 0 where
  pub small : length record' ≤ 262144
  pub hold : GapsHold record' h.gaps gap_table
  pub ordered : GapsOrdered record'

-- the image passed the checks 5 and 6
pub record ImagePassed (given : List ℕ) : Type 0 where
  pub small : length given ≤ 262144
  pub bytes : Bytes given
  pub tables : (image_checks (image_of given)).tables ≡ true
  pub order : (image_checks (image_of given)).order ≡ true

-- the outputs are planned
pub record OutputsPlanned (given record' ids rows : List ℕ) (p : Plan) : Type 0 where
  pub planned : Planned given record' ids (flat_map part_entries (job_of record').parts) (output_buckets 0 (job_of record').parts) rows p
  pub ready : PlanReady ids 65536 p

-- ---- one run
-- the run that stands where the index says
abbrev pub run_in : List ℕ → IndexedRun → Run
run_in given x = record { id = x.id; views = views_at given x.first x.views }

pub record RunPlannedMore (given record' ids : List ℕ) (x : IndexedRun) (p : Plan) (d : List ℕ) (q : RunPlanned) (t : List ℕ) : Type 0 where
  pub kind : q.kind ≡ kind_of (job_of record') (run_in given x)
  pub more : PlannedMore given record' ids (run_draws (job_of record') (run_in given x)) (run_buckets (job_of record') (run_in given x)) p d q.plan t

-- its size, if its rows took a plan from p to q
abbrev pub size_by : RunKind → IndexedRun → Plan → Plan → Plan → RunSize
size_by Other x p q o = record { views = x.views; bytes = x.past - x.first }
size_by Source x p q o = record { views = q.rows - p.rows; bytes = q.bytes - p.bytes }
size_by Destination x p q o = record { views = q.rows - p.rows + o.rows; bytes = q.bytes - p.bytes + o.bytes }

pub record SizeReady (x : IndexedRun) (p q o : Plan) : Type 0 where
  pub rows : p.rows ≤ q.rows
  pub bytes : p.bytes ≤ q.bytes
  pub place : x.first ≤ x.past
  pub few : q.rows ≤ 8388608
  pub short : q.bytes ≤ q.rows * 1048576
  pub few_outputs : o.rows ≤ 65536
  pub short_outputs : o.bytes ≤ o.rows * 1048576

pub record CountReady (x : IndexedRun) (a : ImagePlan) (one : RunPlanned) (o : Plan) : Type 0 where
  pub size : SizeReady x a.plan one.plan o
  pub small : x.past ≤ 262144
  pub bytes : a.bytes ≤ 4611686018427387904

pub record RunCounted (k : ℕ) (x : IndexedRun) (one : RunPlanned) (a : ImagePlan) (o : Plan) (d : List ℕ) (r : ImagePlan) (t : List ℕ) : Type 0 where
  pub is :
      r
      ≡ record {
        plan = one.plan;
        outputs = a.outputs;
        bytes = a.bytes + 6 + (size_by one.kind x a.plan one.plan o).bytes;
        fits = a.fits && leb (size_by one.kind x a.plan one.plan o).views 1024;
      }
  pub put :
      t
      ≡ splice d (k * 6)
      (run_numbers (record { id = x.id; views = x.views; first = x.first; past = x.past; kind = one.kind; rows = one.plan.rows - a.plan.rows }))

-- ---- the commit
pub record CommitPlanned (given record' ids rows runs : List ℕ) (q : ImagePlan) : Type 0 where
  pub planned : Planned given record' ids (draw_entries (job_of record') (image_of given)) (draw_buckets (job_of record') (image_of given)) rows q.plan
  pub outputs : q.outputs ≡ length (flat_map part_entries (job_of record').parts)
  pub bytes : q.bytes ≡ image_length (job_of record') (image_of given)
  pub fits : q.fits ≡ all (λ r. leb (view_count (job_of record') r) 1024) (image_of given)
  pub runs_are : RowsHold 6 (RunMade given (job_of record')) (image_of given) runs
