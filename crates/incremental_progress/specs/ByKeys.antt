-- Checks 11 and 12 by the keys that ranges hold, as document 01 has them, and what check 12 is for.
use Rattle.std.specs.Prelude.{ℕ, ◌≡◌, ◌↔◌, true, false, List, [], ◌∷◌}
use Rattle.std.proofs.Math.Option.{some}
use Rattle.base.specs.Bytes.{Bytes}
use Rattle.base.specs.Outcome.{answer}
use Rattle.key.specs.Order.{Key, key_at_most}
use Rattle.comparable_range.specs.Range.{holds}
use Rattle.format.specs.Whole.{whole}
use Rattle.records.specs.Values.{Table, View, Run, Image, Part, Job}
use Rattle.records.specs.Layouts.{image, job}
use Rattle.manifest.specs.Ranges.{own, effective}
use Rattle.manifest.specs.Checks.{image_checks, job_checks}
use Rattle.incremental_progress.specs.Intervals.{any_holds}
use Rattle.incremental_progress.specs.Parts.{intervals}
use Rattle.incremental_progress.specs.Jobs.{is_output, others}
use Rattle.incremental_progress.specs.Checks.{outputs_in_order, output_views_covered}
use Rattle.incremental_progress.specs.Entries.{run_entries}
use Rattle.incremental_progress.specs.Laws.{JobPasses}
use Rattle.incremental_progress.specs.Members.{In}

-- ---- "11. An output lacks a last key, is not wholly inside its planned range, or starts below the last key of its part's
-- previous output."
-- an output with a last key, whose every key its planned range holds
pub record LiesInPlan (p : Part) (t : Table) : Type 0 where
  pub last : Key
  pub last_is : t.last ≡ some last
  pub inside : (x : Key) → holds (own t) x ≡ true → holds p.planned x ≡ true

-- outputs of which none starts below the last key of the one before it
pub data InTurn : List Table → Type 0 where
  none_listed : InTurn []
  one_listed : {t : Table} → InTurn (t ∷ [])
  next_listed : {t u : Table} {ts : List Table} → ((l : Key) → t.last ≡ some l → key_at_most l u.first ≡ true) → InTurn (u ∷ ts) → InTurn (t ∷ u ∷ ts)

pub record OutputsLie (p : Part) : Type 0 where
  pub each : (t : Table) → In t p.outputs → LiesInPlan p t
  pub in_turn : InTurn p.outputs

-- of a job that passes check 5
abbrev pub CheckElevenByKeys : Type 0
CheckElevenByKeys =
    (j : Job) → (job_checks j).tables ≡ true → (outputs_in_order j ≡ true) ↔ ((p : Part) → In p j.parts → OutputsLie p)

-- ---- "12. A destination view of an output table holds some key that lies in no durable interval."
pub record Uncovered (i : Image) (j : Job) : Type 0 where
  pub run : Run
  pub of_image : In run i
  pub destination : run.id ≡ j.destination
  pub view : View
  pub of_run : In view run.views
  pub output : is_output j.parts view.table ≡ true
  pub key : Key
  pub of_bytes : Bytes key
  pub held : holds (effective view) key ≡ true
  pub outside : any_holds (intervals j.parts) key ≡ false

-- of an image and a job that are read from bytes and pass the checks before it
abbrev pub CheckTwelveByKeys : Type 0
CheckTwelveByKeys =
    (given record' : List ℕ) (i : Image) (j : Job)
    → Bytes given
    → Bytes record'
    → whole image.read given ≡ answer i
    → whole job.read record' ≡ answer j
    → (image_checks i).tables ≡ true
    → JobPasses j
    → (output_views_covered i j ≡ false) ↔ Uncovered i j

-- ---- "Views of the job's output tables already in the destination are replaced": where check 12 passes nothing of them
-- would be left, so that dropping them first changes nothing
abbrev pub ReplacedViewsLeaveNothing : Type 0
ReplacedViewsLeaveNothing =
    (i : Image) (j : Job) (r : Run)
    → output_views_covered i j ≡ true
    → In r i
    → r.id ≡ j.destination
    → run_entries (intervals j.parts) (others j.parts r.views) ≡ run_entries (intervals j.parts) r.views
