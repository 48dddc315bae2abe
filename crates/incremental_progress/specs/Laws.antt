-- The promises on commits over values. Their proofs are in proofs/.
use Rattle.std.specs.Prelude.{◌≡◌, true, List}
use Rattle.key.specs.Order.{Key}
use Rattle.records.specs.Values.{Table, Image, Part, Job}
use Rattle.manifest.specs.Checks.{image_checks, job_checks}
use Rattle.incremental_progress.specs.Intervals.{any_holds}
use Rattle.incremental_progress.specs.Parts.{intervals}
use Rattle.incremental_progress.specs.Jobs.{is_output, LaterJob}
use Rattle.incremental_progress.specs.Checks.{planned_in_order, outputs_in_order, retained_meet}

-- the checks on a job alone, but for sizes and that the destination is a source
pub record JobPasses (j : Job) : Type 0 where
  pub ranges : (job_checks j).ranges ≡ true
  pub tables : (job_checks j).tables ≡ true
  pub planned : planned_in_order j ≡ true
  pub outputs : outputs_in_order j ≡ true

-- a key in a durable interval of a record lies in one of each later record
abbrev pub LaterHoldsMore : Type 0
LaterHoldsMore =
    (i j : Job)
    → LaterJob i j
    → JobPasses i
    → JobPasses j
    → (x : Key)
    → any_holds (intervals i.parts) x ≡ true
    → any_holds (intervals j.parts) x ≡ true

-- check 13 passes wherever check 5 does
abbrev pub RetainedAlwaysMeets : Type 0
RetainedAlwaysMeets = (i : Image) (j : Job) → (image_checks i).tables ≡ true → retained_meet i j ≡ true

-- an output table is known by its id alone, in check 12 and where its views are replaced
abbrev pub OutputsGoById : Type 0
OutputsGoById = (ps : List Part) (t u : Table) → t.id ≡ u.id → is_output ps t ≡ is_output ps u
