-- What holds of the ranges that `from_compaction` answers. Keys are of any length.
use Rattle.std.specs.Prelude.{ℕ, ◌≤◌, ◌≡◌, true, false, List, length}
use Rattle.std.proofs.Math.Option.{some}
use Rattle.base.specs.Bytes.{Bytes}
use Rattle.base.specs.Lists.{All, Pairwise}
use Rattle.base.specs.Outcome.{answer}
use Rattle.key.specs.Order.{Key}
use Rattle.comparable_range.specs.Range.{excluded, non_empty, holds}
use Rattle.comparable_range.specs.Cut.{◌≼◌, start_cut, end_cut}
use Rattle.format.specs.Whole.{whole}
use Rattle.records.specs.Values.{Part, Job, Plan}
use Rattle.records.specs.Layouts.{job, plan}
use Rattle.incremental_progress.specs.Intervals.{any_holds, bit, times}
use Rattle.incremental_progress.specs.Parts.{key_of, last_written, is_key, intervals}
use Rattle.incremental_progress.specs.Jobs.{LaterJob}
use Rattle.incremental_progress.specs.Commit.{commit_outcome}
use Rattle.incremental_progress.specs.Laws.{JobPasses}
use Rattle.incremental_progress.specs.DemandLaws.{part_at}
use Rattle.incremental_progress.specs.Corollaries.{Unfinished}
use Rattle.incremental_progress.specs.Members.{In}
use Rattle.from_compaction.specs.ProgressCalls.{from_compaction, progress_made, from_compaction_outcome}

-- ---- which keys the ranges hold
-- a key that lies in a durable interval is held by one of them, and any other by none
abbrev pub DurableKeysAreHeldOnce : Type 0
DurableKeysAreHeldOnce = (j : Job) → JobPasses j → (x : Key) → times x (from_compaction j) ≡ bit (any_holds (intervals j.parts) x)

-- The last written key of an unfinished part is in none of them.
abbrev pub LastWrittenKeyIsInNone : Type 0
LastWrittenKeyIsInNone = (j : Job) → JobPasses j → (b : Key) → Unfinished j b → All (λ r. holds r b ≡ false) (from_compaction j)

-- ---- how many there are, and how they lie
abbrev pub AtMostOneAPart : Type 0
AtMostOneAPart = (j : Job) → length (from_compaction j) ≤ length j.parts

-- each ends at or before the start of each later one
abbrev pub IntervalsAnsweredAscend : Type 0
IntervalsAnsweredAscend = (j : Job) → JobPasses j → Pairwise (λ r q. end_cut r.end ≼ start_cut q.start) (from_compaction j)

abbrev pub IntervalsAnsweredPass : Type 0
IntervalsAnsweredPass = (j : Job) → JobPasses j → All (λ r. non_empty r ≡ true) (from_compaction j)

-- ---- what each part answers
-- completed, its planned range, bound for bound
abbrev pub CompletedPartsAnswerTheirPlan : Type 0
CompletedPartsAnswerTheirPlan =
    (j : Job) → JobPasses j → (n : ℕ) (p : Part) → part_at n j.parts ≡ some p → p.completed ≡ true → In p.planned (from_compaction j)

-- unfinished, the same start, and for its end the last written key, excluded; unless that key is the start
abbrev pub UnfinishedPartsAnswerUpToTheirLastKey : Type 0
UnfinishedPartsAnswerUpToTheirLastKey =
    (j : Job)
    → JobPasses j
    → (n : ℕ) (p : Part) (b : Key)
    → part_at n j.parts ≡ some p
    → p.completed ≡ false
    → last_written p.outputs ≡ some b
    → is_key (key_of p.planned.start) b ≡ false
    → In (record { start = p.planned.start; end = excluded b }) (from_compaction j)

-- ---- records one after another, and committed
-- a key that a range of a record's answer holds is held by one of each later record's
abbrev pub LaterAnswersHoldMore : Type 0
LaterAnswersHoldMore =
    (i j : Job) → LaterJob i j → JobPasses i → JobPasses j → (x : Key) → times x (from_compaction i) ≡ 1 → times x (from_compaction j) ≡ 1

-- A record that a commit accepts is answered: the ranges are those that the commit made the destination's.
abbrev pub CommittedRecordsAreAnswered : Type 0
CommittedRecordsAreAnswered =
    (given record' ids : List ℕ) (room : ℕ) (new : List ℕ) (progress : Job)
    → commit_outcome given record' ids room ≡ answer new
    → whole job.read record' ≡ answer progress
    → progress_made record' ≡ answer (from_compaction progress)

-- ---- of what the call answers, on any bytes
-- The bytes are the layout of a plan and are read back as that plan, the job's, and all of the above holds of it.
pub record ProgressAnswered (l b : List ℕ) : Type 0 where
  pub progress : Job
  pub progress_is : whole job.read l ≡ answer progress
  pub passes : JobPasses progress
  pub ranges : Plan
  pub are : ranges ≡ from_compaction progress
  pub is : b ≡ plan.write ranges
  pub reads_back : whole plan.read b ≡ answer ranges
  pub no_longer : length b ≤ length l
  pub most : length ranges ≤ 64
  pub one_a_part : length ranges ≤ length progress.parts
  pub pass : All (λ r. non_empty r ≡ true) ranges
  pub in_order : Pairwise (λ r q. end_cut r.end ≼ start_cut q.start) ranges
  pub held_once : (x : Key) → times x ranges ≡ bit (any_holds (intervals progress.parts) x)
  pub last_key_in_none : (b : Key) → Unfinished progress b → All (λ r. holds r b ≡ false) ranges
  pub completed : (n : ℕ) (p : Part) → part_at n progress.parts ≡ some p → p.completed ≡ true → In p.planned ranges

abbrev pub EachProgressAnswered : Type 0
EachProgressAnswered = (l : List ℕ) (room : ℕ) (b : List ℕ) → Bytes l → from_compaction_outcome l room ≡ answer b → ProgressAnswered l b
