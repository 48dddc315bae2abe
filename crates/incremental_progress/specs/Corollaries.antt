-- What demand 3 says to a user, on bytes: one statement for each part of it.
use Rattle.std.specs.Prelude.{ℕ, ◌≡◌, Bool, true, false, List, [], ◌∷◌, ◌++◌, map, eqb}
use Rattle.std.proofs.Math.Option.{Option, none, some}
use Rattle.base.specs.Bytes.{Bytes}
use Rattle.base.specs.Outcome.{answer}
use Rattle.base.specs.Pick.{pick}
use Rattle.key.specs.Order.{Key}
use Rattle.format.specs.Whole.{whole}
use Rattle.records.specs.Values.{Table, View, Run, Image, Part, Job}
use Rattle.records.specs.Layouts.{run, image, job}
use Rattle.manifest.specs.Checks.{has}
use Rattle.incremental_progress.specs.Intervals.{any_holds}
use Rattle.incremental_progress.specs.Views.{shown}
use Rattle.incremental_progress.specs.Parts.{last_written, intervals, listed_in}
use Rattle.incremental_progress.specs.Jobs.{commit_runs}
use Rattle.incremental_progress.specs.Commit.{commit_outcome}
use Rattle.incremental_progress.specs.Demand.{Step, OfBytes, after, accepted, last_of, EachLater}
use Rattle.incremental_progress.specs.DemandLaws.{part_at}
use Rattle.incremental_progress.specs.OpenPlaces.{DifferInDrawnBits}

-- the run with an id
unfoldable pub run_of : ℕ → Image → Option Run
run_of n [] = none
run_of n (r ∷ rs) = pick (eqb n r.id) (some r) (run_of n rs)

-- of the runs, the first with its id
abbrev pub RunsGoByTheirId : Type 0
RunsGoByTheirId = (rs ss : Image) (r : Run) → has r.id (map (λ s. s.id) rs) ≡ false → run_of r.id (rs ++ (r ∷ ss)) ≡ some r

-- its views: "A run not in the image shows no key"
abbrev views_in : Option Run → List View
views_in none = []
views_in (some r) = r.views

abbrev pub views_of : ℕ → Image → List View
views_of n i = views_in (run_of n i)

-- the bytes of its head and views
abbrev bytes_in : Option Run → Option (List ℕ)
bytes_in none = none
bytes_in (some r) = some (run.write r)

abbrev pub bytes_of : ℕ → Image → Option (List ℕ)
bytes_of n i = bytes_in (run_of n i)

-- a list of commits from a first image, each accepted record a later one of that accepted before it; the last accepted
pub record CommitList (first : List ℕ) (steps : List Step) (record' : List ℕ) : Type 0 where
  pub bytes : Bytes first
  pub records : OfBytes steps
  pub later : EachLater (accepted first steps)
  pub last : last_of (accepted first steps) ≡ some record'

-- what the first image, the image after the list and the last accepted record are read as
pub record ReadAs (first last record' : List ℕ) (before now : Image) (progress : Job) : Type 0 where
  pub before_is : whole image.read first ≡ answer before
  pub now_is : whole image.read last ≡ answer now
  pub progress_is : whole job.read record' ≡ answer progress

-- All three can be read, and no run comes or goes.
pub record SameRuns (first last record' : List ℕ) : Type 0 where
  pub before : Image
  pub now : Image
  pub progress : Job
  pub read_as : ReadAs first last record' before now progress
  pub runs : map (λ r. r.id) now ≡ map (λ r. r.id) before

abbrev pub NoRunComesOrGoes : Type 0
NoRunComesOrGoes = (first : List ℕ) (steps : List Step) (record' : List ℕ) → CommitList first steps record' → SameRuns first (after first steps) record'

-- an unfinished part of a record, with the last key of its last output
pub record Unfinished (progress : Job) (b : Key) : Type 0 where
  pub place : ℕ
  pub part : Part
  pub there : part_at place progress.parts ≡ some part
  pub incomplete : part.completed ≡ false
  pub ends : last_written part.outputs ≡ some b

-- The last written key of an unfinished part lies in no durable interval of a record that a commit accepts.
abbrev pub LastWrittenKeyIsOutside : Type 0
LastWrittenKeyIsOutside =
    (given record' ids : List ℕ) (room : ℕ) (new : List ℕ) (progress : Job) (b : Key)
    → commit_outcome given record' ids room ≡ answer new
    → whole job.read record' ≡ answer progress
    → Unfinished progress b
    → any_holds (intervals progress.parts) b ≡ false

-- Each source run shows it through the same tables and as often as in the first image.
abbrev pub LastWrittenKeyStays : Type 0
LastWrittenKeyStays =
    (first : List ℕ) (steps : List Step) (record' : List ℕ) (before now : Image) (progress : Job)
    → CommitList first steps record'
    → ReadAs first (after first steps) record' before now progress
    → (b : Key)
    → Unfinished progress b
    → (n : ℕ)
    → has n progress.sources ≡ true
    → (q : Table → Bool)
    → shown q b (views_of n now) ≡ shown q b (views_of n before)

-- So with every key outside the durable intervals, in every run.
abbrev pub OutsideStays : Type 0
OutsideStays =
    (first : List ℕ) (steps : List Step) (record' : List ℕ) (before now : Image) (progress : Job)
    → CommitList first steps record'
    → ReadAs first (after first steps) record' before now progress
    → (x : Key)
    → any_holds (intervals progress.parts) x ≡ false
    → (n : ℕ) (q : Table → Bool)
    → shown q x (views_of n now) ≡ shown q x (views_of n before)

-- A key inside a durable interval is shown by the destination alone: as often as the record's listings hold it, and by
-- the other sources not at all.
pub record ByTheDestination (now : Image) (progress : Job) (x : Key) (q : Table → Bool) : Type 0 where
  pub destination : shown q x (views_of progress.destination now) ≡ listed_in q x progress.parts
  pub other_sources : (n : ℕ) → has n progress.sources ≡ true → (n ≡ progress.destination → ⊥) → shown q x (views_of n now) ≡ 0

abbrev pub InsideIsTheDestinations : Type 0
InsideIsTheDestinations =
    (first : List ℕ) (steps : List Step) (record' : List ℕ) (before now : Image) (progress : Job)
    → CommitList first steps record'
    → ReadAs first (after first steps) record' before now progress
    → (x : Key)
    → any_holds (intervals progress.parts) x ≡ true
    → (q : Table → Bool)
    → ByTheDestination now progress x q

-- A run that is no source keeps its bytes.
abbrev pub OtherRunsKeepTheirBytes : Type 0
OtherRunsKeepTheirBytes =
    (first : List ℕ) (steps : List Step) (record' : List ℕ) (before now : Image) (progress : Job)
    → CommitList first steps record'
    → ReadAs first (after first steps) record' before now progress
    → (n : ℕ)
    → has n progress.sources ≡ false
    → bytes_of n now ≡ bytes_of n before

-- The last accepted record, committed on the first image alone, leaves the same bytes but for drawn bits, ..
abbrev pub AsIfAlone : Type 0
AsIfAlone =
    (first : List ℕ) (steps : List Step) (record' : List ℕ) (before now : Image) (progress : Job)
    → CommitList first steps record'
    → ReadAs first (after first steps) record' before now progress
    → (ids : List ℕ) (room : ℕ) (new : List ℕ)
    → commit_outcome first record' ids room ≡ answer new
    → DifferInDrawnBits (commit_runs progress before) (after first steps) new

-- .. and so does any other list of commits from that image that ends with it.
abbrev pub AnyWayThere : Type 0
AnyWayThere =
    (first : List ℕ) (steps others : List Step) (record' : List ℕ) (before now : Image) (progress : Job)
    → CommitList first steps record'
    → CommitList first others record'
    → ReadAs first (after first steps) record' before now progress
    → DifferInDrawnBits (commit_runs progress before) (after first steps) (after first others)

-- With none accepted, nothing changes.
abbrev pub NoneAcceptedNothingChanges : Type 0
NoneAcceptedNothingChanges = (first : List ℕ) (steps : List Step) → Bytes first → OfBytes steps → accepted first steps ≡ [] → after first steps ≡ first
