-- Demand 3, on bytes: one claim about any list of commits. Quoted words are the demand's, or document 01's on it.
use Rattle.std.specs.Prelude.{ℕ, ◌≡◌, Bool, List, [], ◌∷◌, map}
use Rattle.std.proofs.Math.Option.{Option, none, some}
use Rattle.base.specs.Bytes.{Bytes}
use Rattle.base.specs.Outcome.{Outcome, stop, answer}
use Rattle.base.specs.Pick.{pick}
use Rattle.key.specs.Order.{Key}
use Rattle.format.specs.Whole.{whole}
use Rattle.records.specs.Values.{Table, Run, Image, Job}
use Rattle.records.specs.Layouts.{run, image, job}
use Rattle.manifest.specs.Checks.{has}
use Rattle.incremental_progress.specs.Views.{shown}
use Rattle.incremental_progress.specs.Jobs.{commit_runs, LaterJob, expected}
use Rattle.incremental_progress.specs.Commit.{commit_outcome}
use Rattle.incremental_progress.specs.Patterns.{image_pattern, Fits, AlikeBut}

-- "each has its own job, id supply and output buffer": of the buffer, the length is all that counts
pub record Step : Type 0 where
  pub record' : List ℕ
  pub ids : List ℕ
  pub room : ℕ

-- the records hold bytes, numbers below 256
pub data OfBytes : List Step → Type 0 where
  no_step : OfBytes []
  one_step : {s : Step} {ss : List Step} → Bytes s.record' → OfBytes ss → OfBytes (s ∷ ss)

-- what the public call `commit` answers, on an image
abbrev pub commit_step : List ℕ → Step → Outcome (List ℕ)
commit_step given s = commit_outcome given s.record' s.ids s.room

-- "A refused one .. hands the image on as it was"
abbrev pub handed_on : List ℕ → Outcome (List ℕ) → List ℕ
handed_on given (stop n) = given
handed_on given (answer new) = new

-- "each is given the image that the last accepted one wrote"; "a commit with none accepted before it reads the first image"
unfoldable pub after : List ℕ → List Step → List ℕ
after given [] = given
after given (s ∷ ss) = after (handed_on given (commit_step given s)) ss

-- "A record is the job as a commit is given it": those accepted, in order
abbrev pub recorded : List ℕ → Outcome (List ℕ) → List (List ℕ) → List (List ℕ)
recorded r (stop n) rs = rs
recorded r (answer new) rs = r ∷ rs

unfoldable pub accepted : List ℕ → List Step → List (List ℕ)
accepted given [] = []
accepted given (s ∷ ss) = recorded s.record' (commit_step given s) (accepted (handed_on given (commit_step given s)) ss)

abbrev pub last_of : {A : Type 0} → List A → Option A
last_of [] = none
last_of (a ∷ []) = some a
last_of (a ∷ b ∷ bs) = last_of (b ∷ bs)

-- "A later record of a job has the same destination, sources and planned ranges, output lists that begin with the earlier
-- ones, and keeps every completed part completed"
pub record LaterRecord (l m : List ℕ) : Type 0 where
  pub earlier : Job
  pub later : Job
  pub earlier_is : whole job.read l ≡ answer earlier
  pub later_is : whole job.read m ≡ answer later
  pub is : LaterJob earlier later

-- "each accepted record is a later one of that accepted before it"
pub data EachLater : List (List ℕ) → Type 0 where
  none_yet : EachLater []
  only : {r : List ℕ} → EachLater (r ∷ [])
  and-then : {l m : List ℕ} {rs : List (List ℕ)} → LaterRecord l m → EachLater (m ∷ rs) → EachLater (l ∷ m ∷ rs)

-- "an untouched run keeps every byte of its head and views": the bytes of a run that is no source, and nothing of a source
abbrev pub other_bytes : Job → Run → Option (List ℕ)
other_bytes j r = pick (has r.id j.sources) none (some (run.write r))

-- the two halves, of the first image, the image after the list, and the last accepted record
pub record Stands (first last record' : List ℕ) : Type 0 where
  -- the values that the bytes stand for
  pub before : Image
  pub now : Image
  pub progress : Job
  pub before_is : whole image.read first ≡ answer before
  pub now_is : whole image.read last ≡ answer now
  pub progress_is : whole job.read record' ≡ answer progress
  -- no run comes or goes
  pub runs : map (λ r. r.id) now ≡ map (λ r. r.id) before
  -- "for every byte key, of the job's source runs only the destination shows the key inside a durable interval of the last
  -- accepted record, through exactly that record's output tables that hold it; outside all those intervals, each shows it
  -- through the same tables, each as many times, as in the first image": however tables are chosen, by all their fields
  pub shows : (q : Table → Bool) (x : Key) → map (λ r. shown q x r.views) now ≡ map (λ r. expected progress r.id q x (shown q x r.views)) before
  -- "Other runs are untouched, byte for byte"
  pub others : map (other_bytes progress) now ≡ map (other_bytes progress) before
  -- "bit for bit, the one that the last accepted record, committed alone, makes of the first image, but for the random bits
  -- of new view ids, if that commit is not refused": the pattern leaves open the last 10 bytes of each id that the record
  -- committed on the first image draws, and nothing else
  pub alone :
      (ids : List ℕ) (room : ℕ) (new : List ℕ)
      → commit_outcome first record' ids room ≡ answer new
      → AlikeBut (image_pattern (commit_runs progress before)) last new
  -- the same where the record committed alone would be refused
  pub fits : Fits (image_pattern (commit_runs progress before)) last

-- "With none accepted, the first image stands"
abbrev pub StandsBy : List ℕ → List ℕ → Option (List ℕ) → Type 0
StandsBy first last none = last ≡ first
StandsBy first last (some r) = Stands first last r

-- "Take any list of commits, refused ones included, from any image": the image and the records hold bytes, as every slice
-- that a call is lent does
unfoldable pub Demand3 : Type 0
Demand3 =
    (first : List ℕ) (steps : List Step)
    → Bytes first
    → OfBytes steps
    → EachLater (accepted first steps)
    → StandsBy first (after first steps) (last_of (accepted first steps))
