-- Laws on the words that demand 3 is stated with, one word at a time: how often a key is shown and is to be, what is
-- durable, which records are later ones, and what bytes that fit a pattern are.
use Rattle.std.specs.Prelude.{ℕ, zero, suc, ◌+◌, ◌<◌, ◌≡◌, Bool, true, false, ◌&&◌, ◌||◌, List, [], ◌∷◌, ◌++◌, length, get_or}
use Rattle.std.proofs.Math.Option.{Option, none, some}
use Rattle.base.specs.Outcome.{answer}
use Rattle.key.specs.Order.{Key, key_below}
use Rattle.comparable_range.specs.Range.{start_holds, holds}
use Rattle.format.specs.Whole.{whole}
use Rattle.records.specs.Values.{Table, View, Run, Part, Job}
use Rattle.records.specs.Layouts.{run, job}
use Rattle.manifest.specs.Ranges.{own, effective}
use Rattle.manifest.specs.Checks.{has, is_excluded}
use Rattle.incremental_progress.specs.Intervals.{any_holds}
use Rattle.incremental_progress.specs.Views.{shown}
use Rattle.incremental_progress.specs.Parts.{last_written, intervals, listings, listed_in}
use Rattle.incremental_progress.specs.Jobs.{expected}
use Rattle.incremental_progress.specs.Checks.{is_included}
use Rattle.incremental_progress.specs.Patterns.{Pattern, Fits, AlikeBut}
use Rattle.incremental_progress.specs.Demand.{LaterRecord, EachLater, other_bytes}

-- ---- how often a key is shown
-- one view shows a key once, if its table is of the kind asked for and its effective range holds the key
pub record ViewsAddUp : Type 0 where
  pub once : (q : Table → Bool) (x : Key) (v : View) → q v.table ≡ true → holds (effective v) x ≡ true → shown q x (v ∷ []) ≡ 1
  pub other_table : (q : Table → Bool) (x : Key) (v : View) → q v.table ≡ false → shown q x (v ∷ []) ≡ 0
  pub other_key : (q : Table → Bool) (x : Key) (v : View) → holds (effective v) x ≡ false → shown q x (v ∷ []) ≡ 0
  pub together : (q : Table → Bool) (x : Key) (vs ws : List View) → shown q x (vs ++ ws) ≡ shown q x vs + shown q x ws

-- one listing of an output counts once, if its own range holds the key
pub record ListingsAddUp : Type 0 where
  pub once : (q : Table → Bool) (x : Key) (t : Table) → q t ≡ true → holds (own t) x ≡ true → listings q x (t ∷ []) ≡ 1
  pub other_table : (q : Table → Bool) (x : Key) (t : Table) → q t ≡ false → listings q x (t ∷ []) ≡ 0
  pub other_key : (q : Table → Bool) (x : Key) (t : Table) → holds (own t) x ≡ false → listings q x (t ∷ []) ≡ 0
  pub together : (q : Table → Bool) (x : Key) (ts us : List Table) → listings q x (ts ++ us) ≡ listings q x ts + listings q x us
  pub one_part : (q : Table → Bool) (x : Key) (p : Part) → listed_in q x (p ∷ []) ≡ listings q x p.outputs
  pub parts_together : (q : Table → Bool) (x : Key) (ps rs : List Part) → listed_in q x (ps ++ rs) ≡ listed_in q x ps + listed_in q x rs

-- ---- what is durable, of planned ranges that pass check 10
pub record DurableKeys : Type 0 where
  -- of a completed part, the planned range
  pub completed :
      (p : Part) (x : Key)
      → p.completed ≡ true
      → is_excluded p.planned.start ≡ false
      → is_included p.planned.end ≡ false
      → any_holds (intervals (p ∷ [])) x ≡ holds p.planned x
  -- of an unfinished one, from its planned start up to, without, the last key of its last output
  pub unfinished :
      (p : Part) (x b : Key)
      → p.completed ≡ false
      → is_excluded p.planned.start ≡ false
      → last_written p.outputs ≡ some b
      → any_holds (intervals (p ∷ [])) x ≡ (start_holds p.planned.start x && key_below x b)
  pub last_written : (ts : List Table) (t : Table) → last_written (ts ++ (t ∷ [])) ≡ t.last
  -- without an output, nothing
  pub unwritten : (p : Part) (x : Key) → p.completed ≡ false → p.outputs ≡ [] → any_holds (intervals (p ∷ [])) x ≡ false
  pub together : (ps qs : List Part) (x : Key) → any_holds (intervals (ps ++ qs)) x ≡ (any_holds (intervals ps) x || any_holds (intervals qs) x)

-- ---- how often a run is to show a key after a commit, from how often it did
pub record ExpectedCounts : Type 0 where
  -- inside, the destination as often as the record's listings hold it, and the other sources not at all
  pub destination_inside : (j : Job) (q : Table → Bool) (x : Key) (count : ℕ)
      → any_holds (intervals j.parts) x ≡ true → expected j j.destination q x count ≡ listed_in q x j.parts
  pub source_inside : (j : Job) (q : Table → Bool) (x : Key) (n count : ℕ)
      → has n j.sources ≡ true → (n ≡ j.destination → ⊥) → any_holds (intervals j.parts) x ≡ true → expected j n q x count ≡ 0
  -- outside, and in a run that is no source, as before
  pub outside : (j : Job) (q : Table → Bool) (x : Key) (n count : ℕ) → any_holds (intervals j.parts) x ≡ false → expected j n q x count ≡ count
  pub other_run : (j : Job) (q : Table → Bool) (x : Key) (n count : ℕ)
      → has n j.sources ≡ false → (n ≡ j.destination → ⊥) → expected j n q x count ≡ count

-- a run that is no source counts by its bytes
abbrev pub OtherBytesCount : Type 0
OtherBytesCount = (j : Job) (r : Run) → has r.id j.sources ≡ false → other_bytes j r ≡ some (run.write r)

-- ---- later records
-- the part at a place from 0
abbrev pub part_at : ℕ → List Part → Option Part
part_at n [] = none
part_at zero (p ∷ ps) = some p
part_at (suc n) (p ∷ ps) = part_at n ps

-- the record is read as a job that has this part there
pub record HasPart (r : List ℕ) (n : ℕ) (p : Part) : Type 0 where
  pub progress : Job
  pub progress_is : whole job.read r ≡ answer progress
  pub there : part_at n progress.parts ≡ some p

-- the part with more outputs after its own, and finished if so said
abbrev pub further : Part → List Table → Bool → Part
further p more done = record { planned = p.planned; completed = p.completed || done; outputs = p.outputs ++ more }

pub record LaterRecords : Type 0 where
  -- a record "counts as a later one of itself"
  pub itself : (r : List ℕ) (j : Job) → whole job.read r ≡ answer j → LaterRecord r r
  -- one that differs in a part that has more outputs, or is finished, or both, is a later one
  pub onward :
      (l m : List ℕ) (i j : Job) (ps qs : List Part) (p : Part) (more : List Table) (done : Bool)
      → whole job.read l ≡ answer i
      → whole job.read m ≡ answer j
      → i.destination ≡ j.destination
      → i.sources ≡ j.sources
      → i.parts ≡ ps ++ (p ∷ qs)
      → j.parts ≡ ps ++ (further p more done ∷ qs)
      → LaterRecord l m
  -- one with fewer outputs, another planned range or a completed part reopened is not
  pub fewer_outputs : (l m : List ℕ) (n : ℕ) (p q : Part) → HasPart l n p → HasPart m n q → length q.outputs < length p.outputs → LaterRecord l m → ⊥
  pub another_plan : (l m : List ℕ) (n : ℕ) (p q : Part) → HasPart l n p → HasPart m n q → (p.planned ≡ q.planned → ⊥) → LaterRecord l m → ⊥
  pub reopened : (l m : List ℕ) (n : ℕ) (p q : Part) → HasPart l n p → HasPart m n q → p.completed ≡ true → q.completed ≡ false → LaterRecord l m → ⊥

-- a list of records is one of later ones if each is of the one before
pub record RecordByRecord : Type 0 where
  pub no_record : EachLater []
  pub one_record : (r : List ℕ) → EachLater (r ∷ [])
  pub one_more : (l m : List ℕ) (rs : List (List ℕ)) → LaterRecord l m → EachLater (m ∷ rs) → EachLater (l ∷ m ∷ rs)

-- ---- bytes and patterns
-- bytes that fit a pattern are as long as it, and have each byte that it knows
pub record FittingBytes : Type 0 where
  pub as_long : (p : Pattern) (l : List ℕ) → Fits p l → length l ≡ length p
  pub known_byte : (p : Pattern) (l : List ℕ) → Fits p l → (n b : ℕ) → get_or p n none ≡ some b → get_or l n 0 ≡ b

-- two that are alike but for a pattern's open places are as long as each other, and equal where it is known
pub record AlikeBytes : Type 0 where
  pub as_long : (p : Pattern) (l m : List ℕ) → AlikeBut p l m → length l ≡ length m
  pub known_byte : (p : Pattern) (l m : List ℕ) → AlikeBut p l m → (n b : ℕ) → get_or p n none ≡ some b → get_or l n 0 ≡ get_or m n 0
