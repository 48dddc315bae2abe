-- A list of commits on bytes: what stands after the last accepted record, and that it passes on the first image.
-- Assumes nothing.
use Prim.Native.Nat.{ℕ}
use mathlib.Core.Path.{◌≡◌, refl, sym, ap, subst, ◌∙◌}
use mathlib.Core.Bool.{Bool, true, ◌&&◌}
use mathlib.Core.Option.{Option, none, some}
use mathlib.Core.List.{List, [], ◌∷◌, map}
use Rattle.base.specs.Bytes.{Bytes}
use Rattle.base.specs.Pick.{and_first, and_second}
use Rattle.base.specs.Outcome.{Outcome, stop, answer}
use Rattle.format.specs.Whole.{whole}
use Rattle.records.specs.Values.{Table, Run, Image, Part, Job}
use Rattle.records.specs.Layouts.{table, job}
use Rattle.manifest.specs.Checks.{all, has, image_checks}
use Rattle.incremental_progress.specs.Jobs.{LaterJob}
use Rattle.incremental_progress.specs.Checks.{destination_is_source, sources_there, output_views_covered}
use Rattle.incremental_progress.specs.Draws.{supply}
use Rattle.incremental_progress.specs.Commit.{commit_outcome}
use Rattle.incremental_progress.proofs.Marked.{marked_runs, FillsImage, FullTables, no_tables, one_table, FullParts, no_parts, one_part}
use Rattle.incremental_progress.specs.Demand.{last_of, after, Step, OfBytes, no_step, one_step, commit_step, handed_on, recorded, accepted, LaterRecord, EachLater, and-then}
use Rattle.base.specs.Lists.{All}
use Rattle.incremental_progress.proofs.Commit.{Commits, no_commit, first_accepted, later_accepted, standing, same_runs}
use Rattle.incremental_progress.proofs.Checks.{Checked, passes}
use Rattle.incremental_progress.proofs.Ids.{image_trans, image_ids_lem, fills_commit, fills_checked}
use Rattle.incremental_progress.proofs.Filling.{commit_fills}
use Rattle.records.proofs.Within.{table_keys, ImageWithin, PartWithin}
use Rattle.incremental_progress.proofs.NewImages.{closed, Stored, read_again, job_within}
use Rattle.incremental_progress.proofs.Outcomes.{same_answer, job_passes, AllPass, Passes, accepted_commit}
use Rattle.incremental_progress.proofs.Accepted.{accepted_stored}
use Rattle.incremental_progress.proofs.ProgressLaws.{retained_always_meets}
use Rattle.incremental_progress.proofs.CoveredAgain.{passes_covered}

-- a job that is within the ceilings has ids of 16 bytes
full_tables : (ts : List Table) → All table.Within ts → FullTables ts
full_tables [] a = no_tables
full_tables (t ∷ ts) a = one_table (table_keys t a.0).id (full_tables ts a.1)

pub full_parts : (ps : List Part) → All PartWithin ps → FullParts ps
full_parts [] a = no_parts
full_parts (p ∷ ps) a = one_part (full_tables p.outputs a.0.outputs) (full_parts ps a.1)

pub both : {a b : Bool} → a ≡ true → b ≡ true → (a && b) ≡ true
both e f = rw (e, f)

-- ---- the checks that passed, and that they pass on another image
pub checked : {i : Image} {j : Job} → Passes i j → Checked i j
checked {i} {j} p =
    record {
      tables = and_first (image_checks i).tables _ p.first.tables;
      order = and_first (image_checks i).order _ p.first.order;
      job = job_passes p;
      covered = p.covered;
    }

image_part : {i : Image} {j : Job} → Passes i j → AllPass (image_checks i)
image_part {i} p =
    record {
      ranges = and_first (image_checks i).ranges _ p.first.ranges;
      tables = and_first (image_checks i).tables _ p.first.tables;
      order = and_first (image_checks i).order _ p.first.order;
      sizes = and_first (image_checks i).sizes _ p.first.sizes;
    }

-- an image that passes 4 to 7 and 12 and has the same runs
pub elsewhere : {i k : Image} {j : Job} → Passes i j → AllPass (image_checks k) → map (λ (r : Run). r.id) i ≡ map (λ (r : Run). r.id) k
    → output_views_covered k j ≡ true → Passes k j
unfolding sources_there
elsewhere {i} {k} {j} p a s c =
    record {
      first =
          record {
            ranges = both a.ranges (and_second (image_checks i).ranges _ p.first.ranges);
            tables = both a.tables (and_second (image_checks i).tables _ p.first.tables);
            order = both a.order (and_second (image_checks i).order _ p.first.order);
            sizes = both a.sizes (and_second (image_checks i).sizes _ p.first.sizes);
          };
      source = p.source;
      there = ap (λ (l : List ℕ). all (λ n. has n l) j.sources) (sym s) ∙ p.there;
      planned = p.planned;
      outputs = p.outputs;
      covered = c;
      meet = retained_always_meets k j a.tables;
    }

-- ---- later records are later jobs
pub later_job : {l m : List ℕ} {i j : Job} → whole job.read l ≡ answer i → whole job.read m ≡ answer j → LaterRecord l m → LaterJob i j
later_job {i = i} {j = j} p q h =
    let x : i ≡ h.earlier = same_answer p h.earlier_is in
    let y : j ≡ h.later = same_answer q h.later_is in
    rw (x, y) h.is

-- ---- a list of commits
-- what stands after a record was accepted: the job, the image with drawn ids left open, and that the record passes on the first image
pub record After (first now : Image) (r : List ℕ) : Type 0 where
  pub progress : Job
  pub read : whole job.read r ≡ answer progress
  pub of_bytes : Bytes r
  pub marked : Image
  pub commits : Commits first marked (some progress)
  pub fills : FillsImage marked now
  pub passes : Passes first progress

-- of the last accepted record, if there is one
pub data Since (first : Image) : Image → Option (List ℕ) → Type 0 where
  none_so_far : Since first first none
  one_so_far : {now : Image} {r : List ℕ} → After first now r → Since first now (some r)

-- a commit that is accepted, on values
pub record Taken (now new : Image) (r : List ℕ) : Type 0 where
  pub progress : Job
  pub read : whole job.read r ≡ answer progress
  pub of_bytes : Bytes r
  pub passes : Passes now progress
  pub fills : FillsImage (marked_runs progress now) new

first_record_lem : {first new : Image} {r : List ℕ} → Taken first new r → After first new r
first_record_lem {first} s =
    record {
      progress = s.progress;
      read = s.read;
      of_bytes = s.of_bytes;
      marked = marked_runs s.progress first;
      commits = first_accepted s.progress no_commit (passes first s.progress (checked s.passes));
      fills = s.fills;
      passes = s.passes;
    }

later_record : {first now new : Image} {l r : List ℕ} → After first now l → Taken now new r → LaterRecord l r → After first new r
later_record {first} {now} a s h =
    let i = a.progress in
    let j = s.progress in
    let later : LaterJob i j = later_job a.read s.read h in
    let k : Commits first (marked_runs j a.marked) (some j) =
    later_accepted i j a.commits (passes a.marked j (fills_checked j a.fills (checked s.passes))) later in
    record {
      progress = j;
      read = s.read;
      of_bytes = s.of_bytes;
      marked = marked_runs j a.marked;
      commits = k;
      fills = image_trans (fills_commit j a.fills) s.fills;
      passes = elsewhere s.passes (image_part a.passes) (image_ids_lem a.fills ∙ same_runs i a.commits) (passes_covered j first (standing k).1);
    }

-- one commit on an image as it is stored
pub record Stepped (now : Image) (r bytes : List ℕ) : Type 0 where
  pub new : Image
  pub step : Taken now new r
  pub stands : Stored bytes new

pub stepped : {given : List ℕ} {now : Image} (r ids : List ℕ) (room : ℕ) {bytes : List ℕ} → Stored given now → Bytes r → commit_outcome given r ids room ≡ answer bytes → Stepped now r bytes
unfolding destination_is_source
stepped {given} {now} r ids room {bytes} s b e =
    let a = accepted_commit given r ids room bytes e in
    let x : a.before ≡ now = same_answer a.before_is (read_again given now s) in
    let w : ImageWithin a.before = rw x s.within in
    let p = job_within r a.progress b a.progress_is in
    let m = a.made in
    subst (λ k. Stepped k r bytes) x
    (record {
      new = a.new;
      step =
          record {
            progress = a.progress;
            read = a.progress_is;
            of_bytes = b;
            passes = m.passes;
            fills = commit_fills a.progress a.before a.new (supply ids) m.left (full_parts a.progress.parts p) (closed a.before w) m.drawn;
          };
      stands = accepted_stored a w b;
    })

-- the last accepted record, and those accepted after it
abbrev after_one : Option (List ℕ) → List (List ℕ) → List (List ℕ)
after_one none rs = rs
after_one (some r) rs = r ∷ rs

pub record Reached (first : Image) (bytes : List ℕ) (o : Option (List ℕ)) : Type 0 where
  pub final : Image
  pub stands : Stored bytes final
  pub since : Since first final o

-- the image after a step, and what stands then
module _ {first : Image} (step : Step) (ss : List Step) (b : Bytes step.record')
    (ih : (m : List ℕ) (i : Image) → Stored m i → (p : Option (List ℕ)) → Since first i p → EachLater (after_one p (accepted m ss)) → Reached first (after m ss) (last_of (after_one p (accepted m ss))))
  where
    one_on : (given : List ℕ) {now : Image} → Stored given now → {o : Option (List ℕ)} → Since first now o → (w : Outcome (List ℕ)) → commit_step given step ≡ w
        → EachLater (after_one o (recorded step.record' w (accepted (handed_on given w) ss)))
        → Reached first (after (handed_on given w) ss) (last_of (after_one o (recorded step.record' w (accepted (handed_on given w) ss))))
    one_on given {now} s {o} h (stop n) e k = ih given now s o h k
    one_on given s none_so_far (answer new) e k =
        let t = stepped step.record' step.ids step.room s b e in
        ih new t.new t.stands (some step.record') (one_so_far (first_record_lem t.step)) k
    one_on given s (one_so_far a) (answer new) e (and-then l k) =
        let t = stepped step.record' step.ids step.room s b e in
        ih new t.new t.stands (some step.record') (one_so_far (later_record a t.step l)) k

pub follow : {first : Image} {steps : List Step} → OfBytes steps → (given : List ℕ) (now : Image) → Stored given now → (o : Option (List ℕ)) → Since first now o
    → EachLater (after_one o (accepted given steps)) → Reached first (after given steps) (last_of (after_one o (accepted given steps)))
unfolding accepted after
follow no_step given now s none h k = record { final = now; stands = s; since = h }
follow no_step given now s (some r) h k = record { final = now; stands = s; since = h }
follow {first} (one_step {s = step} {ss} b bs) given now s o h k = one_on step ss b (follow {first = first} bs) given s h (commit_step given step) refl k
