-- An accepted commit: what was read, which checks passed, what was drawn and what was written.
-- Assumes nothing.
use Prim.Native.Nat.{ℕ}
use native.Mathlib.Omega.{arith}
use mathlib.Core.Path.{◌≡◌, refl, ap, ◌∙◌}
use mathlib.Core.Bool.{Bool, true, false}
use mathlib.Core.List.{List}
use lib.Dec.{leb}
use lib.ListN.{length}
use Rattle.base.specs.Pick.{and_second}
use Rattle.base.specs.Outcome.{Outcome, stop, answer, check, and_then}
use Rattle.format.specs.Whole.{whole}
use Rattle.records.specs.Values.{Image, Job}
use Rattle.records.specs.Layouts.{image, job}
use Rattle.manifest.specs.Checks.{Checks, checked, joined, image_checks, job_checks}
use Rattle.incremental_progress.specs.Checks.{destination_is_source, sources_there, planned_in_order, outputs_in_order, output_views_covered, retained_meet}
use Rattle.incremental_progress.specs.Draws.{Ten, Drawn, used_up, got, supply, fill_commit}
use Rattle.incremental_progress.specs.Laws.{JobPasses}
use Rattle.incremental_progress.specs.Commit.{drawn_or, result_fits, drawn_image, job_checked, applied, committed, commit_outcome}

-- ---- outcomes
pub record Answered {A B : Type 0} (o : Outcome A) (f : A → Outcome B) (b : B) : Type 0 where
  pub value : A
  pub first : o ≡ answer value
  pub second : f value ≡ answer b

pub answered : {A B : Type 0} (o : Outcome A) (f : A → Outcome B) (b : B) → and_then o f ≡ answer b → Answered o f b
answered (stop n) f b e = absurd (let z : ◌≡◌ {A = ℕ} 0 1 = cc in omega arith)
answered (answer a) f b e = record { value = a; first = refl; second = e }

pub same_answer : {A : Type 0} {o : Outcome A} {a b : A} → o ≡ answer a → o ≡ answer b → a ≡ b
same_answer p q = cc

pub tested : {A : Type 0} (n : ℕ) (t : Bool) (o : Outcome A) (a : A) → check n t o ≡ answer a → (t ≡ true) × (o ≡ answer a)
tested n true o a e = (refl, e)
tested n false o a e = absurd (let z : ◌≡◌ {A = ℕ} 0 1 = cc in omega arith)

-- ---- the checks 4 to 7
pub record AllPass (c : Checks) : Type 0 where
  pub ranges : c.ranges ≡ true
  pub tables : c.tables ≡ true
  pub order : c.order ≡ true
  pub sizes : c.sizes ≡ true

all_pass : {A : Type 0} (c : Checks) (o : Outcome A) (a : A) → checked c o ≡ answer a → AllPass c × (o ≡ answer a)
all_pass c o a e =
    let p = tested 4 c.ranges _ a e in
    let q = tested 5 c.tables _ a p.1 in
    let r = tested 6 c.order _ a q.1 in
    let s = tested 7 c.sizes o a r.1 in
    (record { ranges = p.0; tables = q.0; order = r.0; sizes = s.0 }, s.1)

-- ---- the checks 4 to 15
pub record Passes (i : Image) (j : Job) : Type 0 where
  pub first : AllPass (joined (image_checks i) (job_checks j))
  pub source : destination_is_source j ≡ true
  pub there : sources_there i j ≡ true
  pub planned : planned_in_order j ≡ true
  pub outputs : outputs_in_order j ≡ true
  pub covered : output_views_covered i j ≡ true
  pub meet : retained_meet i j ≡ true

pub job_passes : {i : Image} {j : Job} → Passes i j → JobPasses j
job_passes {i} p =
    record {
      ranges = and_second (image_checks i).ranges _ p.first.ranges;
      tables = and_second (image_checks i).tables _ p.first.tables;
      planned = p.planned;
      outputs = p.outputs;
    }

pub record Made (i : Image) (j : Job) (ids : List ℕ) (new : Image) : Type 0 where
  pub passes : Passes i j
  pub left : List Ten
  pub drawn : fill_commit j i (supply ids) ≡ got new left
  pub fits : result_fits new ≡ true

-- the checks 8 to 13
passed_job : {A : Type 0} (i : Image) (j : Job) (o : Outcome A) (a : A) → job_checked i j o ≡ answer a → AllPass (joined (image_checks i) (job_checks j)) → Passes i j × (o ≡ answer a)
unfolding job_checked
passed_job i j o a e first =
    let c8 = tested 8 (destination_is_source j) _ a e in
    let c9 = tested 9 (sources_there i j) _ a c8.1 in
    let c10 = tested 10 (planned_in_order j) _ a c9.1 in
    let c11 = tested 11 (outputs_in_order j) _ a c10.1 in
    let c12 = tested 12 (output_views_covered i j) _ a c11.1 in
    let c13 = tested 13 (retained_meet i j) o a c12.1 in
    (record { first = first; source = c8.0; there = c9.0; planned = c10.0; outputs = c11.0; covered = c12.0; meet = c13.0 }, c13.1)

-- all of them
pub passed_all :
    {A : Type 0} (i : Image) (j : Job) (o : Outcome A) (a : A)
    → checked (joined (image_checks i) (job_checks j)) (job_checked i j o) ≡ answer a
    → Passes i j × (o ≡ answer a)
passed_all i j o a e = let p = all_pass (joined (image_checks i) (job_checks j)) (job_checked i j o) a e in passed_job i j o a p.1 p.0

drawn_answer : {A : Type 0} (d : Drawn A) (a : A) → drawn_or d ≡ answer a → record { left : List Ten; is : d ≡ got a left }
drawn_answer used_up a e = absurd (let z : ◌≡◌ {A = ℕ} 0 1 = cc in omega arith)
drawn_answer (got b s) a e = let x : b ≡ a = cc in record { left = s; is = ap (λ c. got c s) x }

made : (i : Image) (j : Job) (ids : List ℕ) (new : Image) → committed i j ids ≡ answer new → Made i j ids new
unfolding committed applied drawn_image
made i j ids new e =
    let p = passed_all i j (drawn_image (fill_commit j i (supply ids))) new e in
    let d = answered (drawn_or (fill_commit j i (supply ids))) _ new p.1 in
    let c15 = tested 15 (result_fits d.value) (answer d.value) new d.second in
    let x : d.value ≡ new = cc c15.1 in
    let g = drawn_answer (fill_commit j i (supply ids)) new (d.first ∙ ap answer x) in
    record { passes = p.0; left = g.left; drawn = g.is; fits = rw (← x) c15.0 }

-- ---- an accepted commit
pub record Accepted (given record' ids bytes : List ℕ) : Type 0 where
  pub before : Image
  pub progress : Job
  pub new : Image
  pub before_is : whole image.read given ≡ answer before
  pub progress_is : whole job.read record' ≡ answer progress
  pub made : Made before progress ids new
  pub written : bytes ≡ image.write new

pub accepted_commit : (given record' ids : List ℕ) (room : ℕ) (bytes : List ℕ) → commit_outcome given record' ids room ≡ answer bytes → Accepted given record' ids bytes
unfolding commit_outcome
accepted_commit given record' ids room bytes e =
    let a = answered (whole image.read given) _ bytes e in
    let b = answered (whole job.read record') _ bytes a.second in
    let c = answered (committed a.value b.value ids) _ bytes b.second in
    let w = tested 16 (leb (length (image.write c.value)) room) (answer (image.write c.value)) bytes c.second in
    record {
      before = a.value;
      progress = b.value;
      new = c.value;
      before_is = a.first;
      progress_is = b.first;
      made = made a.value b.value ids c.value c.first;
      written = cc w.1;
    }
