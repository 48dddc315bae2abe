-- What demand 3 says to a user.
-- Assumes nothing.
use Prim.Native.Nat.{ℕ}
use native.Mathlib.Omega.{arith}
use mathlib.Core.Path.{◌≡◌, refl, sym, ap, ◌∙◌}
use mathlib.Core.Logic.{◌⊎◌, inl, inr}
use mathlib.Core.Bool.{Bool, true, false, ◌||◌, true≢false}
use mathlib.Core.Option.{none, some}
use mathlib.Core.List.{List, [], ◌∷◌, ◌++◌, map}
use lib.Dec.{eqb}
use borrow.Author.Tests.{eqb-true, eq-eqb}
use Rattle.base.specs.Bytes.{Bytes}
use Rattle.base.specs.Pick.{pick}
use Rattle.base.specs.Outcome.{Outcome, stop, answer}
use Rattle.key.specs.Order.{Key}
use Rattle.format.specs.Whole.{whole}
use Rattle.records.specs.Values.{Table, Run, Image, Job}
use Rattle.records.specs.Layouts.{run, image, job}
use Rattle.manifest.specs.Checks.{all, has}
use Rattle.incremental_progress.specs.Intervals.{any_holds}
use Rattle.incremental_progress.specs.Views.{shown}
use Rattle.incremental_progress.specs.Parts.{intervals, listed_in}
use Rattle.incremental_progress.specs.Jobs.{commit_runs, expected}
use Rattle.incremental_progress.specs.Checks.{destination_is_source, sources_there}
use Rattle.incremental_progress.specs.Draws.{supply}
use Rattle.incremental_progress.specs.Commit.{commit_outcome}
use Rattle.incremental_progress.specs.Patterns.{image_pattern, Fits}
use Rattle.incremental_progress.specs.Demand.{Step, OfBytes, no_step, one_step, commit_step, handed_on, after, recorded, accepted, last_of, none_yet, other_bytes, Stands, Demand3}
use Rattle.incremental_progress.specs.Corollaries.{run_of, views_of, bytes_of, RunsGoByTheirId, CommitList, ReadAs, NoRunComesOrGoes, LastWrittenKeyStays, OutsideStays, InsideIsTheDestinations, OtherRunsKeepTheirBytes, AsIfAlone, AnyWayThere, NoneAcceptedNothingChanges}
use Rattle.records.proofs.Within.{ImageWithin}
use Rattle.incremental_progress.proofs.Drawing.{supply_tens}
use Rattle.incremental_progress.proofs.DemandLaws.{expected_counts, other_bytes_count}
use Rattle.incremental_progress.proofs.NewImages.{new_ids, new_within, new_small, Stored, stored, read_again, job_within}
use Rattle.incremental_progress.proofs.OnBytes.{demand_3}
use Rattle.incremental_progress.proofs.Outcomes.{same_answer, Passes, accepted_commit}
use Rattle.incremental_progress.proofs.LastKey.{unfinished_outside}
use Rattle.incremental_progress.proofs.OpenPlaces.{differ_in_drawn_bits}
use Rattle.incremental_progress.proofs.Patterned.{alike}
use Rattle.incremental_progress.proofs.Span.{both_true}

-- ---- the last accepted record passed the checks, on an image with the runs of the first
record Taken (i : Image) (record' : List ℕ) : Type 0 where
  given : Image
  progress : Job
  bytes : Bytes record'
  progress_is : whole job.read record' ≡ answer progress
  passes : Passes given progress
  ids : map (λ r. r.id) given ≡ map (λ r. r.id) i

record Next (i : Image) (record' new : List ℕ) : Type 0 where
  image : Image
  stands : Stored new image
  ids : map (λ r. r.id) image ≡ map (λ r. r.id) i
  taken : Taken i record'

next : {given new : List ℕ} {i : Image} (record' supplied : List ℕ) (room : ℕ) → Stored given i → Bytes record' → commit_outcome given record' supplied room ≡ answer new → Next i record' new
unfolding destination_is_source
next {given} {new} {i} record' supplied room s b e =
    let a = accepted_commit given record' supplied room new e in
    let x : a.before ≡ i = same_answer a.before_is (read_again given i s) in
    let w : ImageWithin a.before = rw x s.within in
    let j = a.progress in
    let m = a.made in
    let p = job_within record' j b a.progress_is in
    let t = supply_tens supplied in
    let n = new_within j a.before (supply supplied) a.new m.left m.passes.source w p t m.drawn m.fits in
    let l = new_small j a.before (supply supplied) a.new m.left m.passes.source w p t m.drawn m.fits in
    let k = new_ids j a.before (supply supplied) a.new m.left m.passes.source w p t m.drawn in
    record {
      image = a.new;
      stands = record { bytes = a.written; within = n; small = rw a.written l };
      ids = k ∙ ap (map (λ r. r.id)) x;
      taken = record { given = a.before; progress = j; bytes = b; progress_is = a.progress_is; passes = m.passes; ids = ap (map (λ r. r.id)) x };
    }

last_or_later : (r s : List ℕ) (rs : List (List ℕ)) → last_of (r ∷ rs) ≡ some s → (r ≡ s) ⊎ (last_of rs ≡ some s)
last_or_later r s [] e = inl (cc)
last_or_later r s (t ∷ rs) e = inr e

earlier_image : {i k : Image} {r : List ℕ} → map (λ r. r.id) k ≡ map (λ r. r.id) i → Taken k r → Taken i r
earlier_image e t = record { given = t.given; progress = t.progress; bytes = t.bytes; progress_is = t.progress_is; passes = t.passes; ids = t.ids ∙ e }

last_taken : {steps : List Step} → OfBytes steps → (given : List ℕ) (i : Image) (r : List ℕ) → Stored given i → last_of (accepted given steps) ≡ some r → Taken i r
unfolding accepted
last_taken no_step given i r s e = absurd (let z : ◌≡◌ {A = ℕ} 0 1 = cc in omega arith)
last_taken (one_step {s = step} {ss} b bs) given i r s e = go (commit_step given step) refl e (last_taken bs)
  where
    go : (o : Outcome (List ℕ)) → commit_step given step ≡ o
        → last_of (recorded step.record' o (accepted (handed_on given o) ss)) ≡ some r
        → ((m : List ℕ) (k : Image) (r : List ℕ) → Stored m k → last_of (accepted m ss) ≡ some r → Taken k r)
        → Taken i r
    go (stop n) f e ih = ih given i r s e
    go (answer new) f e ih =
        let n = next step.record' step.ids step.room s b f in
        elim (last_or_later step.record' r (accepted new ss) e) [
          | inl x ↦ rw x at n.taken
          | inr x ↦ earlier_image n.ids (ih new n.image r n.stands x)
        ]

-- ---- what a list of commits leaves
stands : {first record' : List ℕ} {steps : List Step} → CommitList first steps record' → Stands first (after first steps) record'
unfolding Demand3
stands {first} {steps = steps} c = rw c.last at (demand_3 first steps c.bytes c.records c.later)

-- ---- run by run
pub runs_go_by_their_id : RunsGoByTheirId
unfolding run_of has
runs_go_by_their_id [] ss r e = rw (eq-eqb r.id r.id refl)
runs_go_by_their_id (s ∷ rs) ss r e = go (eqb r.id s.id) e (runs_go_by_their_id rs ss r)
  where
    go : (b : Bool) → (b || has r.id (map (λ s. s.id) rs)) ≡ false → (has r.id (map (λ s. s.id) rs) ≡ false → run_of r.id (rs ++ (r ∷ ss)) ≡ some r)
        → pick b (some s) (run_of r.id (rs ++ (r ∷ ss))) ≡ some r
    go true e ih = absurd (true≢false e)
    go false e ih = ih e

all_has : (f : ℕ → Bool) (n : ℕ) (ns : List ℕ) → all f ns ≡ true → has n ns ≡ true → f n ≡ true
unfolding all has
all_has f n [] a h = absurd (true≢false (sym h))
all_has f n (m ∷ ms) a h = let t = both_true (f m) (all f ms) a in go (eqb n m) refl h t.0 (all_has f n ms t.1)
  where
    go : (b : Bool) → eqb n m ≡ b → (b || has n ms) ≡ true → f m ≡ true → (has n ms ≡ true → f n ≡ true) → f n ≡ true
    go true e h t ih = rw (eqb-true n m e) t
    go false e h t ih = ih h

there : (n : ℕ) (rs : Image) → has n (map (λ r. r.id) rs) ≡ true → run_of n rs ≡ none → ⊥
unfolding run_of has
there n [] e f = true≢false (sym e)
there n (r ∷ rs) e f = go (eqb n r.id) e f (there n rs)
  where
    go : (b : Bool) → (b || has n (map (λ r. r.id) rs)) ≡ true → pick b (some r) (run_of n rs) ≡ none → (has n (map (λ r. r.id) rs) ≡ true → run_of n rs ≡ none → ⊥) → ⊥
    go true e f ih = let z : ◌≡◌ {A = ℕ} 0 1 = cc in omega arith
    go false e f ih = ih e f

-- the runs with an id in two images of the same runs
data Found {A : Type 0} (f g : Run → A) (n : ℕ) (rs ss : Image) : Type 0 where
  neither : run_of n rs ≡ none → run_of n ss ≡ none → Found f g n rs ss
  each : (r s : Run) → run_of n rs ≡ some r → run_of n ss ≡ some s → r.id ≡ n → s.id ≡ n → f r ≡ g s → Found f g n rs ss

found : {A : Type 0} (f g : Run → A) (n : ℕ) (rs ss : Image) → map (λ r. r.id) rs ≡ map (λ r. r.id) ss → map f rs ≡ map g ss → Found f g n rs ss
unfolding run_of
found f g n [] [] e m = neither refl refl
found f g n [] (s ∷ ss) e m = absurd (let z : ◌≡◌ {A = ℕ} 0 1 = cc in omega arith)
found f g n (r ∷ rs) [] e m = absurd (let z : ◌≡◌ {A = ℕ} 0 1 = cc in omega arith)
found f g n (r ∷ rs) (s ∷ ss) e m = go (eqb n s.id) refl (found f g n rs ss (cc) (cc))
  where
    same_id : r.id ≡ s.id
    same_id = cc

    go : (b : Bool) → eqb n s.id ≡ b → Found f g n rs ss → Found f g n (r ∷ rs) (s ∷ ss)
    go true h ih =
        let y : s.id ≡ n = sym (eqb-true n s.id h) in
        let k : eqb n r.id ≡ true = rw same_id h in
        each r s (rw k) (rw h) (same_id ∙ y) y (cc)
    go false h (neither a b) = let k : eqb n r.id ≡ false = rw same_id h in neither (rw k a) (rw h b)
    go false h (each u v a b c d q) = let k : eqb n r.id ≡ false = rw same_id h in each u v (rw k a) (rw h b) c d q

-- ---- the statements
module _ {first record' : List ℕ} {steps : List Step} {before now : Image} {progress : Job} (c : CommitList first steps record') (v : ReadAs first (after first steps) record' before now progress) where
  -- what is read is what stands
  is_before : (stands c).before ≡ before
  is_before = same_answer (stands c).before_is v.before_is

  is_now : (stands c).now ≡ now
  is_now = same_answer (stands c).now_is v.now_is

  is_progress : (stands c).progress ≡ progress
  is_progress = same_answer (stands c).progress_is v.progress_is

  same_runs : map (λ r. r.id) now ≡ map (λ r. r.id) before
  same_runs = rw (← is_now, ← is_before) (stands c).runs

  pattern_fits : Fits (image_pattern (commit_runs progress before)) (after first steps)
  pattern_fits = rw (← is_progress, ← is_before) (stands c).fits

  taken : Taken before record'
  taken = last_taken c.records first before record' (stored first before c.bytes v.before_is) c.last

  passes : Passes taken.given progress
  passes = let x : taken.progress ≡ progress = same_answer taken.progress_is v.progress_is in rw x at taken.passes

  -- how often the run with an id shows a key
  counts : (q : Table → Bool) (x : Key) (n : ℕ) → Found (λ r. shown q x r.views) (λ r. expected progress r.id q x (shown q x r.views)) n now before
  counts q x n = found _ _ n now before same_runs (rw (← is_progress, ← is_now, ← is_before) ((stands c).shows q x))

  stays : (x : Key) → any_holds (intervals progress.parts) x ≡ false → (n : ℕ) (q : Table → Bool) → shown q x (views_of n now) ≡ shown q x (views_of n before)
  stays x h n q = go (counts q x n)
    where
      go : Found (λ r. shown q x r.views) (λ r. expected progress r.id q x (shown q x r.views)) n now before → shown q x (views_of n now) ≡ shown q x (views_of n before)
      go (neither a b) = rw (a, b)
      go (each r s a b c d e) = rw (a, b) (e ∙ expected_counts.outside progress q x s.id _ h)

  -- a source is one of the runs
  source_there : (n : ℕ) → has n progress.sources ≡ true → has n (map (λ r. r.id) before) ≡ true
  unfolding sources_there
  source_there n h = rw (← taken.ids) (all_has (λ m. has m (map (λ r. r.id) taken.given)) n progress.sources passes.there h)

  inside : (x : Key) → any_holds (intervals progress.parts) x ≡ true → (q : Table → Bool) → shown q x (views_of progress.destination now) ≡ listed_in q x progress.parts
  unfolding destination_is_source
  inside x h q = go (counts q x progress.destination)
    where
      go : Found (λ r. shown q x r.views) (λ r. expected progress r.id q x (shown q x r.views)) progress.destination now before → shown q x (views_of progress.destination now) ≡ listed_in q x progress.parts
      go (neither a b) = absurd (there progress.destination before (source_there progress.destination passes.source) b)
      go (each r s a b c d e) = rw a (e ∙ rw d (expected_counts.destination_inside progress q x _ h))

  emptied : (x : Key) → any_holds (intervals progress.parts) x ≡ true → (q : Table → Bool) (n : ℕ) → has n progress.sources ≡ true → (n ≡ progress.destination → ⊥) → shown q x (views_of n now) ≡ 0
  unfolding shown
  emptied x h q n o d = go (counts q x n)
    where
      go : Found (λ r. shown q x r.views) (λ r. expected progress r.id q x (shown q x r.views)) n now before → shown q x (views_of n now) ≡ 0
      go (neither a b) = rw a
      go (each r s a b c k e) = rw a (e ∙ rw k (expected_counts.source_inside progress q x n _ o d h))

  kept : (n : ℕ) → has n progress.sources ≡ false → bytes_of n now ≡ bytes_of n before
  kept n h = go (found (other_bytes progress) (other_bytes progress) n now before same_runs (rw (← is_progress, ← is_now, ← is_before) (stands c).others))
    where
      go : Found (other_bytes progress) (other_bytes progress) n now before → bytes_of n now ≡ bytes_of n before
      go (neither a b) = rw (a, b)
      go (each r s a b c d e) =
          let u : has r.id progress.sources ≡ false = rw c h in
          let v : has s.id progress.sources ≡ false = rw d h in
          rw (a, b) (sym (other_bytes_count progress r u) ∙ (e ∙ other_bytes_count progress s v))

pub no_run_comes_or_goes : NoRunComesOrGoes
no_run_comes_or_goes first steps record' c =
    let s = stands c in
    record {
      before = s.before;
      now = s.now;
      progress = s.progress;
      read_as = record { before_is = s.before_is; now_is = s.now_is; progress_is = s.progress_is };
      runs = s.runs;
    }

pub outside_stays : OutsideStays
outside_stays first steps record' before now progress c v = stays c v

pub last_written_key_stays : LastWrittenKeyStays
last_written_key_stays first steps record' before now progress c v b u n s q = stays c v b (unfinished_outside (passes c v) u) n q

pub inside_is_the_destinations : InsideIsTheDestinations
inside_is_the_destinations first steps record' before now progress c v x h q = record { destination = inside c v x h q; other_sources = emptied c v x h q }

pub other_runs_keep_their_bytes : OtherRunsKeepTheirBytes
other_runs_keep_their_bytes first steps record' before now progress c v = kept c v

pub as_if_alone : AsIfAlone
as_if_alone first steps record' before now progress c v ids room new e =
    differ_in_drawn_bits c.bytes (taken c v).bytes v.before_is v.progress_is (rw (← is_progress c v, ← is_before c v) ((stands c).alone ids room new e))

pub any_way_there : AnyWayThere
any_way_there first steps others record' before now progress c d v =
    let x : (stands d).before ≡ before = same_answer (stands d).before_is v.before_is in
    let z : (stands d).progress ≡ progress = same_answer (stands d).progress_is v.progress_is in
    let f : Fits (image_pattern (commit_runs progress before)) (after first others) = rw (← x, ← z) (stands d).fits in
    differ_in_drawn_bits c.bytes (taken c v).bytes v.before_is v.progress_is (alike (pattern_fits c v) f)

pub none_accepted_nothing_changes : NoneAcceptedNothingChanges
unfolding Demand3
none_accepted_nothing_changes first steps b c e = rw e at (demand_3 first steps b c (rw e none_yet))
