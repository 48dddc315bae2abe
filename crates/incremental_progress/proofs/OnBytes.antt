-- Demand 3 on bytes, from what stands after a list of commits.
-- Assumes nothing.
use Prim.Native.Nat.{ℕ}
use native.Mathlib.Omega.{arith}
use mathlib.Core.Path.{◌≡◌, refl, sym, ap, subst, ◌∙◌}
use mathlib.Core.Bool.{Bool, true, false, true≢false}
use mathlib.Core.Option.{Option, none, some}
use mathlib.Core.List.{List, [], ◌∷◌, map}
use lib.Dec.{eqb}
use borrow.Author.Tests.{eqb-true}
use Rattle.base.specs.Outcome.{Outcome, stop, answer}
use Rattle.format.specs.Whole.{whole}
use Rattle.records.specs.Values.{Run, Image, Job}
use Rattle.records.specs.Layouts.{image}
use Rattle.manifest.specs.Checks.{has}
use Rattle.incremental_progress.specs.Jobs.{commit_runs}
use Rattle.incremental_progress.specs.Checks.{destination_is_source}
use Rattle.incremental_progress.specs.Commit.{commit_outcome}
use Rattle.incremental_progress.proofs.Marked.{marked_runs, FillsImage}
use Rattle.incremental_progress.specs.Patterns.{image_pattern, Fits}
use Rattle.incremental_progress.specs.Demand.{last_of, Step, after, accepted, other_bytes, Stands, StandsBy, Demand3}
use Rattle.incremental_progress.proofs.Commit.{beside, as_if_alone, same_runs, untouched, shows_as_expected}
use Rattle.incremental_progress.proofs.Ids.{image_ids_lem, image_shown, image_beside}
use Rattle.incremental_progress.proofs.Outcomes.{same_answer}
use Rattle.incremental_progress.proofs.Follow.{full_parts, After, Since, none_so_far, one_so_far, stepped, follow}
use Rattle.incremental_progress.proofs.Patterned.{alike, fits_image}
use Rattle.incremental_progress.proofs.NewImages.{closed, Stored, stored, read_again, job_within}

-- ---- a list of commits on bytes that are no image: none is accepted
not_read : (given record' ids : List ℕ) (room n : ℕ) → whole image.read given ≡ stop n → commit_outcome given record' ids room ≡ stop n
unfolding commit_outcome
not_read given record' ids room n e = rw e

pub none_accepted : (given : List ℕ) (n : ℕ) → whole image.read given ≡ stop n → (steps : List Step) → accepted given steps ≡ []
unfolding accepted
none_accepted given n e [] = refl
none_accepted given n e (s ∷ ss) = rw (not_read given s.record' s.ids s.room n e) (none_accepted given n e ss)

stays : (given : List ℕ) (n : ℕ) → whole image.read given ≡ stop n → (steps : List Step) → after given steps ≡ given
unfolding after
stays given n e [] = refl
stays given n e (s ∷ ss) = rw (not_read given s.record' s.ids s.room n e) (stays given n e ss)

-- ---- runs beside the job keep their bytes
one_other : (j : Job) → has j.destination j.sources ≡ true → (x y : Run) → x.id ≡ y.id → beside j x ≡ beside j y → other_bytes j x ≡ other_bytes j y
one_other j s x y e b = go (has x.id j.sources) (eqb x.id j.destination) refl refl
  where
    go : (h d : Bool) → has x.id j.sources ≡ h → eqb x.id j.destination ≡ d → other_bytes j x ≡ other_bytes j y
    go true d p q = let p' : has y.id j.sources ≡ true = rw (← e) p in rw (p, p')
    go false true p q = absurd (true≢false (sym s ∙ rw (← (eqb-true x.id j.destination q)) p))
    go false false p q =
        let p' : has y.id j.sources ≡ false = rw (← e) p in
        let q' : eqb y.id j.destination ≡ false = rw (← e) q in
        let z : some x ≡ some y = rw (p, q, p', q') at b in
        let w : x ≡ y = cc in
        ap (other_bytes j) w

other_bytes_lem : (j : Job) → has j.destination j.sources ≡ true → (xs ys : List Run) → map (λ r. r.id) xs ≡ map (λ r. r.id) ys → map (beside j) xs ≡ map (beside j) ys → map (other_bytes j) xs ≡ map (other_bytes j) ys
other_bytes_lem j s [] [] e b = refl
other_bytes_lem j s [] (y ∷ ys) e b = absurd (let z : ◌≡◌ {A = ℕ} 0 1 = cc in omega arith)
other_bytes_lem j s (x ∷ xs) [] e b = absurd (let z : ◌≡◌ {A = ℕ} 0 1 = cc in omega arith)
other_bytes_lem j s (x ∷ xs) (y ∷ ys) e b =
    let p : x.id ≡ y.id = cc in
    let q : map (λ r. r.id) xs ≡ map (λ r. r.id) ys = cc in
    let u : beside j x ≡ beside j y = cc in
    let v : map (beside j) xs ≡ map (beside j) ys = cc in
    rw (one_other j s x y p u, other_bytes_lem j s xs ys q v)

-- ---- the last accepted record
module _ {first last : List ℕ} {i final : Image} (s : Stored first i) (t : Stored last final) {r : List ℕ} (a : After i final r) where
  -- the bytes of an image that fills the record's commit on the first image, by its pattern
  stored_fits : {l : List ℕ} {now : Image} → Stored l now → FillsImage (marked_runs a.progress i) now → Fits (image_pattern (commit_runs a.progress i)) l
  stored_fits {l} {now} u f =
      subst (Fits (image_pattern (commit_runs a.progress i))) (sym u.bytes)
      (fits_image a.progress i (full_parts a.progress.parts (job_within r a.progress a.of_bytes a.read)) (closed i s.within) f (closed now u.within))

  last_fits : Fits (image_pattern (commit_runs a.progress i)) last
  last_fits = stored_fits t (rw (as_if_alone a.progress a.commits) at a.fills)

  -- the record committed alone
  lone : (ids : List ℕ) (room : ℕ) (new : List ℕ) → commit_outcome first r ids room ≡ answer new → Fits (image_pattern (commit_runs a.progress i)) new
  lone ids room new e =
      let x = stepped r ids room s a.of_bytes e in
      let p : x.step.progress ≡ a.progress = same_answer x.step.read a.read in
      stored_fits x.stands (rw p at x.step.fills)

  same_ids : map (λ r. r.id) final ≡ map (λ r. r.id) i
  same_ids = image_ids_lem a.fills ∙ same_runs a.progress a.commits

  stands_as : Stands first last r
  unfolding destination_is_source
  stands_as =
      record {
        before = i;
        now = final;
        progress = a.progress;
        before_is = read_again first i s;
        now_is = read_again last final t;
        progress_is = a.read;
        runs = same_ids;
        shows = λ q x. image_shown q x a.fills ∙ shows_as_expected a.progress a.commits q x;
        others = other_bytes_lem a.progress a.passes.source final i same_ids (image_beside a.progress i a.fills (closed i s.within) (untouched a.progress a.commits));
        alone = λ ids room new e. alike last_fits (lone ids room new e);
        fits = last_fits;
      }

stands_by : {first last : List ℕ} {i final : Image} → Stored first i → Stored last final → {o : Option (List ℕ)} → Since i final o → StandsBy first last o
stands_by s t none_so_far = t.bytes ∙ sym s.bytes
stands_by s t (one_so_far a) = stands_as s t a

pub demand_3 : Demand3
unfolding Demand3
demand_3 first steps b bs later = go (whole image.read first) refl
  where
    go : (o : Outcome Image) → whole image.read first ≡ o → StandsBy first (after first steps) (last_of (accepted first steps))
    go (stop n) e = rw (none_accepted first n e steps, stays first n e steps)
    go (answer i) e =
        let s = stored first i b e in
        let x = follow bs first i s none none_so_far later in
        stands_by s x.stands x.since
