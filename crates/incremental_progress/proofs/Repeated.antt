-- A record accepted after earlier ones is accepted on the first image; and the same record again stops only with 6, 14 or 16.
-- Assumes nothing.
use Prim.Native.Nat.{ℕ}
use native.Mathlib.Omega.{arith}
use mathlib.Core.Path.{◌≡◌, refl, sym, ◌∙◌}
use mathlib.Core.Bool.{Bool, true, false, ◌||◌}
use mathlib.Core.Option.{none, some}
use mathlib.Core.List.{List, [], ◌∷◌}
use lib.Dec.{leb, eqb}
use lib.ListN.{length}
use borrow.Author.Tests.{le-leb}
use Rattle.base.specs.Outcome.{Outcome, stop, answer, check, and_then, written_to}
use Rattle.format.specs.Whole.{whole}
use Rattle.records.specs.Values.{Image, Job}
use Rattle.records.specs.Layouts.{image, job}
use Rattle.manifest.specs.Checks.{has, image_checks, job_checks}
use Rattle.incremental_progress.specs.Checks.{destination_is_source}
use Rattle.incremental_progress.specs.Draws.{Ten, Drawn, used_up, got, supply, fill_commit}
use Rattle.incremental_progress.specs.Commit.{drawn_or, result_fits, drawn_image, job_checked, applied, committed, commit_outcome}
use Rattle.incremental_progress.proofs.Marked.{marked_runs, FillsImage, ClosedImage}
use Rattle.incremental_progress.specs.NewImages.{PassesAgain}
use Rattle.incremental_progress.specs.Repeated.{StopsIn, AcceptedGivenEnough, LastIsAcceptedAlone, SameRecordAgain}
use Rattle.base.specs.Lists.{All, All-map}
use Rattle.incremental_progress.proofs.Commit.{no_commit, first_accepted, later_accepted, as_if_alone}
use Rattle.incremental_progress.proofs.Checks.{Checked, job_parts, passes}
use Rattle.incremental_progress.proofs.Ids.{image_self, image_trans, fills_commit, fills_checked, covered_fills}
use Rattle.incremental_progress.proofs.Filling.{commit_fills}
use Rattle.incremental_progress.proofs.Drawing.{supply_tens}
use Rattle.records.proofs.Within.{ImageWithin, PartWithin}
use Rattle.incremental_progress.proofs.NewImages.{true_all, new_closed, new_ids, closed, Stored, stored, read_again, job_within}
use Rattle.incremental_progress.proofs.Outcomes.{same_answer, job_passes, Passes, Made, Accepted, accepted_commit}
use Rattle.incremental_progress.proofs.Accepted.{accepted_stored, accepted_image_passes_again}
use Rattle.incremental_progress.proofs.Follow.{both, checked, elsewhere, full_parts, After, Since, none_so_far, one_so_far, Reached, follow}
use Rattle.incremental_progress.proofs.OnBytes.{none_accepted}
use Rattle.incremental_progress.proofs.ProgressLaws.{later_itself}
use Rattle.incremental_progress.proofs.Enough.{enough_for}
use Rattle.incremental_progress.proofs.SameSize.{same_size}
use Rattle.incremental_progress.proofs.CoveredAgain.{covered_again}

-- ---- stops by number
module _ {ns : List ℕ} where
  pub answers : {A : Type 0} (a : A) → StopsIn ns (answer a)
  answers a = record { listed = λ n e. absurd (let z : ◌≡◌ {A = ℕ} 0 1 = cc in omega arith) }

  pub stops : {A : Type 0} (k : ℕ) → has k ns ≡ true → StopsIn {A = A} ns (stop k)
  stops k h = record { listed = λ n e. let x : n ≡ k = cc in rw x h }

-- ---- where the checks 4 to 13 pass, and 15 whatever is drawn
settled : (i : Image) (j : Job) (ids : List ℕ) → Passes i j
    → committed i j ids ≡ and_then (drawn_or (fill_commit j i (supply ids))) (λ new. check 15 (result_fits new) (answer new))
unfolding committed applied job_checked drawn_image
settled i j ids p =
    rw (p.first.ranges, p.first.tables, p.first.order, p.first.sizes, p.source, p.there, p.planned, p.outputs, p.covered, p.meet)

module _
    (given record' : List ℕ) {i : Image} {j : Job}
    (e : whole image.read given ≡ answer i)
    (f : whole job.read record' ≡ answer j)
    (p : Passes i j)
    (fits : (ids : List ℕ) (new : Image) (t : List Ten) → fill_commit j i (supply ids) ≡ got new t → result_fits new ≡ true)
  where
    outcome : (ids : List ℕ) (room : ℕ) → commit_outcome given record' ids room
        ≡ and_then (and_then (drawn_or (fill_commit j i (supply ids))) (λ new. check 15 (result_fits new) (answer new))) (λ new. written_to room (image.write new))
    unfolding commit_outcome
    outcome ids room = rw (e, f, settled i j ids p)

    stops_only : (ids : List ℕ) (room : ℕ) → StopsIn (14 ∷ 16 ∷ []) (commit_outcome given record' ids room)
    unfolding has
    stops_only ids room = rw (outcome ids room) (go (fill_commit j i (supply ids)) refl)
      where
        written : (l : List ℕ) (b : Bool) → StopsIn (14 ∷ 16 ∷ []) (check 16 b (answer l))
        written l true = answers l
        written l false = stops 16 refl

        go : (d : Drawn Image) → fill_commit j i (supply ids) ≡ d
            → StopsIn (14 ∷ 16 ∷ []) (and_then (and_then (drawn_or d) (λ new. check 15 (result_fits new) (answer new))) (λ new. written_to room (image.write new)))
        go used_up q = stops 14 refl
        go (got new t) q = rw (fits ids new t q) (written (image.write new) (leb (length (image.write new)) room))

    given_enough : AcceptedGivenEnough given record'
    given_enough =
        let s = enough_for j i in
        let n = length (image.write s.new) in
        record {
          otherwise = stops_only;
          ids = s.ids;
          ids_bytes = s.ids_bytes;
          room = n;
          new = image.write s.new;
          answers = outcome s.ids n ∙ rw (s.drawn, fits s.ids s.new [] s.drawn, le-leb n n (omega arith));
        }

-- ---- what is drawn has the size of an image that fits
-- an image, the job that is committed to it, and one that fills the same open image as the outcome does and fits
module _
    {i final marked : Image} (j : Job)
    (is_source : has j.destination j.sources ≡ true)
    (w : ImageWithin i)
    (p : All PartWithin j.parts)
    (opens : FillsImage marked (marked_runs j i))
    (fills : FillsImage marked final)
    (c : ClosedImage final)
    (fit : result_fits final ≡ true)
  where
    drawn_fits : (ids : List ℕ) (new : Image) (t : List Ten) → fill_commit j i (supply ids) ≡ got new t → result_fits new ≡ true
    drawn_fits ids new t q =
        same_size (image_trans opens (commit_fills j i new (supply ids) t (full_parts j.parts p) (closed i w) q)) fills
        (new_closed j i (supply ids) new t is_source w p (supply_tens ids) q) c
        ∙ fit

-- an image that stands in bytes fits
stored_fits : (l : List ℕ) (i : Image) → Stored l i → result_fits i ≡ true
unfolding result_fits
stored_fits l i s =
    both (true_all _ i (All-map (λ r h. le-leb (length r.views) 1024 h.count) i s.within.runs))
    (le-leb (length (image.write i)) 65536 (rw s.bytes at s.small))

-- ---- the same record again
more : {ns : List ℕ} {A : Type 0} {o : Outcome A} (n : ℕ) → StopsIn ns o → StopsIn (n ∷ ns) o
unfolding has
more n s = record { listed = λ m e. rw (s.listed m e) (or_true (eqb m n)) }
  where
    or_true : (b : Bool) → (b || true) ≡ true
    or_true true = refl
    or_true false = refl

descends : (i : Image) (j : Job) (ids : List ℕ) → (image_checks i).ranges ≡ true → (job_checks j).ranges ≡ true → (image_checks i).tables ≡ true → (job_checks j).tables ≡ true
    → (image_checks i).order ≡ false → committed i j ids ≡ stop 6
unfolding committed
descends i j ids a b c d e = rw (a, b, c, d, e)

refused_6 : (given record' ids : List ℕ) (room : ℕ) (i : Image) (j : Job) → whole image.read given ≡ answer i → whole job.read record' ≡ answer j
    → committed i j ids ≡ stop 6 → commit_outcome given record' ids room ≡ stop 6
unfolding commit_outcome
refused_6 given record' ids room i j e f g = rw (e, f, g)

-- what a record makes of its own commit
committed_twice : (i now : Image) (j : Job) → Checked i j → FillsImage (marked_runs j i) now → Checked now j → FillsImage (marked_runs j i) (marked_runs j now)
committed_twice i now j c f d =
    let k = first_accepted j no_commit (passes i j c) in
    let s = as_if_alone j (later_accepted j j k (passes (marked_runs j i) j (fills_checked j f d)) (later_itself j)) in
    rw s at (fills_commit j f)

pub same_record_again : SameRecordAgain
unfolding destination_is_source has
same_record_again given record' ids room new b c e ids' room' = go (image_checks now).order refl
  where
    a : Accepted given record' ids new
    a = accepted_commit given record' ids room new e

    i : Image
    i = a.before

    now : Image
    now = a.new

    j : Job
    j = a.progress

    m : Made i j ids now
    m = a.made

    before : ImageWithin i
    before = (stored given i b a.before_is).within

    kept : Stored new now
    kept = accepted_stored a before c

    parts : All PartWithin j.parts
    parts = job_within record' j c a.progress_is

    fills : FillsImage (marked_runs j i) now
    fills = commit_fills j i now (supply ids) m.left (full_parts j.parts parts) (closed i before) m.drawn

    again : PassesAgain new
    again = accepted_image_passes_again given record' ids room new b c e

    is_now : again.now ≡ now
    is_now = same_answer again.now_is (read_again new now kept)

    ranges : (image_checks now).ranges ≡ true
    ranges = rw is_now at again.ranges

    tables : (image_checks now).tables ≡ true
    tables = rw is_now at again.tables

    passes_now : (image_checks now).order ≡ true → Passes now j
    passes_now o =
        elsewhere m.passes (record { ranges = ranges; tables = tables; order = o; sizes = rw is_now at again.sizes }) (sym (new_ids j i (supply ids) now m.left m.passes.source before parts (supply_tens ids) m.drawn))
        (sym (covered_fills j fills) ∙ covered_again j (job_parts j (job_passes m.passes)) i)

    go : (o : Bool) → (image_checks now).order ≡ o → StopsIn (6 ∷ 14 ∷ 16 ∷ []) (commit_outcome new record' ids' room')
    go true o =
        let p = passes_now o in
        more 6
        (stops_only new record' (read_again new now kept) a.progress_is p
        (drawn_fits j m.passes.source kept.within parts (committed_twice i now j (checked m.passes) fills (checked p)) fills (closed now kept.within) m.fits)
        ids' room')
    go false o =
        let p = job_passes m.passes in
        rw (refused_6 new record' ids' room' now j (read_again new now kept) a.progress_is (descends now j ids' ranges p.ranges tables p.tables o))
        (stops 6 refl)

the_last : {first now : Image} {r : List ℕ} → Since first now (some r) → After first now r
the_last (one_so_far a) = a

-- the last accepted record, committed alone
alone : {first : Image} (given record' : List ℕ) → Stored given first → {last : List ℕ} → Reached first last (some record') → AcceptedGivenEnough given record'
unfolding destination_is_source
alone {first} given record' s {last} x =
    let a = the_last x.since in
    let j = a.progress in
    given_enough given record' (read_again given first s) a.read a.passes
    (drawn_fits j a.passes.source s.within (job_within record' j a.of_bytes a.read) (image_self (marked_runs j first)) (rw (as_if_alone j a.commits) at a.fills)
    (closed x.final x.stands.within) (stored_fits last x.final x.stands))

pub last_is_accepted_alone : LastIsAcceptedAlone
last_is_accepted_alone first steps record' b bs later is = go (whole image.read first) refl
  where
    go : (o : Outcome Image) → whole image.read first ≡ o → AcceptedGivenEnough first record'
    go (stop n) e = absurd (let z : ◌≡◌ {A = ℕ} 0 1 = cc (none_accepted first n e steps) in omega arith)
    go (answer i) e =
        let s = stored first i b e in
        alone first record' s (rw is at (follow bs first i s none none_so_far later))
