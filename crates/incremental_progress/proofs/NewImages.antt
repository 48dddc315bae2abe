-- The image that a commit makes is within the ceilings, so its bytes read back, and all its ids have 16 bytes.
-- Assumes nothing.
use Prim.Native.Nat.{ℕ, ◌^◌, ◌≤◌, ◌<◌}
use native.Mathlib.Omega.{arith}
use mathlib.Core.Path.{◌≡◌, refl, sym, ap, ◌∙◌}
use mathlib.Core.Bool.{Bool, true}
use mathlib.Core.List.{List, [], ◌∷◌, map, append-nil}
use lib.ListN.{length, length-append, length-take, length-map}
use lib.Dec.{leb}
use borrow.Author.Tests.{leb-true, le-leb}
use Rattle.base.specs.Bytes.{Bytes}
use Rattle.base.specs.Pick.{and_first, and_second}
use Rattle.base.specs.Outcome.{answer}
use Rattle.format.specs.Got as found
use Rattle.format.specs.Whole.{whole as read_whole}
use Rattle.records.specs.Values.{View, Run, Image, Job}
use Rattle.records.specs.Layouts.{image, job}
use Rattle.records.specs.declared.ids.ViewId.{ViewId}
use Rattle.records.proofs.RecordLayouts.{image_layout, job_layout}
use Rattle.manifest.specs.Checks.{all, has}
use Rattle.manifest.proofs.Given.{whole_read}
use Rattle.incremental_progress.specs.Commit.{result_fits}
use Rattle.incremental_progress.specs.Parts.{intervals}
use Rattle.incremental_progress.specs.Draws.{Ten, got, new_id, draw, fill, fill_commit}
use Rattle.incremental_progress.specs.Entries.{Entry, whole, cut}
use Rattle.incremental_progress.proofs.Marked.{AllClosed, none_left, one_more, ClosedImage, no_runs_lem, one_run}
use Rattle.base.specs.Lists.{All, All-map, All-mapped, All-unmapped}
use Rattle.incremental_progress.proofs.Checks.{all_each}
use Rattle.incremental_progress.proofs.Drawing.{IsTen, Of, next_of, draw_ten, got_of, Ready, Kept, fill_commit_keeps}
use Rattle.records.proofs.Within.{ViewWithin, RunWithin, ImageWithin, image_parts, image_within, PartWithin, job_parts}
use Rattle.incremental_progress.proofs.Ceilings.{intervals_within, EntryWithin, view_entries_within, outputs_within}

-- ---- a test that each element passes
pub true_all : {A : Type 0} (p : A → Bool) (xs : List A) → All (λ x. p x ≡ true) xs → all p xs ≡ true
unfolding all
true_all p [] a = refl
true_all p (x ∷ xs) a = rw a.0 (true_all p xs a.1)

-- ---- the new views
-- the time and what was drawn
new_id_lem : (id : ViewId) (ten : Ten) → length id.0 ≡ 16 → IsTen ten → length (new_id id ten).0 ≡ 16
new_id_lem id ten h k = rw (length-append, length-take, k) (omega arith)

fill_within : (e : Entry) (s : List Ten) → EntryWithin e → All IsTen s → Of ViewWithin (fill e s)
fill_within (whole v) s h t = (h, t)
fill_within (cut v r) s h t =
    next_of IsTen ViewWithin (draw v.id s) _ (draw_ten v.id s t)
    (λ ten u k x. (record { id = new_id_lem v.id ten h.0.id k; table = h.0.table; visible = h.1 }, x))

-- ---- closed
closed_views : (vs : List View) → All ViewWithin vs → AllClosed vs
closed_views [] a = none_left
closed_views (v ∷ vs) a = one_more (record { full = a.0.id }) (closed_views vs a.1)

closed_runs : (i : Image) → All (λ r. All ViewWithin r.views) i → ClosedImage i
closed_runs [] a = no_runs_lem
closed_runs (r ∷ rs) a = one_run (closed_views r.views a.0) (closed_runs rs a.1)

pub closed : (i : Image) → ImageWithin i → ClosedImage i
closed i w = closed_runs i (All-map (λ r h. h.views) i w.runs)

-- ---- the new image
same_length : (new i : Image) → map (λ r. r.id) new ≡ map (λ r. r.id) i → length new ≡ length i
same_length new i e = sym (length-map new (λ r. r.id)) ∙ ap length e ∙ length-map i (λ r. r.id)

-- run ids that are those of another image
same_ids : (P : ℕ → Type 0) (new i : Image) → map (λ r. r.id) new ≡ map (λ r. r.id) i → All (λ r. P r.id) i → All (λ r. P r.id) new
same_ids P new i e a = All-unmapped P (λ r. r.id) new (rw e (All-mapped P (λ r. r.id) i a))

runs_within : (rs : List Run) → All (λ r. r.id < 256 ^ 4) rs → All (λ r. leb (length r.views) 1024 ≡ true) rs → All (λ r. All ViewWithin r.views) rs → All RunWithin rs
runs_within [] a b c = tt
runs_within (r ∷ rs) a b c =
    (record { id = a.0; count = leb-true (length r.views) 1024 b.0; views = c.0 }, runs_within rs a.1 b.1 c.1)

module _
    (j : Job) (i : Image) (s : List Ten) (new : Image) (t : List Ten)
    (is_source : has j.destination j.sources ≡ true)
    (w : ImageWithin i)
    (p : All PartWithin j.parts)
    (ten : All IsTen s)
    (e : fill_commit j i s ≡ got new t)
  where
    new_kept : Kept ViewWithin EntryWithin fill_within j is_source i new
    new_kept =
        got_of (Kept ViewWithin EntryWithin fill_within j is_source i) (fill_commit j i s) new t e
        (fill_commit_keeps ViewWithin EntryWithin fill_within j is_source i s (outputs_within j.parts p) (All-map ready i w.runs) ten)
      where
        ready : (r : Run) → RunWithin r → Ready ViewWithin EntryWithin fill_within j is_source r
        ready r h = record { views = h.views; entries = λ _. All-map (λ v k. view_entries_within (intervals j.parts) v (intervals_within j.parts p) k) r.views h.views }

    -- the same runs, each under its id
    pub new_ids : map (λ r. r.id) new ≡ map (λ r. r.id) i
    new_ids = new_kept.ids

    pub new_closed : ClosedImage new
    new_closed = closed_runs new new_kept.views

    pub new_within : result_fits new ≡ true → ImageWithin new
    unfolding result_fits
    new_within f = record { count = rw (same_length new i new_ids) w.count; runs = runs_within new small counts new_kept.views }
      where
        small : All (λ r. r.id < 256 ^ 4) new
        small = same_ids (λ n. n < 256 ^ 4) new i new_ids (All-map (λ r h. h.id) i w.runs)

        counts : All (λ r. leb (length r.views) 1024 ≡ true) new
        counts = all_each (λ r. leb (length r.views) 1024) new (and_first (all (λ r. leb (length r.views) 1024) new) _ f)

    pub new_small : result_fits new ≡ true → length (image.write new) ≤ 65536
    unfolding result_fits
    new_small f = leb-true (length (image.write new)) 65536 (and_second (all (λ r. leb (length r.views) 1024) new) _ f)

-- ---- bytes that stand for an image
pub record Stored (l : List ℕ) (i : Image) : Type 0 where
  pub bytes : l ≡ image.write i
  pub within : ImageWithin i
  pub small : length l ≤ 65536

-- what is read from bytes
pub stored : (l : List ℕ) (i : Image) → Bytes l → read_whole image.read l ≡ answer i → Stored l i
stored l i b e =
    let r = whole_read image.read l i e in
    let o = image_layout.only l i [] b r.all in
    record { bytes = o.bytes ∙ append-nil (image.write i); within = image_parts i o.within; small = r.small }

-- and read again
pub read_again : (l : List ℕ) (i : Image) → Stored l i → read_whole image.read l ≡ answer i
unfolding read_whole
read_again l i s =
    let e : image.read l ≡ found.got i [] = ap image.read (s.bytes ∙ sym (append-nil (image.write i))) ∙ image_layout.back i [] (image_within i s.within) in
    rw (le-leb (length l) 65536 s.small, e)

pub job_within : (l : List ℕ) (j : Job) → Bytes l → read_whole job.read l ≡ answer j → All PartWithin j.parts
job_within l j b e =
    let r = whole_read job.read l j e in
    job_parts j (job_layout.only l j [] b r.all).within
