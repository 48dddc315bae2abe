-- How many bytes a planned commit writes: as many as its entries take under the ids that they had, whatever is drawn.
-- Assumes nothing.
use Prim.Native.Nat.{ℕ, ◌+◌, ◌*◌}
use native.Mathlib.Omega.{arith}
use mathlib.Core.Path.{◌≡◌, refl, sym, ap, ◌∙◌}
use mathlib.Core.Bool.{Bool, true, false, ◌&&◌}
use mathlib.Core.List.{List, [], ◌∷◌, ◌++◌, map, flat_map, append_assoc}
use lib.Dec.{leb}
use lib.ListN.{length, take, length-append}
use lib.Seq.{length-take-le}
use Rattle.base.specs.Pick.{pick}
use Rattle.base.specs.Lists.{All, All-append, All-mapped, All-of}
use Rattle.comparable_range.specs.Range.{Range}
use Rattle.format.specs.Number.{write_number}
use Rattle.format.proofs.Layouts.{number_length}
use Rattle.records.specs.Form.{write_many}
use Rattle.records.specs.Values.{View, Run, Image, Job}
use Rattle.records.specs.Layouts.{view, run, image}
use Rattle.manifest.specs.Ranges.{effective}
use Rattle.manifest.specs.Checks.{all}
use Rattle.incremental_progress.specs.Ids.{time_length}
use Rattle.incremental_progress.specs.Views.{same_range}
use Rattle.incremental_progress.specs.Draws.{Ten, got, supply, draw, drawn_view, fill, fill_all}
use Rattle.incremental_progress.specs.Entries.{Entry, whole, cut, entry_view, piece_entry, part_entries}
use Rattle.incremental_progress.specs.Gaps.{pieces, gap_entries}
use Rattle.incremental_progress.specs.Patterns.{after_id}
use Rattle.incremental_progress.specs.Commit.{result_fits}
use Rattle.incremental_progress.specs.Plans.{is_source_of, job_gaps, run_draws, draw_entries, new_image, view_bytes, entry_bytes, view_count, views_length, runs_length, image_length, head_bytes}
use Rattle.incremental_progress.proofs.Marked.{Closed, AllClosed, none_left, one_more, ClosedImage, no_runs_lem, one_run, FullParts}
use Rattle.incremental_progress.proofs.Filling.{Full, parts_full, through}
use Rattle.incremental_progress.proofs.Drawing.{IsTen, supply_tens, Of, draw_ten}
use Rattle.incremental_progress.proofs.Patterned.{view_bytes_lem}
use Rattle.incremental_progress.proofs.PlacedSizes.{total}
use Rattle.incremental_progress.proofs.PlanSizes.{map_each, weighs, image_weighs, commit_counts}

-- ---- how many bytes
abbrev view_size : View → ℕ
view_size v = length (view.write v)

abbrev entry_size : Entry → ℕ
entry_size e = view_size (entry_view e)

views_size : (vs : List View) → total view_size vs ≡ length (view_bytes vs)
unfolding total write_many
views_size [] = refl
views_size (v ∷ vs) = rw length-append (omega (arith, views_size vs))

entries_size : (es : List Entry) → total entry_size es ≡ length (entry_bytes es)
unfolding total write_many
entries_size [] = refl
entries_size (e ∷ es) = rw length-append (omega (arith, entries_size es))

-- a new id has 16 bytes, as the old one
drawn_size : (v : View) (r : Range) (ten : Ten) → Closed v → IsTen ten → view_size (drawn_view v r ten) ≡ entry_size (cut v r)
drawn_size v r ten c h =
    let old = entry_view (cut v r) in
    let new = drawn_view v r ten in
    let f : length v.id.0 ≡ 16 = c.full in
    let t = length-take-le time_length v.id.0 (omega arith) in
    let l : length new.id.0 ≡ 16 = length-append (take time_length v.id.0) ten ∙ rw (t, h) in
    let a = length-append new.id.0 (after_id old) in
    let b = length-append old.id.0 (after_id old) in
    rw (view_bytes_lem new, view_bytes_lem old) (omega arith)

-- as the entry, and ten bytes in each draw that is left
fill_size : (e : Entry) (s : List Ten) (v : View) (t : List Ten) → Full e → All IsTen s → fill e s ≡ got v t → (view_size v ≡ entry_size e) × All IsTen t
fill_size (whole w) s v t c a e =
    let f : w ≡ v = cc in
    let g : s ≡ t = cc in
    (rw f, rw (← g) a)
fill_size (cut w r) s v t c a e =
    let h = through (draw w.id s) (λ ten s. got (drawn_view w r ten) s) v t e in
    let k = h.second in
    let f : drawn_view w r h.value ≡ v = cc in
    let g : h.rest ≡ t = cc in
    let d : Of IsTen (got h.value h.rest) = rw h.first at (draw_ten w.id s a) in
    (rw (← f) (drawn_size w r h.value c d.0), rw (← g) d.1)

filled_sizes : (es : List Entry) (s : List Ten) (vs : List View) (t : List Ten) → All Full es → All IsTen s → fill_all es s ≡ got vs t → map view_size vs ≡ map entry_size es
unfolding fill_all
filled_sizes [] s vs t c a e = let f : [] ≡ vs = cc in rw (← f)
filled_sizes (o ∷ es) s vs t c a e =
    let h = through (fill o s) _ vs t e in
    let k = through (fill_all es h.rest) _ vs t h.second in
    let g = k.second in
    let f : h.value ∷ k.value ≡ vs = cc in
    let x = fill_size o s h.value h.rest c.0 a h.first in
    rw (← f, x.0, filled_sizes es h.rest k.value k.rest c.1 x.1 k.first)

-- ---- entries of views with whole ids
gap_full : (gs : List Range) (v : View) → Closed v → All Full (gap_entries gs v)
unfolding gap_entries
gap_full gs v c = All-mapped Full (piece_entry v) (pieces gs (effective v)) (All-of (λ r. go r (same_range r (effective v))) (pieces gs (effective v)))
  where
    go : (r : Range) (b : Bool) → Full (pick b (whole v) (cut v r))
    go r true = c
    go r false = c

views_full : (gs : List Range) {vs : List View} → AllClosed vs → All Full (flat_map (gap_entries gs) vs)
unfolding flat_map
views_full gs none_left = tt
views_full gs (one_more {v} {vs} c d) = All-append Full (gap_entries gs v) (flat_map (gap_entries gs) vs) (gap_full gs v c) (views_full gs d)

pub run_draws_full : (j : Job) (r : Run) → AllClosed r.views → All Full (run_draws j r)
unfolding run_draws
run_draws_full j r c = go (is_source_of j r.id)
  where
    go : (b : Bool) → All Full (pick b (flat_map (gap_entries (job_gaps j)) r.views) [])
    go true = views_full (job_gaps j) c
    go false = tt

runs_draws_full : (j : Job) {rs : List Run} → ClosedImage rs → All Full (flat_map (run_draws j) rs)
unfolding flat_map
runs_draws_full j no_runs_lem = tt
runs_draws_full j (one_run {r} {rs} c d) = All-append Full (run_draws j r) (flat_map (run_draws j) rs) (run_draws_full j r c) (runs_draws_full j d)

-- All entries are of views with 16 bytes in their ids, if the image's and the job's ids have them.
pub draws_full : (j : Job) (i : Image) → FullParts j.parts → ClosedImage i → All Full (draw_entries j i)
unfolding draw_entries
draws_full j i p c = All-append Full (flat_map part_entries j.parts) (flat_map (run_draws j) i) (parts_full p) (runs_draws_full j c)

-- ---- the bytes of a run and of an image
pub run_written : (id : ℕ) (vs : List View) → run.write (record { id = id; views = vs }) ≡ head_bytes id (length vs) ++ view_bytes vs
unfolding run head_bytes
run_written id vs = sym (append_assoc (write_number 4 id) (write_number 2 (length vs * 16)) (view_bytes vs))

pub image_written : (i : Image) → image.write i ≡ write_number 1 (length i) ++ write_many run.write i
unfolding image
image_written i = refl

pub head_length : (id n : ℕ) → length (head_bytes id n) ≡ 6
unfolding head_bytes
head_length id n = length-append (write_number 4 id) (write_number 2 (n * 16)) ∙ rw (number_length 4 id, number_length 2 (n * 16))

pub run_length : (r : Run) → length (run.write r) ≡ 6 + length (view_bytes r.views)
run_length r =
    ap length (run_written r.id r.views)
    ∙ length-append (head_bytes r.id (length r.views)) (view_bytes r.views)
    ∙ ap (λ n. n + length (view_bytes r.views)) (head_length r.id (length r.views))

pub image_length_lem : (i : Image) → length (image.write i) ≡ 1 + length (write_many run.write i)
image_length_lem i =
    ap length (image_written i) ∙ length-append (write_number 1 (length i)) (write_many run.write i)
    ∙ ap (λ n. n + length (write_many run.write i)) (number_length 1 (length i))

-- ---- the new image
run_size : (j : Job) (r : Run) → weighs view_size entry_size j (total entry_size (flat_map part_entries j.parts)) r ≡ views_length j r
unfolding views_length
run_size j r = rw (entries_size (run_draws j r), entries_size (flat_map part_entries j.parts), views_size r.views)

-- The views of each run take as many bytes as its entries, and the destination's also as many as the outputs.
pub commit_sizes : (j : Job) (i : Image) (s : List Ten) (vs : List View) (t : List Ten)
    → All Full (draw_entries j i)
    → All IsTen s
    → fill_all (draw_entries j i) s ≡ got vs t
    → map (λ (r : Run). length (view_bytes r.views)) (new_image j i vs) ≡ map (views_length j) i
commit_sizes j i s vs t c a e =
    sym (map_each (λ r. total view_size r.views) _ (λ r. views_size r.views) (new_image j i vs))
    ∙ image_weighs view_size entry_size j i vs (filled_sizes (draw_entries j i) s vs t c a e)
    ∙ map_each _ (views_length j) (run_size j) i

runs_length_lem : (j : Job) (new rs : List Run) → map (λ (r : Run). length (view_bytes r.views)) new ≡ map (views_length j) rs
    → length (write_many run.write new) ≡ runs_length j rs
unfolding runs_length write_many
runs_length_lem j [] [] e = refl
runs_length_lem j [] (r ∷ rs) e = absurd (let l = ap length e in omega arith)
runs_length_lem j (n ∷ new) [] e = absurd (let l = ap length e in omega arith)
runs_length_lem j (n ∷ new) (r ∷ rs) e =
    let h : length (view_bytes n.views) ≡ views_length j r = cc in
    let k : map (λ (r : Run). length (view_bytes r.views)) new ≡ map (views_length j) rs = cc in
    rw length-append (omega (arith, run_length n, runs_length_lem j new rs k))

pub commit_length : (j : Job) (i : Image) (ids : List ℕ) (vs : List View) (t : List Ten)
    → All Full (draw_entries j i)
    → fill_all (draw_entries j i) (supply ids) ≡ got vs t
    → length (image.write (new_image j i vs)) ≡ image_length j i
unfolding image_length
commit_length j i ids vs t c e =
    image_length_lem (new_image j i vs) ∙ ap (λ n. 1 + n) (runs_length_lem j (new_image j i vs) i (commit_sizes j i (supply ids) vs t c (supply_tens ids) e))

-- ---- check 15, before any id is drawn
all_counts : {A : Type 0} (f : A → ℕ) (xs : List A) → all (λ x. leb (f x) 1024) xs ≡ all (λ n. leb n 1024) (map f xs)
unfolding all
all_counts f [] = refl
all_counts f (x ∷ xs) = rw (all_counts f xs)

pub commit_fits : (j : Job) (i : Image) (ids : List ℕ) (vs : List View) (t : List Ten)
    → All Full (draw_entries j i)
    → fill_all (draw_entries j i) (supply ids) ≡ got vs t
    → result_fits (new_image j i vs) ≡ (all (λ r. leb (view_count j r) 1024) i && leb (image_length j i) 65536)
unfolding result_fits
commit_fits j i ids vs t c e =
    let views : all (λ r. leb (length r.views) 1024) (new_image j i vs) ≡ all (λ r. leb (view_count j r) 1024) i =
    all_counts (λ (r : Run). length r.views) (new_image j i vs)
    ∙ ap (all (λ n. leb n 1024)) (commit_counts j i (supply ids) vs t e)
    ∙ sym (all_counts (view_count j) i)
    in
    rw (views, commit_length j i ids vs t c e)
