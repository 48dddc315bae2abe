-- Two images that fill one image with drawn ids left open have the same size: check 15 does not tell them apart.
-- Assumes nothing.
use Prim.Native.Nat.{ℕ}
use native.Mathlib.Omega.{arith}
use mathlib.Core.Path.{◌≡◌, refl, sym, ap, ap₂, ◌∙◌}
use mathlib.Core.Bool.{Bool, ◌&&◌}
use mathlib.Core.List.{List, ◌++◌}
use lib.Dec.{leb}
use lib.ListN.{length, length-append}
use Rattle.records.specs.Values.{View, Run, Image}
use Rattle.records.specs.Form.{write_many}
use Rattle.records.specs.Layouts.{view, run, image, up_to}
use Rattle.records.specs.Spans.{run_head}
use Rattle.manifest.specs.Checks.{all}
use Rattle.incremental_progress.specs.Patterns.{after_id}
use Rattle.incremental_progress.specs.Commit.{result_fits}
use Rattle.incremental_progress.proofs.Marked.{blank, Fills, Each, no_more, and, FillsRun, same_id, FillsImage, Closed, AllClosed, none_left, one_more, ClosedImage, no_runs_lem, one_run}
use Rattle.incremental_progress.proofs.Ids.{bare_view}
use Rattle.incremental_progress.proofs.Patterned.{view_bytes_lem, run_bytes_lem, each_length}

both_long : (a b c d : List ℕ) → length a ≡ length b → length c ≡ length d → length (a ++ c) ≡ length (b ++ d)
both_long a b c d p q =
    let x = length-append a c in
    let y = length-append b d in
    omega arith

-- views under one open view differ in their ids alone, and these have 16 bytes each
view_alike : {m v w : View} → Fills m v → Fills m w → Closed v → Closed w → length (view.write v) ≡ length (view.write w)
view_alike {m} {v} {w} f g c d =
    let b : blank v ≡ blank w = sym (bare_view f) ∙ bare_view g in
    let r : length (after_id v) ≡ length (after_id w) = ap (λ (u : View). length (after_id u)) b in
    rw (view_bytes_lem v, view_bytes_lem w) (both_long v.id.0 w.id.0 (after_id v) (after_id w) (c.full ∙ sym d.full) r)

views_alike : {ms vs ws : List View} → Each Fills ms vs → Each Fills ms ws → AllClosed vs → AllClosed ws → length (write_many view.write vs) ≡ length (write_many view.write ws)
unfolding write_many
views_alike no_more no_more none_left none_left = refl
views_alike (and {y = v} {ys = vs} f fs) (and {y = w} {ys = ws} g gs) (one_more c cs) (one_more d ds) =
    both_long (view.write v) (view.write w) (write_many view.write vs) (write_many view.write ws) (view_alike f g c d) (views_alike fs gs cs ds)

run_alike : {m x y : Run} → FillsRun m x → FillsRun m y → AllClosed x.views → AllClosed y.views → length (run.write x) ≡ length (run.write y)
run_alike (same_id {n} {vs} {ws = xs} f) (same_id {ws = ys} g) c d =
    let l : length xs ≡ length ys = sym (each_length f) ∙ each_length g in
    rw (run_bytes_lem (record { id = n; views = xs }), run_bytes_lem (record { id = n; views = ys }))
    (both_long (run_head.write (n, length xs)) (run_head.write (n, length ys)) (write_many view.write xs) (write_many view.write ys) (ap (λ (k : ℕ). length (run_head.write (n, k))) l) (views_alike f g c d))

runs_alike : {ms xs ys : Image} → FillsImage ms xs → FillsImage ms ys → ClosedImage xs → ClosedImage ys → length (write_many run.write xs) ≡ length (write_many run.write ys)
unfolding write_many
runs_alike no_more no_more no_runs_lem no_runs_lem = refl
runs_alike (and {y = x} {ys = xs} f fs) (and {y = y} {ys = ys} g gs) (one_run c cs) (one_run d ds) =
    both_long (run.write x) (run.write y) (write_many run.write xs) (write_many run.write ys) (run_alike f g c d) (runs_alike fs gs cs ds)

image_alike : {m x y : Image} → FillsImage m x → FillsImage m y → ClosedImage x → ClosedImage y → length (image.write x) ≡ length (image.write y)
unfolding image
image_alike {x = x} {y = y} f g c d =
    let l = sym (each_length f) ∙ each_length g in
    both_long ((up_to 1 64).write (length x)) ((up_to 1 64).write (length y)) (write_many run.write x) (write_many run.write y) (ap (λ (k : ℕ). length ((up_to 1 64).write k)) l) (runs_alike f g c d)

counts : {m x : Image} → FillsImage m x → all (λ r. leb (length r.views) 1024) x ≡ all (λ r. leb (length r.views) 1024) m
unfolding all
counts no_more = refl
counts (and (same_id f) fs) = rw (each_length f, counts fs)

pub same_size : {m x y : Image} → FillsImage m x → FillsImage m y → ClosedImage x → ClosedImage y → result_fits x ≡ result_fits y
unfolding result_fits
same_size {m} {x} {y} f g c d =
    ap₂ (λ (a b : Bool). a && b) (counts f ∙ sym (counts g)) (ap (λ (n : ℕ). leb n 65536) (image_alike f g c d))
