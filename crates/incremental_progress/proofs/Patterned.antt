-- The bytes of an image that fills a commit fit the pattern of the commit.
-- Assumes nothing.
use Prim.Native.Nat.{ℕ, suc, ◌+◌}
use native.Mathlib.Omega.{arith}
use mathlib.Core.Path.{◌≡◌, refl, sym, ap, subst, ◌∙◌}
use mathlib.Core.Option.{some}
use mathlib.Core.List.{List, [], ◌∷◌, ◌++◌, map, flat_map, append_assoc}
use lib.ListN.{length, take, drop, length-drop, length-map, take-append-drop}
use Rattle.comparable_range.specs.Range.{Range}
use Rattle.format.specs.Number.{write_number}
use Rattle.records.specs.Values.{View, Run, Image, Job}
use Rattle.records.specs.Form.{write_many}
use Rattle.records.specs.Layouts.{view, run, image, up_to}
use Rattle.records.specs.Spans.{run_head}
use Rattle.records.specs.declared.ids.ViewId.{ViewId}
use Rattle.incremental_progress.specs.Ids.{time_length, random_length, time_of}
use Rattle.incremental_progress.specs.Ids as ids
use Rattle.incremental_progress.specs.Entries.{Entry, whole, cut}
use Rattle.incremental_progress.specs.Jobs.{OpenRun, commit_runs}
use Rattle.incremental_progress.specs.Patterns.{Pattern, known, unknown, after_id, id_pattern, entry_pattern, run_pattern, image_pattern, Fits, ended, same, any, AlikeBut, both_ended, equal, free}
use Rattle.base.specs.Lists.{All}
use Rattle.incremental_progress.proofs.Marked.{cut_view, marked, marked_runs, Fills, kept, drawn, Each, no_more, and, FillsRun, same_id, FillsImage, Closed, AllClosed, none_left, one_more, ClosedImage, no_runs_lem, one_run, FullParts}
use Rattle.incremental_progress.proofs.Ids.{time_short}
use Rattle.incremental_progress.proofs.Filling.{Full, mark_run, marked_runs_lem, runs_full}

-- ---- patterns
pub fits_known : (l : List ℕ) → Fits (known l) l
fits_known [] = ended
fits_known (b ∷ l) = same (fits_known l)

pub fits_unknown : (l : List ℕ) → Fits (unknown (length l)) l
unfolding unknown
fits_unknown [] = ended
fits_unknown (b ∷ l) = any (fits_unknown l)

pub fits_both : {p q : Pattern} {l m : List ℕ} → Fits p l → Fits q m → Fits (p ++ q) (l ++ m)
fits_both ended g = g
fits_both (same f) g = same (fits_both f g)
fits_both (any f) g = any (fits_both f g)

-- two that fit one pattern
pub alike : {p : Pattern} {l m : List ℕ} → Fits p l → Fits p m → AlikeBut p l m
alike ended ended = both_ended
alike (same f) (same g) = equal (alike f g)
alike (any f) (any g) = free (alike f g)

-- ---- entries
pub view_bytes_lem : (v : View) → view.write v ≡ v.id.0 ++ after_id v
unfolding view
view_bytes_lem v = refl

-- what is known and what is open make up the whole
fits_split : (n m : ℕ) (l : List ℕ) → length l ≡ n + m → Fits (known (take n l) ++ unknown m) l
fits_split n m l e =
    let k : m ≡ length (drop n l) = rw length-drop (omega arith) in
    let f = fits_both (fits_known (take n l)) (fits_unknown (drop n l)) in
    rw k (subst (Fits (known (take n l) ++ unknown (length (drop n l)))) (take-append-drop n l) f)

-- so the 16 bytes of a drawn id
fits_drawn : (id : ViewId) → length id.0 ≡ 16 → Fits (id_pattern (ids.drawn (time_of id))) id.0
unfolding id_pattern
fits_drawn id e = fits_split time_length random_length id.0 e

-- an id with its 16 bytes is filled by itself alone
fits_whole : (v : View) {w : View} → Fills v w → Closed v → Fits (entry_pattern (whole v)) (view.write w)
unfolding entry_pattern id_pattern
fits_whole v kept c = rw (view_bytes_lem v) (fits_both (fits_known v.id.0) (fits_known (after_id v)))
fits_whole v (drawn {v = w}) c = let e = c.full in let h = time_short w.id in absurd (omega arith)

fits_cut : (v : View) (r : Range) {m w : View} → Fills m w → m ≡ cut_view v r → Closed w → Fits (entry_pattern (cut v r)) (view.write w)
unfolding entry_pattern id_pattern
fits_cut v r (kept {v = w}) e c =
    let i : length w.id.0 ≡ length (time_of v.id) = ap (λ (u : View). length u.id.0) e in
    let f = c.full in
    let h = time_short v.id in
    absurd (omega arith)
fits_cut v r (drawn {v = w}) e c =
    let t : time_of w.id ≡ time_of v.id = ap (λ (u : View). u.id.0) e in
    let a : w.table ≡ v.table = ap (λ (u : View). u.table) e in
    let b : w.visible ≡ some r = ap (λ (u : View). u.visible) e in
    rw (view_bytes_lem w, ← t, ← a, ← b) (fits_both (fits_drawn w.id c.full) (fits_known (after_id w)))

pub fits_entry : (e : Entry) {w : View} → Full e → Fills (marked e) w → Closed w → Fits (entry_pattern e) (view.write w)
fits_entry (whole v) o f c = fits_whole v f o
fits_entry (cut v r) o f c = fits_cut v r f refl c

fits_entries : (es : List Entry) {ws : List View} → All Full es → Each Fills (map marked es) ws → AllClosed ws → Fits (flat_map entry_pattern es) (write_many view.write ws)
unfolding flat_map write_many
fits_entries [] o no_more none_left = ended
fits_entries (e ∷ es) o (and f fs) (one_more c cs) = fits_both (fits_entry e o.0 f c) (fits_entries es o.1 fs cs)

-- ---- runs and images
pub each_length : {A : Type 0} {R : A → A → Type 0} {xs ys : List A} → Each R xs ys → length xs ≡ length ys
each_length no_more = refl
each_length (and r rs) = ap suc (each_length rs)

pub run_bytes_lem : (r : Run) → run.write r ≡ run_head.write (r.id, length r.views) ++ write_many view.write r.views
unfolding run
run_bytes_lem r = sym (append_assoc (write_number 4 r.id) _ _)

pub fits_run : (o : OpenRun) {r : Run} → All Full o.entries → FillsRun (mark_run o) r → AllClosed r.views → Fits (run_pattern o) (run.write r)
unfolding run_pattern
fits_run o a (same_id {n} {ws} f) c =
    let m : length o.entries ≡ length ws = sym (length-map o.entries marked) ∙ each_length f in
    rw (run_bytes_lem (record { id = n; views = ws }), m) (fits_both (fits_known (run_head.write (n, length ws))) (fits_entries o.entries a f c))

fits_runs : (os : List OpenRun) {rs : List Run} → All (λ o. All Full o.entries) os → Each FillsRun (map mark_run os) rs → ClosedImage rs → Fits (flat_map run_pattern os) (write_many run.write rs)
unfolding flat_map write_many
fits_runs [] a no_more no_runs_lem = ended
fits_runs (o ∷ os) a (and f fs) (one_run c cs) = fits_both (fits_run o a.0 f c) (fits_runs os a.1 fs cs)

fits_open : (os : List OpenRun) {new : Image} → All (λ o. All Full o.entries) os → FillsImage (map mark_run os) new → ClosedImage new → Fits (image_pattern os) (image.write new)
unfolding image_pattern image
fits_open os {new} a f c =
    let m : length os ≡ length new = sym (length-map os mark_run) ∙ each_length f in
    rw m (fits_both (fits_known ((up_to 1 64).write (length new))) (fits_runs os a f c))

-- The bytes of an image all of whose ids have 16 bytes, and that fills a commit.
pub fits_image :
    (j : Job) (i : Image) {new : Image}
    → FullParts j.parts
    → ClosedImage i
    → FillsImage (marked_runs j i) new
    → ClosedImage new
    → Fits (image_pattern (commit_runs j i)) (image.write new)
fits_image j i p d f c = fits_open (commit_runs j i) (runs_full j i p d) (rw marked_runs_lem at f) c
