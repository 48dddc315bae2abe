-- The open places of a commit's pattern are bytes 6 to 15 of the ids that it draws.
-- Assumes nothing.
use Prim.Native.Nat.{ℕ, zero, suc, ◌+◌}
use native.Mathlib.Omega.{arith}
use mathlib.Core.Path.{◌≡◌, refl, ap, subst, ◌∙◌}
use mathlib.Core.Bool.{Bool, true, false, ◌||◌, true≢false}
use mathlib.Core.Option.{none, some}
use mathlib.Core.List.{List, [], ◌∷◌, ◌++◌, map, flat_map, append_assoc, append-nil}
use lib.ListN.{length, get_or, take, drop, length-append, length-map}
use lib.Seq.{length-take-le, take_at, drop_at}
use lib.Dec.{eqb}
use borrow.Author.Tests.{eq-eqb}
use Rattle.base.specs.Bytes.{Bytes}
use Rattle.base.specs.Outcome.{answer}
use Rattle.base.specs.Pick.{pick}
use Rattle.format.specs.Whole.{whole as read_whole}
use Rattle.format.proofs.Layouts.{number_length}
use Rattle.records.specs.Values.{View, Run, Image, Job}
use Rattle.records.specs.Form.{write_many}
use Rattle.records.specs.Layouts.{view, run, image, job, up_to}
use Rattle.records.specs.Spans.{run_head}
use Rattle.records.specs.declared.ids.ViewId.{ViewId}
use Rattle.manifest.specs.Checks.{has}
use Rattle.incremental_progress.specs.Ids.{time_length, random_length, time_of, kept, drawn}
use Rattle.incremental_progress.specs.Entries.{Entry, whole, cut, entry_view}
use Rattle.incremental_progress.specs.Jobs.{OpenRun, commit_runs}
use Rattle.incremental_progress.specs.Checks.{destination_is_source}
use Rattle.incremental_progress.specs.Draws.{supply}
use Rattle.incremental_progress.specs.Patterns.{Pattern, known, unknown, after_id, id_pattern, entry_pattern, run_pattern, image_pattern, AlikeBut, both_ended, equal, free}
use Rattle.incremental_progress.specs.OpenPlaces.{open_from, open_places, numbers, last_ten, view_places, run_places, id_places, IdsStandThere, undrawn, is_drawn, are_drawn, those, drawn_places, OpenPlacesAreDrawn, NewIdsStandThere, DifferInDrawnBits}
use Rattle.base.specs.Lists.{All, flat_map_append, map_append}
use Rattle.incremental_progress.proofs.Marked.{marked, Fills, Each, no_more, and, FillsRun, same_id, Closed, AllClosed, none_left, one_more, ClosedImage, no_runs_lem, one_run}
use Rattle.incremental_progress.proofs.Filling.{Full, mark_run, marked_runs_lem, runs_full, commit_fills}
use Rattle.incremental_progress.proofs.Patterned.{view_bytes_lem, run_bytes_lem, fits_entry, fits_run}
use Rattle.incremental_progress.proofs.DemandLaws.{fitting_bytes, alike_bytes}
use Rattle.incremental_progress.proofs.NewImages.{new_within, new_small, closed, stored, read_again, job_within}
use Rattle.incremental_progress.proofs.Outcomes.{same_answer}
use Rattle.incremental_progress.proofs.Follow.{full_parts}
use Rattle.incremental_progress.proofs.Outcomes.{Made, accepted_commit}
use Rattle.incremental_progress.proofs.Drawing.{supply_tens}

-- ---- patterns
open_append : (n : ℕ) (p q : Pattern) → open_from n (p ++ q) ≡ open_from n p ++ open_from (n + length p) q
unfolding open_from
open_append n [] q = ap (λ k. open_from k q) (omega arith)
open_append n (some b ∷ p) q = open_append (suc n) p q ∙ ap (λ k. open_from (suc n) p ++ open_from k q) (omega arith)
open_append n (none ∷ p) q = ap (λ l. n ∷ l) (open_append (suc n) p q ∙ ap (λ k. open_from (suc n) p ++ open_from k q) (omega arith))

open_known : (n : ℕ) (l : List ℕ) → open_from n (known l) ≡ []
unfolding open_from
open_known n [] = refl
open_known n (b ∷ l) = open_known (suc n) l

open_unknown : (n k : ℕ) → open_from n (unknown k) ≡ numbers k n
unfolding open_from unknown numbers
open_unknown n zero = refl
open_unknown n (suc k) = ap (λ l. n ∷ l) (open_unknown (suc n) k)

unknown_long : (k : ℕ) → length (unknown k) ≡ k
unfolding unknown
unknown_long zero = refl
unknown_long (suc k) = ap suc (unknown_long k)

known_long : (l : List ℕ) → length (known l) ≡ length l
known_long l = length-map l some

-- ---- entries
-- a drawn id is open from its time on, and a kept one nowhere
drawn_open : (n : ℕ) (time : List ℕ) → open_from n (id_pattern (drawn time)) ≡ numbers random_length (n + length time)
unfolding id_pattern
drawn_open n time = open_append n (known time) (unknown random_length) ∙ rw (open_known n time, known_long time) (open_unknown (n + length time) random_length)

kept_open : (n : ℕ) (id : ViewId) → open_from n (id_pattern (kept id)) ≡ []
unfolding id_pattern
kept_open n id = open_known n id.0

time_long : (v : View) → Closed v → length (time_of v.id) ≡ time_length
time_long v c = let h = c.full in length-take-le time_length v.id.0 (omega arith)

entry_open : (n : ℕ) (e : Entry) → Full e → open_from n (entry_pattern e) ≡ flat_map last_ten (those (is_drawn e ∷ []) (n ∷ []))
unfolding entry_pattern those flat_map
entry_open n (whole v) f = open_append n (id_pattern (kept v.id)) (known (after_id v)) ∙ rw (kept_open n v.id) (open_known _ (after_id v))
entry_open n (cut v r) f =
    open_append n (id_pattern (drawn (time_of v.id))) (known (after_id (entry_view (cut v r))))
    ∙ rw (drawn_open n (time_of v.id), time_long v f) (ap (λ l. numbers random_length (n + time_length) ++ l) (open_known _ (after_id (entry_view (cut v r)))))

-- an id's pattern has the id's 16 bytes
drawn_long : (v : View) → Closed v → length (id_pattern (drawn (time_of v.id))) ≡ length v.id.0
unfolding id_pattern
drawn_long v c =
    let h = c.full in
    length-append (known (time_of v.id)) (unknown random_length) ∙ rw (known_long, time_long v c, unknown_long) (omega arith)

kept_long : (id : ViewId) → length (id_pattern (kept id)) ≡ length id.0
unfolding id_pattern
kept_long id = known_long id.0

entry_long : (e : Entry) → Full e → length (entry_pattern e) ≡ length (view.write (entry_view e))
unfolding entry_pattern
entry_long (whole v) f = rw (view_bytes_lem v, length-append, kept_long v.id, known_long, length-append)
entry_long (cut v r) f = rw (view_bytes_lem (entry_view (cut v r)), length-append, drawn_long v f, known_long, length-append)

one_more_place : (b : Bool) (bs : List Bool) (n : ℕ) (ns : List ℕ) → flat_map last_ten (those (b ∷ []) (n ∷ [])) ++ flat_map last_ten (those bs ns) ≡ flat_map last_ten (those (b ∷ bs) (n ∷ ns))
unfolding those flat_map
one_more_place true bs n ns = ap (λ l. l ++ flat_map last_ten (those bs ns)) (append-nil (last_ten n))
one_more_place false bs n ns = refl

entries_open : (n : ℕ) (es : List Entry) → All Full es → open_from n (flat_map entry_pattern es) ≡ flat_map last_ten (those (map is_drawn es) (view_places n (map entry_view es)))
unfolding flat_map open_from those view_places
entries_open n [] a = refl
entries_open n (e ∷ es) a =
    rw (open_append n (entry_pattern e), entry_open n e a.0, entry_long e a.0, entries_open (n + length (view.write (entry_view e))) es a.1)
    (one_more_place (is_drawn e) (map is_drawn es) n (view_places (n + length (view.write (entry_view e))) (map entry_view es)))

entries_long : (es : List Entry) → All Full es → length (flat_map entry_pattern es) ≡ length (write_many view.write (map entry_view es))
unfolding flat_map write_many
entries_long [] a = refl
entries_long (e ∷ es) a = rw (length-append, entry_long e a.0, entries_long es a.1, length-append)

places_long : (n : ℕ) (es : List Entry) → length (map is_drawn es) ≡ length (view_places n (map entry_view es))
unfolding view_places
places_long n [] = refl
places_long n (e ∷ es) = ap suc (places_long (n + length (view.write (entry_view e))) es)

-- ---- runs
those_append : (a b : List Bool) (m n : List ℕ) → length a ≡ length m → those (a ++ b) (m ++ n) ≡ those a m ++ those b n
unfolding those
those_append [] b [] n e = refl
those_append [] b (k ∷ m) n e = absurd (omega arith)
those_append (x ∷ a) b [] n e = absurd (omega arith)
those_append (x ∷ a) b (k ∷ m) n e = rw (those_append a b m n (omega arith)) (go x)
  where
    go : (x : Bool) → pick x (k ∷ those a m ++ those b n) (those a m ++ those b n) ≡ pick x (k ∷ those a m) (those a m) ++ those b n
    go true = refl
    go false = refl

head_long : (id k : ℕ) → length (run_head.write (id, k)) ≡ 6
head_long id k = rw (length-append, number_length, number_length)

abbrev undrawn_run : OpenRun → Run
undrawn_run o = record { id = o.id; views = map entry_view o.entries }

run_long : (o : OpenRun) → All Full o.entries → length (run_pattern o) ≡ length (run.write (undrawn_run o))
unfolding run_pattern
run_long o a = rw (run_bytes_lem (undrawn_run o), length-append, known_long, head_long, entries_long o.entries a, length-append, head_long)

run_open : (n : ℕ) (o : OpenRun) → All Full o.entries → open_from n (run_pattern o) ≡ flat_map last_ten (those (map is_drawn o.entries) (view_places (n + 6) (map entry_view o.entries)))
unfolding run_pattern
run_open n o a =
    let h : length (known (run_head.write (o.id, length o.entries))) ≡ 6 = known_long (run_head.write (o.id, length o.entries)) ∙ head_long o.id (length o.entries) in
    rw (open_append n (known (run_head.write (o.id, length o.entries))), open_known n (run_head.write (o.id, length o.entries)), h) (entries_open (n + 6) o.entries a)

runs_open : (n : ℕ) (os : List OpenRun) → All (λ o. All Full o.entries) os → open_from n (flat_map run_pattern os) ≡ flat_map last_ten (those (are_drawn os) (run_places n (undrawn os)))
unfolding flat_map open_from those run_places
runs_open n [] a = refl
runs_open n (o ∷ os) a =
    rw (open_append n (run_pattern o), run_open n o a.0, run_long o a.0, runs_open (n + length (run.write (undrawn_run o))) os a.1, those_append (map is_drawn o.entries) (are_drawn os) _ _ (places_long (n + 6) o.entries), flat_map_append)

image_open : (os : List OpenRun) → All (λ o. All Full o.entries) os → open_places (image_pattern os) ≡ flat_map last_ten (drawn_places os)
unfolding image_pattern
image_open os a =
    let c : length (known ((up_to 1 64).write (length os))) ≡ 1 = known_long ((up_to 1 64).write (length os)) ∙ number_length 1 (length os) in
    rw (open_append 0 (known ((up_to 1 64).write (length os))), open_known 0 ((up_to 1 64).write (length os)), c) (runs_open 1 os a)

pub open_places_are_drawn : OpenPlacesAreDrawn
open_places_are_drawn first record' before progress b c e f =
    image_open (commit_runs progress before)
    (runs_full progress before (full_parts progress.parts (job_within record' progress c f)) (closed before (stored first before b e).within))

-- ---- the new image
entry_size_lem : (e : Entry) {w : View} → Full e → Fills (marked e) w → Closed w → length (view.write w) ≡ length (view.write (entry_view e))
entry_size_lem e {w} o f c = fitting_bytes.as_long (entry_pattern e) (view.write w) (fits_entry e o f c) ∙ entry_long e o

view_places_lem : (n : ℕ) (es : List Entry) {ws : List View} → All Full es → Each Fills (map marked es) ws → AllClosed ws → view_places n ws ≡ view_places n (map entry_view es)
unfolding view_places
view_places_lem n [] o no_more none_left = refl
view_places_lem n (e ∷ es) o (and f fs) (one_more c cs) = rw (entry_size_lem e o.0 f c, view_places_lem (n + length (view.write (entry_view e))) es o.1 fs cs)

run_places_lem : (n : ℕ) (os : List OpenRun) {rs : Image} → All (λ o. All Full o.entries) os → Each FillsRun (map mark_run os) rs → ClosedImage rs → run_places n rs ≡ run_places n (undrawn os)
unfolding run_places
run_places_lem n [] a no_more no_runs_lem = refl
run_places_lem n (o ∷ os) a (and {y = r} f fs) (one_run c cs) =
    let s : length (run.write r) ≡ length (run.write (undrawn_run o)) = fitting_bytes.as_long (run_pattern o) (run.write r) (fits_run o a.0 f c) ∙ run_long o a.0 in
    rw (s, run_places_lem (n + length (run.write (undrawn_run o))) os a.1 fs cs, of_views f c)
  where
    of_views : {r : Run} → FillsRun (mark_run o) r → AllClosed r.views → view_places (n + 6) r.views ≡ view_places (n + 6) (map entry_view o.entries)
    of_views (same_id f) c = view_places_lem (n + 6) o.entries a.0 f c

pub new_ids_stand_there : NewIdsStandThere
unfolding destination_is_source
new_ids_stand_there first record' ids room new before now progress b c e f g h =
    let a = accepted_commit first record' ids room new g in
    let x : a.before ≡ before = same_answer a.before_is e in
    let y : a.progress ≡ progress = same_answer a.progress_is f in
    let m : Made before progress ids a.new = rw (x, y) at a.made in
    let w = (stored first before b e).within in
    let p = job_within record' progress c f in
    let n = new_within progress before (supply ids) a.new m.left m.passes.source w p (supply_tens ids) m.drawn m.fits in
    let s = new_small progress before (supply ids) a.new m.left m.passes.source w p (supply_tens ids) m.drawn m.fits in
    let q = full_parts progress.parts p in
    let k = commit_fills progress before a.new (supply ids) m.left q (closed before w) m.drawn in
    let z : now ≡ a.new = same_answer h (read_again new a.new (record { bytes = a.written; within = n; small = rw a.written s })) in
    ap id_places z ∙ run_places_lem 1 (commit_runs progress before) (runs_full progress before q (closed before w)) (rw marked_runs_lem at k) (closed a.new n)

-- ---- where the ids stand
both : {A : Type 0} {a b : A} {l m : List A} → a ≡ b → l ≡ m → a ∷ l ≡ b ∷ m
both e f = cc

id_at : (done rest : List ℕ) (n : ℕ) → length done ≡ n → (v : View) → Closed v → take 16 (drop n (done ++ (view.write v ++ rest))) ≡ v.id.0
id_at done rest n e v c = rw (drop_at done (view.write v ++ rest) n e, view_bytes_lem v, append_assoc) (take_at v.id.0 _ 16 c.full)

views_there : (done rest : List ℕ) (n : ℕ) → length done ≡ n → (vs : List View) → AllClosed vs
    → map (λ k. take 16 (drop k (done ++ (write_many view.write vs ++ rest)))) (view_places n vs) ≡ map (λ v. v.id.0) vs
unfolding view_places write_many
views_there done rest n e [] none_left = refl
views_there done rest n e (v ∷ vs) (one_more c cs) =
    let w = view.write v in
    let all = write_many view.write vs in
    let l : (done ++ w) ++ (all ++ rest) ≡ done ++ ((w ++ all) ++ rest) = simp append_assoc in
    let h : take 16 (drop n (done ++ ((w ++ all) ++ rest))) ≡ v.id.0 = rw append_assoc (id_at done (all ++ rest) n e v c) in
    let d : length (done ++ w) ≡ n + length w = length-append done w ∙ ap (λ k. k + length w) e in
    both h
    (subst (λ (z : List ℕ). map (λ k. take 16 (drop k z)) (view_places (n + length w) vs) ≡ map (λ u. u.id.0) vs) l
    (views_there (done ++ w) rest (n + length w) d vs cs))

runs_there : (done : List ℕ) (n : ℕ) → length done ≡ n → (rs : Image) → ClosedImage rs
    → map (λ k. take 16 (drop k (done ++ write_many run.write rs))) (run_places n rs) ≡ map (λ v. v.id.0) (flat_map (λ r. r.views) rs)
unfolding run_places write_many flat_map
runs_there done n e [] no_runs_lem = refl
runs_there done n e (r ∷ rs) (one_run c cs) =
    let w = run.write r in
    let head = run_head.write (r.id, length r.views) in
    let all = write_many run.write rs in
    let l : (done ++ head) ++ (write_many view.write r.views ++ all) ≡ done ++ (w ++ all) = rw run_bytes_lem (simp append_assoc) in
    let d : length (done ++ head) ≡ n + 6 = rw (length-append, e, head_long) in
    let u : length (done ++ w) ≡ n + length w = length-append done w ∙ ap (λ k. k + length w) e in
    let here = subst (λ (z : List ℕ). map (λ k. take 16 (drop k z)) (view_places (n + 6) r.views) ≡ map (λ v. v.id.0) r.views) l
    (views_there (done ++ head) all (n + 6) d r.views c) in
    let later = subst (λ (z : List ℕ). map (λ k. take 16 (drop k z)) (run_places (n + length w) rs) ≡ map (λ v. v.id.0) (flat_map (λ r. r.views) rs)) (append_assoc done w all)
    (runs_there (done ++ w) (n + length w) u rs cs) in
    rw (map_append _ (view_places (n + 6) r.views), map_append _ r.views, here, later)

pub ids_stand_there : IdsStandThere
unfolding image
ids_stand_there l i b e =
    let s = stored l i b e in
    rw s.bytes (runs_there ((up_to 1 64).write (length i)) 1 (number_length 1 (length i)) i (closed i s.within))

-- ---- bytes that are alike
no_other : (a b : Bool) → (a || b) ≡ false → b ≡ false
no_other true b e = absurd (true≢false e)
no_other false b e = e

alike_elsewhere : {p : Pattern} {l m : List ℕ} → AlikeBut p l m → (k n : ℕ) → has (k + n) (open_from k p) ≡ false → get_or l n 0 ≡ get_or m n 0
unfolding open_from has
alike_elsewhere both_ended k n e = refl
alike_elsewhere (equal f) k zero e = refl
alike_elsewhere (equal f) k (suc n) e =
    let h : k + suc n ≡ suc k + n = omega arith in
    alike_elsewhere f (suc k) n (rw h at e)
alike_elsewhere (free f) k zero e =
    let h : k + 0 ≡ k = omega arith in
    absurd (true≢false (rw (h, eq-eqb k k refl) at e))
alike_elsewhere (free {p = p} f) k (suc n) e =
    let h : k + suc n ≡ suc k + n = omega arith in
    alike_elsewhere f (suc k) n (rw h at (no_other (eqb (k + suc n) k) (has (k + suc n) (open_from (suc k) p)) e))

pub differ_in_drawn_bits : {first record' l m : List ℕ} {before : Image} {progress : Job} → Bytes first → Bytes record' → read_whole image.read first ≡ answer before → read_whole job.read record' ≡ answer progress
    → AlikeBut (image_pattern (commit_runs progress before)) l m → DifferInDrawnBits (commit_runs progress before) l m
differ_in_drawn_bits {first} {record'} {l} {m} {before} {progress} b c e f a =
    record {
      as_long = alike_bytes.as_long _ l m a;
      elsewhere = λ n h. let z : 0 + n ≡ n = omega arith in alike_elsewhere a 0 n (rw (z, open_places_are_drawn first record' before progress b c e f) h);
    }
