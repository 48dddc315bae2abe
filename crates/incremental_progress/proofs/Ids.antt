-- Images with drawn ids left open: a commit leaves open what the commit of a filled image does, and neither the checks nor
-- what is shown depends on ids.
-- Assumes nothing.
use Prim.Native.Nat.{ℕ, ◌<◌}
use native.Mathlib.Omega.{arith}
use mathlib.Core.Path.{◌≡◌, refl, sym, ap, ap₂, ◌∙◌}
use mathlib.Core.Bool.{Bool, true, false, not, ◌||◌}
use mathlib.Core.Option.{Option, none, some}
use mathlib.Core.List.{List, [], ◌∷◌, ◌++◌, map, flat_map, cons≢nil, head-eq_of_cons-eq, tail-eq_of_cons-eq}
use lib.Dec.{eqb}
use lib.ListN.{length, length-take}
use Rattle.base.specs.Pick.{pick}
use Rattle.key.specs.Order.{Key}
use Rattle.comparable_range.specs.Range.{Range}
use Rattle.comparable_range.specs.Cut.{cut_at_most}
use Rattle.records.specs.Values.{Table, View, Run, Image, Part, Job}
use Rattle.records.specs.declared.ids.ViewId.{ViewId}
use Rattle.manifest.specs.Ranges.{effective}
use Rattle.manifest.specs.Checks.{all, has, table_passes, ascend, starts, image_checks}
use Rattle.incremental_progress.specs.Intervals.{Interval, cut_out}
use Rattle.incremental_progress.specs.Views.{start, same_range, shown}
use Rattle.incremental_progress.specs.Ids.{time_length, time_of}
use Rattle.incremental_progress.specs.Entries.{whole, cut}
use Rattle.incremental_progress.proofs.Marked.{marked, piece, retained, cut_run, cut_destination, published, marked_views, marked_runs, blank, Fills, kept, drawn, Each, no_more, and, same_id, FillsImage, AllClosed, none_left, one_more, ClosedImage, one_run}
use Rattle.incremental_progress.specs.Parts.{intervals}
use Rattle.incremental_progress.specs.Jobs.{is_output, others}
use Rattle.incremental_progress.specs.Checks.{covered, output_views_covered}
use Rattle.incremental_progress.proofs.Commit.{beside}
use Rattle.base.specs.Lists.{take_again}
use Rattle.base.specs.Sort.{insert, sort}
use Rattle.incremental_progress.proofs.Checks.{Checked}

module _ {A : Type 0} {R : A → A → Type 0} where
  pub Each-append : {s t u w : List A} → Each R s t → Each R u w → Each R (s ++ u) (t ++ w)
  Each-append no_more b = b
  Each-append (and r a) b = and r (Each-append a b)

  pub Each-flatMap : (f : A → List A) → ((x y : A) → R x y → Each R (f x) (f y)) → {s t : List A} → Each R s t → Each R (flat_map f s) (flat_map f t)
  unfolding flat_map
  Each-flatMap f h no_more = no_more
  Each-flatMap f h (and {x} {y} r a) = Each-append (h x y r) (Each-flatMap f h a)

fills_start : {m v : View} → Fills m v → start m ≡ start v
unfolding effective
fills_start kept = refl
fills_start drawn = refl

fills_piece : {m v : View} (r : Range) → Fills m v → Fills (piece m r) (piece v r)
unfolding piece effective
fills_piece r kept = kept
fills_piece r (drawn {v}) = go (same_range r (effective v))
  where
    go : (b : Bool) → Fills (marked (pick b (whole (blank v)) (cut (blank v) r))) (marked (pick b (whole v) (cut v r)))
    go true = drawn
    go false = rw (take_again) kept

fills_retained : (ivs : List Interval) (m v : View) → Fills m v → Each Fills (retained ivs m) (retained ivs v)
unfolding retained effective
fills_retained ivs m v kept = go (retained ivs v)
  where
    go : (vs : List View) → Each Fills vs vs
    go [] = no_more
    go (v ∷ vs) = and kept (go vs)
fills_retained ivs m v drawn = go (cut_out ivs (effective v ∷ []))
  where
    go : (rs : List Range) → Each Fills (map (piece (blank v)) rs) (map (piece v) rs)
    go [] = no_more
    go (r ∷ rs) = and (fills_piece r drawn) (go rs)

fills_insert : {m v : View} {ms vs : List View} → Fills m v → Each Fills ms vs → Each Fills (insert cut_at_most start m ms) (insert cut_at_most start v vs)
unfolding insert
fills_insert f no_more = and f no_more
fills_insert {m} {v} f (and {x} {y} {xs} {ys} g a) = rw (fills_start f, fills_start g) (go (cut_at_most (start v) (start y)) (fills_insert f a))
  where
    go : (b : Bool) → Each Fills (insert cut_at_most start m xs) (insert cut_at_most start v ys) → Each Fills (pick b (m ∷ x ∷ xs) (x ∷ insert cut_at_most start m xs)) (pick b (v ∷ y ∷ ys) (y ∷ insert cut_at_most start v ys))
    go true h = and f (and g a)
    go false h = and g h

pub fills_sort : {ms vs : List View} → Each Fills ms vs → Each Fills (sort cut_at_most start ms) (sort cut_at_most start vs)
unfolding sort
fills_sort no_more = no_more
fills_sort (and f a) = fills_insert f (fills_sort a)

pub fills_self : (vs : List View) → Each Fills vs vs
fills_self [] = no_more
fills_self (v ∷ vs) = and kept (fills_self vs)

fills_others : (ps : List Part) {ms vs : List View} → Each Fills ms vs → Each Fills (others ps ms) (others ps vs)
unfolding others
fills_others ps no_more = no_more
fills_others ps (and {x} {y} {xs} {ys} f a) = rw (output f) (go (is_output ps y.table) (fills_others ps a))
  where
    output : {m v : View} → Fills m v → is_output ps m.table ≡ is_output ps v.table
    output kept = refl
    output drawn = refl

    go : (b : Bool) → Each Fills (others ps xs) (others ps ys) → Each Fills (pick b (others ps xs) (x ∷ others ps xs)) (pick b (others ps ys) (y ∷ others ps ys))
    go true h = h
    go false h = and f h

fills_views : (j : Job) (n : ℕ) {ms vs : List View} → Each Fills ms vs → Each Fills (marked_views j n ms) (marked_views j n vs)
unfolding marked_views cut_destination cut_run
fills_views j n {ms} {vs} a = go (eqb n j.destination) (has n j.sources)
  where
    ivs : List Interval
    ivs = intervals j.parts

    outs : List View
    outs = flat_map published j.parts

    go : (d m : Bool) → Each Fills (pick d (sort cut_at_most start (flat_map (retained ivs) (others j.parts ms) ++ outs)) (pick m (flat_map (retained ivs) ms) ms))
        (pick d (sort cut_at_most start (flat_map (retained ivs) (others j.parts vs) ++ outs)) (pick m (flat_map (retained ivs) vs) vs))
    go true m = fills_sort (Each-append (Each-flatMap (retained ivs) (fills_retained ivs) (fills_others j.parts a)) (fills_self outs))
    go false true = Each-flatMap (retained ivs) (fills_retained ivs) a
    go false false = a

-- A commit of an image that leaves random bits open leaves open what the commit of a filled one does, and more.
pub fills_commit : (j : Job) {ms rs : Image} → FillsImage ms rs → FillsImage (marked_runs j ms) (marked_runs j rs)
unfolding marked_runs
fills_commit j no_more = no_more
fills_commit j (and (same_id {n} a) b) = and (same_id (fills_views j n a)) (fills_commit j b)

-- ---- filling in steps
fills_trans : {m v w : View} → Fills m v → Fills v w → Fills m w
fills_trans kept g = g
fills_trans drawn kept = drawn
fills_trans drawn (drawn {v}) = rw (take_again) drawn

views_trans : {ms vs ws : List View} → Each Fills ms vs → Each Fills vs ws → Each Fills ms ws
views_trans no_more no_more = no_more
views_trans (and f a) (and g b) = and (fills_trans f g) (views_trans a b)

pub image_trans : {ms vs ws : Image} → FillsImage ms vs → FillsImage vs ws → FillsImage ms ws
image_trans no_more no_more = no_more
image_trans (and (same_id a) b) (and (same_id c) d) = and (same_id (views_trans a c)) (image_trans b d)

pub image_self : (rs : Image) → FillsImage rs rs
image_self [] = no_more
image_self (r ∷ rs) = and (same_id (fills_self r.views)) (image_self rs)

-- ---- the checks do not read ids
abbrev bare : Run → Run
bare r = record { id = r.id; views = map blank r.views }

pub bare_view : {m v : View} → Fills m v → blank m ≡ blank v
bare_view kept = refl
bare_view drawn = rw take_again

bare_views : {ms vs : List View} → Each Fills ms vs → map blank ms ≡ map blank vs
bare_views no_more = refl
bare_views (and f a) = rw (bare_view f, bare_views a)

bare_image : {ms rs : Image} → FillsImage ms rs → map bare ms ≡ map bare rs
bare_image no_more = refl
bare_image (and (same_id a) b) = rw (bare_views a, bare_image b)

all_bare : (f : View → Bool) → ((v : View) → f (blank v) ≡ f v) → (vs : List View) → all f (map blank vs) ≡ all f vs
unfolding all
all_bare f h [] = refl
all_bare f h (v ∷ vs) = rw (h v, all_bare f h vs)

all_run_bare : (f : Run → Bool) → ((r : Run) → f (bare r) ≡ f r) → (rs : Image) → all f (map bare rs) ≡ all f rs
unfolding all
all_run_bare f h [] = refl
all_run_bare f h (r ∷ rs) = rw (h r, all_run_bare f h rs)

ids_bare : (rs : Image) → map (λ (r : Run). r.id) (map bare rs) ≡ map (λ (r : Run). r.id) rs
ids_bare [] = refl
ids_bare (r ∷ rs) = rw (ids_bare rs)

starts_bare : (vs : List View) → starts (map blank vs) ≡ starts vs
unfolding effective
starts_bare [] = refl
starts_bare (v ∷ vs) = rw (starts_bare vs)

tables_bare : (rs : Image) → (image_checks (map bare rs)).tables ≡ (image_checks rs).tables
unfolding image_checks table_passes
tables_bare rs = all_run_bare _ (λ r. all_bare table_passes (λ v. refl) r.views) rs

order_bare : (rs : Image) → (image_checks (map bare rs)).order ≡ (image_checks rs).order
unfolding image_checks
order_bare rs = rw (all_run_bare _ (λ r. ap ascend (starts_bare r.views)) rs, ids_bare rs)

covered_bare : (rs : Image) (j : Job) → output_views_covered (map bare rs) j ≡ output_views_covered rs j
unfolding output_views_covered covered effective
covered_bare rs j =
    all_run_bare _ (λ r. ap (λ b. not (eqb r.id j.destination) || b)
    (all_bare (λ v. not (is_output j.parts v.table) || covered (intervals j.parts) v) (λ v. refl) r.views)) rs

pub covered_fills : (j : Job) {ms rs : Image} → FillsImage ms rs → output_views_covered ms j ≡ output_views_covered rs j
covered_fills j {ms} {rs} f = sym (covered_bare ms j) ∙ ap (λ (t : Image). output_views_covered t j) (bare_image f) ∙ covered_bare rs j

-- so what passes of a filled image passes of the one that leaves bits open
pub fills_checked : (j : Job) {ms rs : Image} → FillsImage ms rs → Checked rs j → Checked ms j
fills_checked j {ms} {rs} f c =
    let e = bare_image f in
    record {
      tables = sym (tables_bare ms) ∙ ap (λ (t : Image). (image_checks t).tables) e ∙ tables_bare rs ∙ c.tables;
      order = sym (order_bare ms) ∙ ap (λ (t : Image). (image_checks t).order) e ∙ order_bare rs ∙ c.order;
      job = c.job;
      covered = covered_fills j f ∙ c.covered;
    }

-- ---- what is shown does not depend on ids
fills_shown : (q : Table → Bool) (x : Key) {ms vs : List View} → Each Fills ms vs → shown q x vs ≡ shown q x ms
unfolding shown effective
fills_shown q x no_more = refl
fills_shown q x (and kept a) = rw (fills_shown q x a)
fills_shown q x (and drawn a) = rw (fills_shown q x a)

pub image_shown : (q : Table → Bool) (x : Key) {ms rs : Image} → FillsImage ms rs → map (λ (r : Run). shown q x r.views) rs ≡ map (λ (r : Run). shown q x r.views) ms
image_shown q x no_more = refl
image_shown q x (and (same_id a) b) = rw (fills_shown q x a, image_shown q x b)

pub image_ids_lem : {ms rs : Image} → FillsImage ms rs → map (λ (r : Run). r.id) rs ≡ map (λ (r : Run). r.id) ms
image_ids_lem no_more = refl
image_ids_lem (and (same_id a) b) = rw (image_ids_lem b)

-- the time of an id is no id
pub time_short : (id : ViewId) → length (time_of id) < 16
time_short id = omega (arith, length-take time_length id.0)

-- a view with its bits is filled by itself only
pub closed_views : {ms vs : List View} → Each Fills ms vs → AllClosed ms → vs ≡ ms
closed_views no_more none_left = refl
closed_views (and kept a) (one_more c d) = rw (closed_views a d)
closed_views (and (drawn {v}) a) (one_more c d) = let e = c.full in let h = time_short v.id in absurd (omega arith)

-- the runs beside the job
run_beside : (j : Job) (n : ℕ) {vs ws : List View} (r : Run) → Each Fills vs ws → AllClosed r.views
    → beside j (record { id = n; views = vs }) ≡ beside j r → beside j (record { id = n; views = ws }) ≡ beside j r
run_beside j n {vs} {ws} r a c e =
    go (eqb n j.destination) (has n j.sources) (eqb r.id j.destination) (has r.id j.sources) e
  where
    go : (d m d' m' : Bool)
        → pick d none (pick m none (some (record { id = n; views = vs }))) ≡ pick d' none (pick m' none (some r))
        → pick d none (pick m none (some (record { id = n; views = ws }))) ≡ pick d' none (pick m' none (some r))
    go true m d' m' e = e
    go false true d' m' e = e
    go false false true m' e = cc
    go false false false true e = cc
    go false false false false e =
        let f : record { id = n; views = vs } ≡ r = cc in
        rw (closed_views a (rw (ap (λ (t : Run). t.views) (sym f)) at c)) e

pub image_beside : (j : Job) (first : Image) {ms rs : Image} → FillsImage ms rs → ClosedImage first → map (beside j) ms ≡ map (beside j) first → map (beside j) rs ≡ map (beside j) first
image_beside j first no_more c e = e
image_beside j [] (and f b) c e = absurd (cons≢nil e)
image_beside j (r ∷ first) (and (same_id {n} a) b) (one_run c d) e =
    ap₂ (λ (o : Option Run) (os : List (Option Run)). o ∷ os) (run_beside j n r a c (head-eq_of_cons-eq e)) (image_beside j first b d (tail-eq_of_cons-eq e))
