-- One commit, and lists of commits, over values.
-- Assumes nothing.
use Prim.Native.Nat.{ℕ, ◌+◌}
use native.Mathlib.Omega.{arith}
use mathlib.Core.Path.{◌≡◌, refl, sym, ap, ◌∙◌}
use mathlib.Core.Bool.{Bool, true, false, ◌&&◌, true≢false}
use mathlib.Core.Option.{Option, none, some}
use mathlib.Core.List.{List, [], ◌∷◌, map, flat_map}
use lib.Dec.{eqb}
use Rattle.base.specs.Pick.{pick}
use Rattle.key.specs.Order.{Key}
use Rattle.comparable_range.specs.Range.{holds}
use Rattle.comparable_range.specs.Cut.{below}
use Rattle.records.specs.Values.{Table, View, Part, Run, Image, Job}
use Rattle.manifest.specs.Ranges.{effective}
use Rattle.manifest.specs.Checks.{has}
use Rattle.incremental_progress.specs.Intervals.{any_holds, bit}
use Rattle.incremental_progress.specs.Views.{start, shown}
use Rattle.incremental_progress.proofs.Marked.{cut_run, cut_destination, published, marked_views, marked_runs}
use Rattle.incremental_progress.specs.Parts.{intervals, listed_in}
use Rattle.incremental_progress.specs.Jobs.{is_output, others, LaterJob, expected}
use Rattle.base.specs.Lists.{All, All-map, All-both, All-unmapped, map_alike}
use Rattle.incremental_progress.proofs.Sort.{Sorted}
use Rattle.incremental_progress.proofs.Cutting.{Proper, Grown, later_proper, grown_within}
use Rattle.incremental_progress.proofs.Subtraction.{span_of, any_cuts, Sound}
use Rattle.incremental_progress.proofs.Views as views
use Rattle.incremental_progress.proofs.Views.{Showing, cut_run_later}
use Rattle.incremental_progress.proofs.Job.{Planned, job_shown}
use Rattle.incremental_progress.proofs.Publish.{Sane, Under, retained_none, job_vanishes}
use Rattle.incremental_progress.proofs.Later.{intervals_grown, intervals_self}
use Rattle.incremental_progress.proofs.Destination.{shown_destination, destination_later}

-- ---- what the checks say of a job and an image
abbrev pub Parts : Job → Type 0
Parts j = Planned below j.parts

-- checks 5 and 6: the views of a run start at keys, show some place, and start in order
pub record Ordered (r : Run) : Type 0 where
  pub sane : All Sane r.views
  pub sorted : Sorted start r.views

-- check 12: a destination view of an output table shows only keys that lie in durable intervals
abbrev pub Replaced : Job → List View → Type 0
Replaced j vs = All (λ v. is_output j.parts v.table ≡ true → Under (intervals j.parts) v) vs

-- ---- a commit that drops nothing
abbrev pub ideal_views : Job → ℕ → List View → List View
ideal_views j n vs =
    pick (eqb n j.destination) (cut_destination (intervals j.parts) (flat_map published j.parts) vs)
    (pick (has n j.sources) (cut_run (intervals j.parts) vs) vs)

cut_others : (j : Job) → All Proper (map span_of (intervals j.parts)) → (vs : List View) → All Sane vs → Replaced j vs
    → cut_run (intervals j.parts) (others j.parts vs) ≡ cut_run (intervals j.parts) vs
unfolding cut_run others flat_map
cut_others j p [] s r = refl
cut_others j p (v ∷ vs) s r = go (is_output j.parts v.table) refl (cut_others j p vs s.1 r.1)
  where
    go : (b : Bool) → is_output j.parts v.table ≡ b → cut_run (intervals j.parts) (others j.parts vs) ≡ cut_run (intervals j.parts) vs
        → cut_run (intervals j.parts) (pick b (others j.parts vs) (v ∷ others j.parts vs)) ≡ cut_run (intervals j.parts) (v ∷ vs)
    go true e ih = rw (retained_none (intervals j.parts) p v s.0 (r.0 e)) ih
    go false e ih = rw ih

showing : (vs : List View) → All Sane vs → All Showing vs
showing vs s = All-map (λ v h. h.shows) vs s

pub sound : {ps : List Part} → Planned below ps → All Sound (intervals ps)
sound {ps} a = All-unmapped Proper span_of (intervals ps) (later_proper (intervals_self a))

pub commit_ideal : (j : Job) → Parts j → (n : ℕ) (vs : List View) → All Sane vs → (eqb n j.destination ≡ true → Replaced j vs)
    → marked_views j n vs ≡ ideal_views j n vs
unfolding marked_views cut_destination
commit_ideal j a n vs s r = go (eqb n j.destination) refl
  where
    go : (b : Bool) → eqb n j.destination ≡ b
        → pick b (cut_destination (intervals j.parts) (flat_map published j.parts) (others j.parts vs)) (pick (has n j.sources) (cut_run (intervals j.parts) vs) vs)
        ≡ pick b (cut_destination (intervals j.parts) (flat_map published j.parts) vs) (pick (has n j.sources) (cut_run (intervals j.parts) vs) vs)
    go true e = rw (cut_others j (later_proper (intervals_self a)) vs s (r e))
    go false e = refl

-- A later record's commit makes of an earlier one's what it makes of the first image.
pub ideal_later : (i j : Job) → LaterJob i j → Parts i → Parts j → (n : ℕ) (vs : List View) → All Sane vs → Sorted start vs
    → ideal_views j n (ideal_views i n vs) ≡ ideal_views j n vs
ideal_later i j l a b n vs s o = rw (l.destination, l.sources) (go (eqb n j.destination) (has n j.sources))
  where
    g : Grown below (map span_of (intervals i.parts)) (map span_of (intervals j.parts))
    g = intervals_grown a b l.parts

    go : (d m : Bool)
        → pick d (cut_destination (intervals j.parts) (flat_map published j.parts)
        (pick d (cut_destination (intervals i.parts) (flat_map published i.parts) vs) (pick m (cut_run (intervals i.parts) vs) vs)))
        (pick m (cut_run (intervals j.parts) (pick d (cut_destination (intervals i.parts) (flat_map published i.parts) vs) (pick m (cut_run (intervals i.parts) vs) vs)))
        (pick d (cut_destination (intervals i.parts) (flat_map published i.parts) vs) (pick m (cut_run (intervals i.parts) vs) vs)))
        ≡ pick d (cut_destination (intervals j.parts) (flat_map published j.parts) vs) (pick m (cut_run (intervals j.parts) vs) vs)
    go true m = destination_later (intervals i.parts) (intervals j.parts) g (sound a) (flat_map published i.parts) (flat_map published j.parts) vs
        (job_vanishes j.parts a g) (showing vs s) o
    go false true = cut_run_later (intervals i.parts) (intervals j.parts) g vs (showing vs s)
    go false false = refl

-- What a run shows after a commit.
pub ideal_shown : (j : Job) → Parts j → (n : ℕ) (vs : List View) → All Sane vs → (q : Table → Bool) (x : Key)
    → shown q x (ideal_views j n vs) ≡ expected j n q x (shown q x vs)
unfolding expected
ideal_shown j a n vs s q x = go (eqb n j.destination) (has n j.sources)
  where
    here : (w : Bool) (l m : ℕ) → pick w 0 m + pick w l 0 ≡ pick w l m
    here true l m = omega arith
    here false l m = omega arith

    go : (d m : Bool) → shown q x (pick d (cut_destination (intervals j.parts) (flat_map published j.parts) vs) (pick m (cut_run (intervals j.parts) vs) vs))
        ≡ pick d (pick (any_holds (intervals j.parts) x) (listed_in q x j.parts) (shown q x vs)) (pick m (pick (any_holds (intervals j.parts) x) 0 (shown q x vs)) (shown q x vs))
    go true m = rw (shown_destination q x (intervals j.parts) (sound a) (flat_map published j.parts) vs (showing vs s), job_shown q x a) (here (any_holds (intervals j.parts) x) _ _)
    go false true = views.shown_cut_run q x (intervals j.parts) (sound a) vs (showing vs s)
    go false false = refl

-- ---- images
abbrev pub ideal : Job → Image → Image
ideal j runs = map (λ (r : Run). record { id = r.id; views = ideal_views j r.id r.views }) runs

-- what the checks say of a job and the image it is committed to
pub record Passes (j : Job) (runs : Image) : Type 0 where
  pub parts : Parts j
  pub ordered : All Ordered runs
  pub replaced : All (λ r. eqb r.id j.destination ≡ true → Replaced j r.views) runs

pub commit_is_ideal : (j : Job) (runs : Image) → Passes j runs → marked_runs j runs ≡ ideal j runs
unfolding marked_runs
commit_is_ideal j runs p =
    map_alike _ _ runs
    (All-both (λ r o c. λ i. record { id = r.id; views = commit_ideal j p.parts r.id r.views o.sane c i }) runs p.ordered p.replaced)

ideal_ideal : (i j : Job) → LaterJob i j → Parts i → Parts j → (runs : Image) → All Ordered runs → ideal j (ideal i runs) ≡ ideal j runs
ideal_ideal i j l a b [] o = refl
ideal_ideal i j l a b (r ∷ runs) o = rw (ideal_later i j l a b r.id r.views o.0.sane o.0.sorted, ideal_ideal i j l a b runs o.1)

-- ---- check 12 on the image before an earlier commit
-- Outside the intervals a run whose output views are replaced shows nothing through output tables; and the other way round.
replaced_shown : (j : Job) (x : Key) → any_holds (intervals j.parts) x ≡ false → (vs : List View) → Replaced j vs → shown (is_output j.parts) x vs ≡ 0
unfolding shown
replaced_shown j x n [] r = refl
replaced_shown j x n (v ∷ vs) r =
    rw (replaced_shown j x n vs r.1) (go (is_output j.parts v.table) (holds (effective v) x) refl refl)
  where
    go : (b h : Bool) → is_output j.parts v.table ≡ b → holds (effective v) x ≡ h → bit (b && h) + 0 ≡ 0
    go true true e f = absurd (true≢false (sym (r.0 e x f) ∙ n))
    go true false e f = refl
    go false h e f = refl

shown_replaced : (j : Job) (vs : List View) → ((x : Key) → any_holds (intervals j.parts) x ≡ false → shown (is_output j.parts) x vs ≡ 0) → Replaced j vs
unfolding shown
shown_replaced j [] f = tt
shown_replaced j (v ∷ vs) f =
    (λ o x h. go x (any_holds (intervals j.parts) x) refl o h, shown_replaced j vs (λ x n. let e = f x n in omega arith))
  where
    go : (x : Key) (a : Bool) → any_holds (intervals j.parts) x ≡ a → is_output j.parts v.table ≡ true → holds (effective v) x ≡ true
        → any_holds (intervals j.parts) x ≡ true
    go x true e o h = e
    go x false e o h = let z = rw (o, h) at (f x e) in absurd (omega arith)

-- a key that no interval of a later record holds lies in none of the earlier one's
earlier_misses : (i j : Job) → LaterJob i j → Parts i → Parts j → (x : Key) → any_holds (intervals j.parts) x ≡ false → any_holds (intervals i.parts) x ≡ false
earlier_misses i j l a b x n = go (any_holds (intervals i.parts) x) refl
  where
    go : (h : Bool) → any_holds (intervals i.parts) x ≡ h → h ≡ false
    go true e =
        absurd (true≢false (sym (any_cuts (intervals j.parts) x ∙ grown_within x (intervals_grown a b l.parts) (sym (any_cuts (intervals i.parts) x) ∙ e)) ∙ n))
    go false e = refl

-- So what replaces output views after an earlier commit replaces them before it.
replaced_earlier : (i j : Job) → LaterJob i j → Parts i → Parts j → (n : ℕ) (vs : List View) → All Sane vs → eqb n i.destination ≡ true
    → Replaced j (ideal_views i n vs) → Replaced j vs
unfolding expected
replaced_earlier i j l a b n vs s d r = shown_replaced j vs (λ x m. sym (outside x m) ∙ replaced_shown j x m (ideal_views i n vs) r)
  where
    as_before : (x : Key) (m : ℕ) → any_holds (intervals j.parts) x ≡ false → expected i n (is_output j.parts) x m ≡ m
    as_before x m e = rw (d, earlier_misses i j l a b x e)

    outside : (x : Key) → any_holds (intervals j.parts) x ≡ false → shown (is_output j.parts) x (ideal_views i n vs) ≡ shown (is_output j.parts) x vs
    outside x m = ideal_shown i a n vs s (is_output j.parts) x ∙ as_before x _ m

-- A record that is accepted after an earlier one of its job passes on the image before that one too.
passes_earlier : (i j : Job) (runs : Image) → LaterJob i j → Passes i runs → Passes j (ideal i runs) → Passes j runs
passes_earlier i j runs l p q =
    record {
      parts = q.parts;
      ordered = p.ordered;
      replaced =
          All-both (λ r o c d. replaced_earlier i j l p.parts q.parts r.id r.views o.sane (rw l.destination d) (c d)) runs p.ordered
          (All-unmapped (λ (r : Run). eqb r.id j.destination ≡ true → Replaced j r.views) _ runs q.replaced);
    }

-- ---- a list of commits, refused ones included: the first image, the image after it, and the last accepted record
pub data Commits (first : Image) : Image → Option Job → Type 0 where
  no_commit : Commits first first none
  first_accepted : {runs : Image} (j : Job) → Commits first runs none → Passes j runs → Commits first (marked_runs j runs) (some j)
  later_accepted : {runs : Image} (i j : Job) → Commits first runs (some i) → Passes j runs → LaterJob i j → Commits first (marked_runs j runs) (some j)

-- the image is what the last accepted record makes of the first image, on which it passes
abbrev pub Standing : Image → Image → Option Job → Type 0
Standing first runs none = runs ≡ first
Standing first runs (some j) = (runs ≡ marked_runs j first) × Passes j first

pub standing : {first runs : Image} {o : Option Job} → Commits first runs o → Standing first runs o
standing no_commit = refl
standing (first_accepted {runs} j c p) =
    let e = standing c in
    (ap (marked_runs j) e, rw e at p)
standing {first} (later_accepted {runs} i j c p l) =
    let h : Standing first runs (some i) = standing c in
    let e : runs ≡ ideal i first = h.0 ∙ commit_is_ideal i first h.1 in
    let q : Passes j first = passes_earlier i j first l h.1 (rw e at p) in
    (commit_is_ideal j runs p ∙ ap (ideal j) e ∙ ideal_ideal i j l h.1.parts q.parts first h.1.ordered ∙ sym (commit_is_ideal j first q), q)

-- ---- what stands, over values
-- The image after the list is the one that the last accepted record, committed alone, makes of the first image.
pub as_if_alone : {first runs : Image} (j : Job) → Commits first runs (some j) → runs ≡ marked_runs j first
as_if_alone j c = (standing c).0

-- A record that passes shows of each run each key, through the tables of each kind, as often as expected.
pub commit_shown : (j : Job) (runs : Image) → Passes j runs → (q : Table → Bool) (x : Key)
    → map (λ (r : Run). shown q x r.views) (marked_runs j runs) ≡ map (λ (r : Run). expected j r.id q x (shown q x r.views)) runs
commit_shown j runs p q x = rw (commit_is_ideal j runs p) (go runs p.ordered)
  where
    go : (runs : Image) → All Ordered runs
        → map (λ (r : Run). shown q x r.views) (ideal j runs) ≡ map (λ (r : Run). expected j r.id q x (shown q x r.views)) runs
    go [] o = refl
    go (r ∷ runs) o = rw (ideal_shown j p.parts r.id r.views o.0.sane q x, go runs o.1)

pub shows_as_expected : {first runs : Image} (j : Job) → Commits first runs (some j) → (q : Table → Bool) (x : Key)
    → map (λ (r : Run). shown q x r.views) runs ≡ map (λ (r : Run). expected j r.id q x (shown q x r.views)) first
shows_as_expected {first} j c q x = let h = standing c in ap (map (λ (r : Run). shown q x r.views)) h.0 ∙ commit_shown j first h.1 q x

-- a run that is neither the destination nor a source, and nothing of any other
abbrev pub beside : Job → Run → Option Run
beside j r = pick (eqb r.id j.destination) none (pick (has r.id j.sources) none (some r))

-- A commit keeps the runs, and leaves those beside the job untouched.
pub commit_ids : (j : Job) (runs : Image) → map (λ (r : Run). r.id) (marked_runs j runs) ≡ map (λ (r : Run). r.id) runs
unfolding marked_runs
commit_ids j [] = refl
commit_ids j (r ∷ runs) = rw (commit_ids j runs)

pub commit_beside : (j : Job) (runs : Image) → map (beside j) (marked_runs j runs) ≡ map (beside j) runs
unfolding marked_runs marked_views
commit_beside j [] = refl
commit_beside j (r ∷ runs) = rw (one r, commit_beside j runs)
  where
    one : (r : Run) → beside j (record { id = r.id; views = marked_views j r.id r.views }) ≡ beside j r
    one r = kept (eqb r.id j.destination) (has r.id j.sources)
      where
        kept : (d m : Bool)
            → pick d none (pick m none (some (record { id = r.id; views = pick d (cut_destination (intervals j.parts) (flat_map published j.parts) (others j.parts r.views)) (pick m (cut_run (intervals j.parts) r.views) r.views) })))
            ≡ pick d none (pick m none (some r))
        kept true m = refl
        kept false true = refl
        kept false false = refl

pub same_runs : {first runs : Image} (j : Job) → Commits first runs (some j) → map (λ (r : Run). r.id) runs ≡ map (λ (r : Run). r.id) first
same_runs {first} j c = ap (map (λ (r : Run). r.id)) (as_if_alone j c) ∙ commit_ids j first

pub untouched : {first runs : Image} (j : Job) → Commits first runs (some j) → map (beside j) runs ≡ map (beside j) first
untouched {first} j c = ap (map (beside j)) (as_if_alone j c) ∙ commit_beside j first
