-- The views that a record publishes show only keys of its durable intervals, so a later record's commit leaves nothing of them.
-- Assumes nothing.
use mathlib.Core.Path.{◌≡◌, refl, sym, ◌∙◌}
use mathlib.Core.Logic.{◌⊎◌, inl, inr}
use mathlib.Core.Bool.{Bool, true, false, true≢false}
use mathlib.Core.Option.{Option, none, some}
use mathlib.Core.List.{List, [], ◌∷◌, ◌++◌, map, flat_map, append-nil}
use Rattle.base.specs.Pick.{pick, and_second}
use Rattle.key.specs.Order.{Key}
use Rattle.comparable_range.specs.Range.{non_empty, overlap, holds}
use Rattle.comparable_range.specs.Cut.{Cut, before, above, later, start_cut, end_cut}
use Rattle.comparable_range.proofs.Cut.{≼-≺-trans, before-≺-after, below-≼}
use Rattle.comparable_range.proofs.Lattice.{later_left}
use Rattle.comparable_range.proofs.ByCuts.{start_side_cut, passes-≺}
use Rattle.comparable_range.proofs.Intersection.{overlap_holds}
use Rattle.records.specs.Values.{Table, View, Part}
use Rattle.manifest.specs.Ranges.{own, effective}
use Rattle.incremental_progress.specs.Intervals.{Interval, to_range, start_bound, end_bound, cut_out, any_holds, listed}
use Rattle.incremental_progress.specs.Views.{start}
use Rattle.incremental_progress.proofs.Marked.{cut_view, marked, retained, publish, published}
use Rattle.incremental_progress.specs.Entries.{whole, cut, output_entries}
use Rattle.incremental_progress.specs.Parts.{planned_interval, is_key, durable, intervals, identity}
use Rattle.base.specs.Lists.{All, All-map, All-of, All-both, All-mapped, All-append, All-flatMap}
use Rattle.incremental_progress.proofs.Cutting.{Proper, Grown, grown_within, later_proper}
use Rattle.incremental_progress.proofs.Subtraction.{cuts, cuts_injective, span_of, cut_out_cuts, any_cuts, holds_within}
use Rattle.incremental_progress.proofs.Vanish.{AtKey, at_key, Open, later_keeps, vanish}
use Rattle.incremental_progress.proofs.Views.{Showing}
use Rattle.incremental_progress.proofs.Job.{from_cut, to_cut, Ascending, Planned, no_parts, with_part, Lies, Fits, fits_all, Covered, any_append, none_some, covers, uncut, Status, finished, nothing, ongoing, status}

-- what a commit asks of a view, and what it keeps: it starts at a key and shows some place
pub record Sane (v : View) : Type 0 where
  pub at : AtKey (start v)
  pub shows : Showing v

-- each key that the view shows lies in an interval
abbrev pub Under : List Interval → View → Type 0
Under ivs v = (x : Key) → holds (effective v) x ≡ true → any_holds ivs x ≡ true

pub open_spans : (ivs : List Interval) → All Open (map span_of ivs)
open_spans ivs = All-mapped Open span_of ivs (All-of (λ iv. go iv.end) ivs)
  where
    go : (o : Option Key) → AtKey (end_cut (end_bound o)) ⊎ (end_cut (end_bound o) ≡ above)
    go none = inr refl
    go (some k) = inl at_key

-- of a view whose every key lies in an interval nothing is left
pub cut_none : (ivs : List Interval) → All Proper (map span_of ivs) → (v : View) → Sane v → Under ivs v → cut_out ivs (effective v ∷ []) ≡ []
cut_none ivs p v s u =
    cuts_injective (cut_out ivs (effective v ∷ [])) []
    (cut_out_cuts ivs (effective v ∷ [])
    ∙ vanish (map span_of ivs) (cuts (effective v)) p (open_spans ivs) s.at s.shows
    (λ x h. sym (any_cuts ivs x) ∙ u x (holds_within (effective v) x ∙ h)))

pub retained_none : (ivs : List Interval) → All Proper (map span_of ivs) → (v : View) → Sane v → Under ivs v → retained ivs v ≡ []
unfolding retained
retained_none ivs p v s u = rw (cut_none ivs p v s u)

-- ---- published views
abbrev pub Good : List Interval → View → Type 0
Good ivs v = Sane v × Under ivs v

any_one : (iv : Interval) (x : Key) → holds (to_range iv) x ≡ true → any_holds (iv ∷ []) x ≡ true
unfolding any_holds
any_one iv x e = rw e

good_identity : {c e : Cut} (iv : Interval) (t : Table) → Fits c e t → ((x : Key) → holds (own t) x ≡ true → holds (to_range iv) x ≡ true) → Good (iv ∷ []) (identity t)
unfolding effective
good_identity iv t f u =
    (record { at = at_key; shows = rw f.is (≼-≺-trans f.runs (before-≺-after f.key)) }, λ x h. any_one iv x (u x h))

good_cut : (iv : Interval) (t : Table) → non_empty (overlap (own t) (to_range iv)) ≡ true → Good (iv ∷ []) (cut_view (identity t) (to_range iv))
unfolding effective
good_cut iv t n = (
  record {
    at = rw start_side_cut (go iv.start);
    shows = passes-≺ (overlap (own t) (to_range iv)).start (overlap (own t) (to_range iv)).end n;
  },
  λ x h. any_one iv x (and_second (holds (own t) x) (holds (to_range iv) x) (sym (overlap_holds (own t) (to_range iv) x) ∙ h)),
)
  where
    go : (o : Option Key) → AtKey (later (before t.first) (start_cut (start_bound o)))
    go none = rw (later_left (below-≼ (before t.first))) at_key
    go (some k) = later_keeps AtKey at_key at_key

good_publish : {c e : Cut} (k : Option Key) (iv : Interval) (t : Table) → Fits c e t → Covered k iv t → All (Good (iv ∷ [])) (publish k iv t)
unfolding publish output_entries
good_publish none iv t f u = (good_identity iv t f (u (λ b e. absurd (none_some e))), tt)
good_publish (some b) iv t f u = go (is_key t.last b) refl (non_empty (overlap (own t) (to_range iv))) refl
  where
    go : (d : Bool) → is_key t.last b ≡ d → (n : Bool) → non_empty (overlap (own t) (to_range iv)) ≡ n
        → All (Good (iv ∷ [])) (map marked (pick d (pick n (cut (identity t) (to_range iv) ∷ []) []) (whole (identity t) ∷ [])))
    go true e true h = (good_cut iv t h, tt)
    go true e false h = tt
    go false e n h = (good_identity iv t f (u (λ c d. let g : b ≡ c = cc in rw (← g) e)), tt)

good_part : (p : Part) → Ascending (to_cut (planned_interval p)) (from_cut (planned_interval p)) p.outputs → Status p → All (Good (listed (durable p))) (published p)
unfolding published flat_map
good_part p a (nothing d e f) = rw e tt
good_part p a (finished d e f) =
    rw (e, f, append-nil) (All-flatMap (Fits (from_cut (planned_interval p)) (to_cut (planned_interval p))) (Good (planned_interval p ∷ [])) (publish none (planned_interval p))
    (λ t h. good_publish none (planned_interval p) t h (λ g. covers (planned_interval p) t h)) p.outputs (fits_all a))
good_part p a (ongoing b d k e f m n l) =
    let iv : Interval = record { start = (planned_interval p).start; end = some b } in
    rw (e, f, append-nil) (All-flatMap (λ t. Fits (from_cut (planned_interval p)) (to_cut (planned_interval p)) t × Lies (from_cut (planned_interval p)) b t) (Good (iv ∷ [])) (publish (some b) iv)
    (λ t h. good_publish (some b) iv t h.0 (λ g. covers iv t (uncut t h.1 (g b refl)))) p.outputs (All-both (λ t h j. (h, j)) p.outputs (fits_all a) l))

-- A record's views are sane, and show only keys of its intervals.
pub good_job : {c : Cut} {ps : List Part} → Planned c ps → All (Good (intervals ps)) (flat_map published ps)
unfolding flat_map intervals
good_job no_parts = tt
good_job (with_part {p} {ps} l r a n) =
    All-append (Good (listed (durable p) ++ intervals ps)) (published p) (flat_map published ps)
    (All-map (λ v g. (g.0, λ x h. rw any_append (first (any_holds (listed (durable p)) x) _ (g.1 x h)))) (published p) (good_part p a (status p a)))
    (All-map (λ v g. (g.0, λ x h. rw any_append (next (any_holds (listed (durable p)) x) _ (g.1 x h)))) (flat_map published ps) (good_job n))
  where
    first : (a b : Bool) → a ≡ true → pick a true b ≡ true
    first true b e = refl
    first false b e = absurd (true≢false (sym e))

    next : (a b : Bool) → b ≡ true → pick a true b ≡ true
    next true b e = refl
    next false b e = e

-- Under a later record they vanish.
pub job_vanishes : {c : Cut} {ps : List Part} (qs : List Part) → Planned c ps → Grown c (map span_of (intervals ps)) (map span_of (intervals qs))
    → All (λ v. retained (intervals qs) v ≡ []) (flat_map published ps)
job_vanishes {ps} qs a g =
    All-map (λ v h. retained_none (intervals qs) (later_proper g) v h.0 (λ x e. any_cuts (intervals qs) x ∙ grown_within x g (sym (any_cuts (intervals ps) x) ∙ h.1 x e)))
    (flat_map published ps) (good_job a)
