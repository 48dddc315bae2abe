-- Check 6 on the image that an accepted commit writes.
-- Assumes nothing.
use Prim.Native.Nat.{ℕ}
use mathlib.Core.Path.{◌≡◌, refl, sym, ap, ap₂, ◌∙◌}
use mathlib.Core.Bool.{Bool, true, false, not, ◌&&◌, ◌||◌, and-true}
use mathlib.Core.List.{List, [], ◌∷◌, ◌++◌, map, flat_map, append-nil}
use lib.Dec.{eqb}
use Rattle.base.specs.Pick.{pick, and_first}
use Rattle.key.specs.Order.{Key, at_most, key_at_most}
use Rattle.comparable_range.specs.Range.{Bound, included, Range, cmp_bound, holds}
use Rattle.comparable_range.specs.Cut.{Cut, before, cut_at_most, ◌≼◌, start_cut}
use Rattle.comparable_range.proofs.Cut.{≼_refl, ≼_trans, ≺-≼, after-≼}
use Rattle.comparable_range.proofs.Lattice.{≼-later-right, sooner-≼-right}
use Rattle.comparable_range.proofs.ByCuts.{cmp_start, start_injective, held_by_parts}
use Rattle.records.specs.Values.{View, Run, Image, Job}
use Rattle.manifest.specs.Ranges.{effective}
use Rattle.manifest.specs.Checks.{all, has, ascend_from, ascend, starts, table_passes, image_checks}
use Rattle.manifest.proofs.ViewRanges.{effective_start_is_held}
use Rattle.incremental_progress.specs.Intervals.{Interval, cut_out}
use Rattle.incremental_progress.specs.Views.{start}
use Rattle.incremental_progress.specs.Parts.{intervals}
use Rattle.incremental_progress.specs.Jobs.{others}
use Rattle.incremental_progress.specs.Draws.{Ten, got, next, fill_all, fill_views, fill_runs, fill_commit, supply}
use Rattle.incremental_progress.proofs.Marked.{marked}
use Rattle.incremental_progress.specs.Entries.{piece_entry, view_entries, run_entries, part_entries}
use Rattle.incremental_progress.specs.Members.{In}
use Rattle.incremental_progress.specs.OrderAfter.{Accepts, left_starts, other_source, left_ascends, OrderAfter, OrderAfterCommit, NoneReaches, next_view, NoneReachesPassesSix}
use Rattle.base.specs.Lists.{All, All-map, All-both, All-flatMap, All-unmapped, Pairwise, Pairwise-append, Pairwise-map, Pairwise-mapped, Pairwise-unmapped, Pairwise-flatMap, map_flat_map, flat_map_alike}
use Rattle.base.specs.Sort.{sort}
use Rattle.incremental_progress.proofs.Sort.{Sorted, sort_sorted}
use Rattle.incremental_progress.proofs.Span.{Span, keep, until, since, less}
use Rattle.incremental_progress.proofs.Cutting.{Proper, cut_spans}
use Rattle.incremental_progress.proofs.Subtraction.{cuts, span_of, cut_out_cuts, Sound, All-spans}
use Rattle.incremental_progress.proofs.Pieces.{Inside, All-keep, inside_less}
use Rattle.incremental_progress.proofs.Vanish.{AtKey, at_key, from_cut}
use Rattle.incremental_progress.proofs.Views.{Showing, cut_inside, effective_piece}
use Rattle.incremental_progress.proofs.Publish.{open_spans}
use Rattle.incremental_progress.proofs.Commit.{sound}
use Rattle.incremental_progress.proofs.Checks.{all_each, sane, sorted, job_parts}
use Rattle.incremental_progress.proofs.Filling.{through, piece_marked}
use Rattle.incremental_progress.proofs.NewRuns.{fill_by_kind}
use Rattle.incremental_progress.proofs.FilledViews.{filled_show, map_map}
use Rattle.incremental_progress.proofs.NewImages.{true_all, stored, read_again}
use Rattle.incremental_progress.proofs.Outcomes.{same_answer, job_passes, Made, accepted_commit}
use Rattle.incremental_progress.proofs.Accepted.{accepted_stored, new_distinct}
use Rattle.incremental_progress.proofs.ByKeys.{of_all, to_all, at_most_before}

-- ---- bounds in order ascend
in_order : (a b : Bound) → start_cut a ≼ start_cut b → at_most (cmp_bound true a b) ≡ true
unfolding cut_at_most
in_order a b h = ap at_most (cmp_start a b) ∙ h.holds

ascend_from_lem : (b : Bound) (bs : List Bound) → All (λ c. start_cut b ≼ start_cut c) bs → Pairwise (λ a c. start_cut a ≼ start_cut c) bs → ascend_from b bs ≡ true
unfolding ascend_from
ascend_from_lem b [] a p = refl
ascend_from_lem b (c ∷ bs) a p = rw (in_order b c a.0) (ascend_from_lem c bs p.0 p.1)

ascending : (bs : List Bound) → Pairwise (λ a c. start_cut a ≼ start_cut c) bs → ascend bs ≡ true
ascending [] p = refl
ascending (b ∷ bs) p = ascend_from_lem b bs p.0 p.1

-- ---- pieces in order
-- one ends where the other starts, or before
abbrev Apart : Span → Span → Type 0
Apart p q = p.to ≼ q.from

kept : (q : Span) → Pairwise Apart (keep q)
unfolding keep
kept q = go (cut_at_most q.to q.from)
  where
    go : (b : Bool) → Pairwise Apart (pick b [] (q ∷ []))
    go true = tt
    go false = (tt, tt)

less_apart : (i r : Span) → Proper i → Pairwise Apart (less i r)
unfolding less
less_apart i r p =
    Pairwise-append Apart (keep (until r i.from)) (keep (since r i.to)) (kept (until r i.from)) (kept (since r i.to))
    (All-keep _ (until r i.from) (λ _. All-keep _ (since r i.to) (λ _. ≼_trans (sooner-≼-right r.to i.from) (≼_trans p (≼-later-right r.from i.to)))))

cut_apart : (is rs : List Span) → All Proper is → Pairwise Apart rs → Pairwise Apart (cut_spans is rs)
unfolding cut_spans
cut_apart [] rs p a = a
cut_apart (i ∷ is) rs p a =
    cut_apart is (flat_map (less i) rs) p.1
    (Pairwise-flatMap Apart (less i) (λ r. less_apart i r p.0)
    (λ r q h. All-map (λ x k. All-map (λ y l. ≼_trans k.ends (≼_trans h l.starts)) (less i q) (inside_less i q)) (less i r) (inside_less i r))
    rs a)

abbrev Begins : Range → Range → Type 0
Begins q r = start_cut q.start ≼ start_cut r.start

abbrev left : List Interval → View → List Range
left ivs v = cut_out ivs (effective v ∷ [])

module _ (ivs : List Interval) (a : All Sound ivs) where
  left_in_order : (v : View) → Showing v → Pairwise Begins (left ivs v)
  left_in_order v n =
      Pairwise-map (λ q. Inside (cuts q) (cuts (effective v))) (λ q r. Apart (cuts q) (cuts r)) Begins (λ q r h k l. ≼_trans (≺-≼ h.runs) l) (left ivs v)
      (cut_inside ivs (effective v) n)
      (Pairwise-unmapped Apart cuts (left ivs v) (rw cut_out_cuts (cut_apart (map span_of ivs) (cuts (effective v) ∷ []) (All-spans ivs a) (tt, tt))))

  -- a piece starts at a key that the view holds
  reached : (v : View) (c : Cut) → ((x k : Key) → holds (effective v) x ≡ true → c ≡ before k → key_at_most x k ≡ true) → AtKey c
      → (q : Range) → Inside (cuts q) (cuts (effective v)) → AtKey (start_cut q.start) → start_cut q.start ≼ c
  reached v c f m q h n = go (start_cut q.start) n c m refl refl
    where
      go : (d : Cut) → AtKey d → (e : Cut) → AtKey e → start_cut q.start ≡ d → c ≡ e → start_cut q.start ≼ c
      go d (at_key {k = x}) e (at_key {k = k}) i j =
          rw (i, j) (at_most_before x k (f x k (held_by_parts (effective v) x (rw i at h.starts) (≼_trans (after-≼ (rw i at h.runs)) h.ends)) j))

  -- so if no view reaches above the next one's start, what is left of a run is in order
  before_next : (v w : View) → table_passes v ≡ true → table_passes w ≡ true → ((x k : Key) → holds (effective v) x ≡ true → (effective w).start ≡ included k → key_at_most x k ≡ true)
      → All (λ q. start_cut q.start ≼ start w) (left ivs v)
  before_next v w t u f =
      let s = sane v t in
      let e = effective_start_is_held w u in
      All-both (λ q h n. reached v (start w) (λ x k h i. f x k h (start_injective i)) (sane w u).at q h n) (left ivs v) (cut_inside ivs (effective v) s.shows)
      (All-unmapped (λ p. AtKey p.from) cuts (left ivs v) (rw cut_out_cuts (from_cut AtKey (map span_of ivs) (cuts (effective v) ∷ []) (open_spans ivs) (s.at, tt))))

  run_in_order : (vs : List View) → All (λ v. table_passes v ≡ true) vs → Sorted start vs → NoneReaches vs → Pairwise Begins (flat_map (left ivs) vs)
  unfolding flat_map
  run_in_order [] t s n = tt
  run_in_order (v ∷ []) t s n = rw append-nil (left_in_order v (sane v t.0).shows)
  run_in_order (v ∷ w ∷ vs) t s (next_view f n) =
      Pairwise-append Begins (left ivs v) (flat_map (left ivs) (w ∷ vs)) (left_in_order v (sane v t.0).shows) (run_in_order (w ∷ vs) t.1 s.1 n)
      (All-map (λ q h. All-flatMap (λ u. (start w ≼ start u) × (table_passes u ≡ true)) (Begins q) (left ivs)
      (λ u k. All-map (λ r i. ≼_trans h (≼_trans k.0 i.starts)) (left ivs u) (cut_inside ivs (effective u) (sane u k.1).shows))
      (w ∷ vs) (All-both {R = λ u. (start w ≼ start u) × (table_passes u ≡ true)} (λ u k l. (k, l)) (w ∷ vs) (≼_refl (start w), s.1.0) t.1))
      (left ivs v) (before_next v w t.0 t.1.0 f))

  left_ascends_lem : (vs : List View) → all table_passes vs ≡ true → ascend (starts vs) ≡ true → NoneReaches vs → ascend (left_starts ivs vs) ≡ true
  left_ascends_lem vs t o n =
      ascending (left_starts ivs vs)
      (Pairwise-mapped (λ a c. start_cut a ≼ start_cut c) (λ r. r.start) (flat_map (left ivs) vs) (run_in_order vs (all_each table_passes vs t) (sorted vs o) n))

-- ---- the new image
-- what the entries of a run show is what is left of its views
entries_show : (ivs : List Interval) (v : View) → Showing v → map (λ e. effective (marked e)) (view_entries ivs v) ≡ left ivs v
unfolding view_entries
entries_show ivs v n = map_map (λ e. effective (marked e)) (piece_entry v) (left ivs v) ∙ shown (left ivs v) (cut_inside ivs (effective v) n)
  where
    shown : (rs : List Range) → All (λ r. Inside (cuts r) (cuts (effective v))) rs → map (λ r. effective (marked (piece_entry v r))) rs ≡ rs
    shown [] a = refl
    shown (r ∷ rs) a = rw (piece_marked v r, effective_piece v r a.0, shown rs a.1)

run_shows : (ivs : List Interval) (vs : List View) → All Showing vs → map (λ e. effective (marked e)) (run_entries ivs vs) ≡ flat_map (left ivs) vs
unfolding run_entries
run_shows ivs vs n =
    map_flat_map (λ e. effective (marked e)) (view_entries ivs) vs ∙ flat_map_alike _ (left ivs) vs (All-map (λ v m. entries_show ivs v m) vs n)

filled_starts : (ivs : List Interval) (vs : List View) → All Showing vs → (s : List Ten) (ws : List View) (t : List Ten) → fill_all (run_entries ivs vs) s ≡ got ws t
    → starts ws ≡ left_starts ivs vs
filled_starts ivs vs n s ws t e =
    sym (map_map (λ r. r.start) effective ws) ∙ ap (map (λ r. r.start)) (filled_show (run_entries ivs vs) s ws t e ∙ run_shows ivs vs n)

-- a run that passes checks 5 and 6
record Good (r : Run) : Type 0 where
  showing : All Showing r.views
  ordered : ascend (starts r.views) ≡ true

module _ (j : Job) (outs : List View) where
  views_ascend : (n : ℕ) (vs : List View) → Good (record { id = n; views = vs }) → (s : List Ten) (ws : List View) (t : List Ten) → fill_views j outs n vs s ≡ got ws t
      → ascend (starts ws) ≡ left_ascends j (record { id = n; views = vs })
  views_ascend n vs g s ws t e = go (eqb n j.destination) (has n j.sources) (sym (fill_by_kind j outs n vs s) ∙ e)
    where
      ivs : List Interval
      ivs = intervals j.parts

      always : (m : Bool) → (not (m && false) || ascend (left_starts ivs vs)) ≡ true
      always true = refl
      always false = refl

      go : (d m : Bool)
          → pick d (next (fill_all (run_entries ivs (others j.parts vs)) s) (λ ws s. got (sort cut_at_most start (ws ++ outs)) s)) (pick m (fill_all (run_entries ivs vs) s) (got vs s)) ≡ got ws t
          → ascend (starts ws) ≡ (not (m && not d) || ascend (left_starts ivs vs))
      go true m e =
          let h = through (fill_all (run_entries ivs (others j.parts vs)) s) _ ws t e in
          let g = h.second in
          let f : sort cut_at_most start (h.value ++ outs) ≡ ws = cc in
          rw (← f, always m) (ascending (starts (sort cut_at_most start (h.value ++ outs)))
          (Pairwise-mapped (λ a c. start_cut a ≼ start_cut c) (λ v. (effective v).start) (sort cut_at_most start (h.value ++ outs)) (sort_sorted start (h.value ++ outs))))
      go false true e = rw (filled_starts ivs vs g.showing s ws t e)
      go false false e = let f : vs ≡ ws = cc in rw (← f) g.ordered

  runs_ascend : (rs : Image) → All Good rs → (s : List Ten) (new : Image) (t : List Ten) → fill_runs j outs rs s ≡ got new t
      → map (λ r. ascend (starts r.views)) new ≡ map (left_ascends j) rs
  unfolding fill_runs
  runs_ascend [] g s new t e = let f : [] ≡ new = cc in rw (← f)
  runs_ascend (r ∷ rs) g s new t e =
      let h = through (fill_views j outs r.id r.views s) _ new t e in
      let k = through (fill_runs j outs rs h.rest) _ new t h.second in
      let m = k.second in
      let f : record { id = r.id; views = h.value } ∷ k.value ≡ new = cc in
      rw (← f)
      (ap₂ (λ (b : Bool) (bs : List Bool). b ∷ bs) (views_ascend r.id r.views g.0 s h.value h.rest h.first) (runs_ascend rs g.1 h.rest k.value k.rest k.first))

commit_ascends : (j : Job) (i : Image) → All Good i → (s : List Ten) (new : Image) (t : List Ten) → fill_commit j i s ≡ got new t
    → map (λ r. ascend (starts r.views)) new ≡ map (left_ascends j) i
unfolding fill_commit
commit_ascends j i g s new t e =
    let h = through (fill_all (flat_map part_entries j.parts) s) _ new t e in
    runs_ascend j h.value i g h.rest new t h.second

-- tests that agree element by element agree on all
all_alike : {A : Type 0} (f g : A → Bool) (xs ys : List A) → map f xs ≡ map g ys → all f xs ≡ all g ys
unfolding all
all_alike f g xs ys e = sym (all_true f xs) ∙ ap (all (λ b. b)) e ∙ all_true g ys
  where
    all_true : {A : Type 0} (f : A → Bool) (xs : List A) → all (λ b. b) (map f xs) ≡ all f xs
    all_true f [] = refl
    all_true f (x ∷ xs) = rw (all_true f xs)

-- ---- an accepted commit
pub accepts_made : {before now : Image} {j : Job} (x : Accepts before now j) → Made before j x.ids now
accepts_made {before} {now} {j} x =
    let a = accepted_commit x.given x.record' x.ids x.room x.new x.answers in
    let p : a.before ≡ before = same_answer a.before_is x.before_is in
    let q : a.progress ≡ j = same_answer a.progress_is x.job_is in
    let s = accepted_stored a (stored x.given a.before x.given_bytes a.before_is).within x.record_bytes in
    let r : a.new ≡ now = same_answer (read_again x.new a.new s) x.now_is in
    rw (p, q, r) at a.made

module _ {before now : Image} {j : Job} {ids : List ℕ} (m : Made before j ids now) where
  tables_pass : All (λ r. all table_passes r.views ≡ true) before
  unfolding image_checks
  tables_pass = all_each _ before (and_first (image_checks before).tables _ m.passes.first.tables)

  starts_ascend : All (λ r. ascend (starts r.views) ≡ true) before
  unfolding image_checks
  starts_ascend = all_each _ before (and_first _ _ (and_first (image_checks before).order _ m.passes.first.order))

  order_after : OrderAfter before now j
  unfolding image_checks
  order_after = record { runs = runs; order = rw (new_distinct before j ids now m, and-true) (all_alike _ (left_ascends j) now before runs) }
    where
      good : All Good before
      good =
          All-both (λ r t o. record { showing = All-map (λ v k. (sane v k).shows) r.views (all_each table_passes r.views t); ordered = o }) before tables_pass starts_ascend

      runs : map (λ r. ascend (starts r.views)) now ≡ map (left_ascends j) before
      runs = commit_ascends j before good (supply ids) now m.left m.drawn

  run_passes : (r : Run) → In r before → NoneReaches r.views → left_ascends j r ≡ true
  run_passes r i n =
      either (other_source j r)
      (left_ascends_lem (intervals j.parts) (sound (job_parts j (job_passes m.passes))) r.views (of_all _ before tables_pass r i) (of_all _ before starts_ascend r i) n)
    where
      either : (a : Bool) {b : Bool} → b ≡ true → (not a || b) ≡ true
      either true e = e
      either false e = refl

  image_passes : ((r : Run) → In r before → other_source j r ≡ true → NoneReaches r.views) → (image_checks now).order ≡ true
  image_passes f = order_after.order ∙ true_all (left_ascends j) before (to_all (λ r. left_ascends j r ≡ true) before (λ r i. one r i (other_source j r) refl))
    where
      one : (r : Run) → In r before → (b : Bool) → other_source j r ≡ b → left_ascends j r ≡ true
      one r i true e = run_passes r i (f r i e)
      one r i false e = rw e

pub order_after_commit : OrderAfterCommit
order_after_commit i now j x = order_after (accepts_made x)

pub none_reaches_passes_six : NoneReachesPassesSix
none_reaches_passes_six i now j x = record { run = run_passes (accepts_made x); image = image_passes (accepts_made x) }
