-- What the loop over a run's views keeps: the pieces of those seen are planned, and the gaps passed are behind each later start.
-- Assumes nothing.
use Prim.Native.Nat.{ℕ, ◌+◌, ◌*◌, ◌≤◌, ◌<◌}
use native.Mathlib.Omega.{arith}
use mathlib.Core.Path.{◌≡◌, refl, sym, ap, subst, ◌∙◌}
use mathlib.Core.Bool.{true}
use mathlib.Core.Option.{Option, none, some}
use mathlib.Core.List.{List, [], ◌∷◌, ◌++◌, map, flat_map, append-nil}
use lib.ListN.{length, take, drop, length-map}
use lib.Dec.{T}
use Rattle.base.specs.Lists.{All, map_append, flat_map_append}
use Rattle.comparable_range.specs.Range.{Bound, Range, intersect}
use Rattle.comparable_range.specs.Cut.{◌≼◌, start_cut}
use Rattle.format.specs.Got.{Got, got, stop}
use Rattle.records.specs.Found.{is_got}
use Rattle.records.specs.Values.{View}
use Rattle.records.specs.Layouts.{view}
use Rattle.records.proofs.Walk.{Walk, walk_begin, walk_all, walk_here, walk_ahead, walk_onward}
use Rattle.manifest.specs.Ranges.{effective}
use Rattle.manifest.specs.Checks.{table_passes}
use Rattle.incremental_progress.specs.Intervals.{listed}
use Rattle.incremental_progress.specs.Views.{start}
use Rattle.incremental_progress.specs.Entries.{Entry}
use Rattle.incremental_progress.specs.Gaps.{pieces, gap_entries, gaps_met, run_gaps}
use Rattle.incremental_progress.proofs.Checks.{all_each}
use Rattle.incremental_progress.proofs.GapDestination.{starts_sorted}
use Rattle.incremental_progress.proofs.Sort.{Sorted}
use Rattle.commit_durable.specs.Tables.{job_gaps, GapsHold}
use Rattle.commit_gaps.specs.Ordered.{Behind, GapsOrdered}
use Rattle.commit_gaps.specs.Found.{Reached}
use Rattle.commit_gaps.proofs.Uses.{still_behind}
use Rattle.commit_entries.specs.Planned.{PlanReady, PlannedMore}
use Rattle.commit_entries.specs.declared.Plan.{Plan}
use Rattle.commit_entries.proofs.Planning.{planned_none, planned_then, ready_most}
use Rattle.commit_plan.specs.Held.{view_got, view_at, HeldAt, ViewReady}
use Rattle.commit_plan.specs.Views.{gap_bucket}
use Rattle.commit_plan.specs.Runs.{views_at, RunReady}
use Rattle.commit_plan.specs.declared.held.ViewHeld.{ViewHeld}

-- a view has one piece a gap at most
pieces_most : (gs : List Range) (r : Range) → length (pieces gs r) ≤ length gs
unfolding pieces flat_map
pieces_most [] r = omega arith
pieces_most (g ∷ gs) r = go (intersect r g) (pieces_most gs r)
  where
    go : (o : Option Range) → length (pieces gs r) ≤ length gs → length (listed o ++ pieces gs r) ≤ length (g ∷ gs)
    go none h = omega arith
    go (some q) h = omega arith

pub entries_most : (gs : List Range) (v : View) → length (gap_entries gs v) ≤ length gs
unfolding gap_entries
entries_most gs v = rw length-map (pieces_most gs (effective v))

-- of views in order, all before one start no later
sorted_before : (ws : List View) (v : View) (vs : List View) → Sorted start (ws ++ (v ∷ vs)) → All (λ w. start w ≼ start v) ws
sorted_before [] v vs s = tt
sorted_before (w ∷ ws) v vs s = (go ws s.0, sorted_before ws v vs s.1)
  where
    go : (xs : List View) → All (λ y. start w ≼ start y) (xs ++ (v ∷ vs)) → start w ≼ start v
    go [] a = a.0
    go (x ∷ xs) a = go xs a.1

one_of : (P : View → Type 0) (ws : List View) (v : View) (vs : List View) → All P (ws ++ (v ∷ vs)) → P v
one_of P [] v vs a = a.0
one_of P (w ∷ ws) v vs a = one_of P ws v vs a.1

pub record RunSeen (image job ids gap_table : List ℕ) (m first n : ℕ) (p : Plan) (d : List ℕ) (k at from : ℕ) (q : Plan) (t : List ℕ) : Type 0 where
  pub run : RunReady image first n
  pub small : length job ≤ 262144
  pub hold : GapsHold job m gap_table
  pub ordered : GapsOrdered job
  pub seen : List View
  pub walk : Walk view.read image first n k at seen
  pub upto : from ≤ m
  pub behind : (c : Bound) → All (λ w. start w ≼ start_cut c) seen → Behind c (take from (job_gaps job))
  pub planned : PlannedMore image job ids (flat_map (gap_entries (job_gaps job)) seen) (map gap_bucket (run_gaps (job_gaps job) seen)) p d q t
  pub ready : PlanReady ids (274877906944 + k * 65) q

pub run_begin :
    (image job ids gap_table : List ℕ) (m first n : ℕ) (p : Plan) (d : List ℕ)
    → RunReady image first n
    → length job ≤ 262144
    → GapsHold job m gap_table
    → GapsOrdered job
    → PlanReady ids 274877906944 p
    → RunSeen image job ids gap_table m first n p d 0 first 0 p d
unfolding flat_map run_gaps
run_begin image job ids gap_table m first n p d r l h o z =
    record {
      run = r;
      small = l;
      hold = h;
      ordered = o;
      seen = [];
      walk = walk_begin view.read image first n r.within r.there;
      upto = omega arith;
      behind = λ c _. tt;
      planned = planned_none image job ids p d;
      ready = ready_most z (omega (arith, z.few));
    }

one_view : (gs : List Range) (ws : List View) (v : View) → flat_map (gap_entries gs) (ws ++ (v ∷ [])) ≡ flat_map (gap_entries gs) ws ++ gap_entries gs v
unfolding flat_map
one_view gs ws v = flat_map_append (gap_entries gs) ws (v ∷ []) ∙ ap (λ (l : List Entry). flat_map (gap_entries gs) ws ++ l) (append-nil (gap_entries gs v))

one_met : (gs : List Range) (ws : List View) (v : View) → map gap_bucket (run_gaps gs (ws ++ (v ∷ []))) ≡ map gap_bucket (run_gaps gs ws) ++ map gap_bucket (gaps_met 0 gs (effective v))
unfolding run_gaps flat_map
one_met gs ws v =
    let e : run_gaps gs (ws ++ (v ∷ [])) ≡ run_gaps gs ws ++ gaps_met 0 gs (effective v)
    = flat_map_append (λ v. gaps_met 0 gs (effective v)) ws (v ∷ []) ∙ ap (λ (l : List ℕ). run_gaps gs ws ++ l) (append-nil (gaps_met 0 gs (effective v))) in
    ap (map gap_bucket) e ∙ map_append gap_bucket (run_gaps gs ws) (gaps_met 0 gs (effective v))

module _ {image job ids gap_table : List ℕ} {m first n : ℕ} {p : Plan} {d : List ℕ} {k at from : ℕ} {q : Plan} {t : List ℕ} (x : RunSeen image job ids gap_table m first n p d k at from q t) where
  pub run_all : n ≤ k → PlannedMore image job ids (flat_map (gap_entries (job_gaps job)) (views_at image first n)) (map gap_bucket (run_gaps (job_gaps job) (views_at image first n))) p d q t
  run_all l = rw (walk_all x.walk l) x.planned

  module _ (l : k < n) where
    pub run_here : T (is_got (view.read (drop at image)))
    run_here = walk_here x.walk l

    pub run_plan : PlanReady ids 549755813888 q
    run_plan = ready_most x.ready (omega (arith, x.ready.few, x.run.most))

    -- the view at this place, among all views of the run
    record Here : Type 0 where
      value : View
      is : view_at image at ≡ value
      past : List ℕ
      read : view.read (drop at image) ≡ got value past
      tail : List View
      all : views_at image first n ≡ x.seen ++ (value ∷ tail)

    here : Here
    here = go (view.read (drop at image)) refl run_here
      where
        go : (g : Got View) → view.read (drop at image) ≡ g → T (is_got g) → Here
        go (got v r) e t = let a = walk_ahead x.walk l r e in record { value = v; is = ap view_got e; past = r; read = e; tail = a.tail; all = a.all }
        go (stop j) e t = absurd t

    pub run_behind : Behind (effective (view_at image at)).start (take from (job_gaps job))
    run_behind =
        rw here.is
        (x.behind (effective here.value).start (sorted_before x.seen here.value here.tail (rw here.all at (starts_sorted (views_at image first n) x.run.order))))

    module _ {h : ViewHeld} (f : HeldAt image at h) where
      place : h.at ≡ at
      place = f.place

      pub run_view : ViewReady image h
      run_view =
          record {
            small = x.run.small;
            held = subst (λ (i : ℕ). HeldAt image i h) (sym place) f;
            passes =
                rw (place, here.is)
                (one_of (λ v. table_passes v ≡ true) x.seen here.value here.tail (rw here.all at (all_each table_passes (views_at image first n) x.run.tables)));
          }

      pub run_reached : Reached (effective (view_at image at)).start job m h.gap → Reached (effective (view_at image h.at)).start job m h.gap
      run_reached r = rw place r

      module _ (r : Reached (effective (view_at image at)).start job m h.gap) {o : Plan} {u : List ℕ}
          (w : PlannedMore image job ids (gap_entries (job_gaps job) (view_at image h.at)) (map gap_bucket (gaps_met 0 (job_gaps job) (effective (view_at image h.at)))) q t o u) where
        pub run_more_same : length u ≡ length d
        run_more_same = w.same ∙ x.planned.same

        pub run_onward : RunSeen image job ids gap_table m first n p d (k + 1) h.past h.gap o u
        run_onward =
            let v = view_at image at in
            let z = w.ready (274877906944 + k * 65) x.ready in
            let y : PlannedMore image job ids (gap_entries (job_gaps job) v) (map gap_bucket (gaps_met 0 (job_gaps job) (effective v))) q t o u = rw place at w in
            record {
              run = x.run;
              small = x.small;
              hold = x.hold;
              ordered = x.ordered;
              seen = x.seen ++ (v ∷ []);
              walk = walk_onward x.walk l f.read f.within;
              upto = r.upto;
              behind = λ c a. still_behind (effective v).start c (one_of (λ w. start w ≼ start_cut c) x.seen v [] a) r;
              planned = rw (one_view (job_gaps job) x.seen v, one_met (job_gaps job) x.seen v) (planned_then image job ids x.planned y);
              ready = ready_most z (omega (arith, z.few, entries_most (job_gaps job) (view_at image h.at), x.hold.count, x.hold.most));
            }

pub ruleset run_exits = (run_begin, run_all, run_here, run_plan, run_behind, run_view, run_reached, run_more_same, run_onward)
