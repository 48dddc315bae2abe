-- What the walks over views and runs keep, and the exits of the functions that call a view by place.
-- Assumes nothing.
use Prim.Native.Nat.{ℕ, ◌+◌, ◌<◌, ◌≤◌}
use mathlib.Core.Path.{◌≡◌, refl, sym, ap, ◌∙◌}
use mathlib.Core.Option.{Option, none, some}
use mathlib.Core.List.{List, [], ◌∷◌, ◌++◌}
use lib.ListN.{length, drop}
use lib.Dec.{T}
use Rattle.base.specs.Outcome.{Outcome, answer}
use Rattle.base.specs.Outcome as outcome
use Rattle.format.specs.Whole.{whole}
use Rattle.records.specs.Form.{read_many}
use Rattle.records.specs.Found.{is_got, values_of}
use Rattle.records.specs.Values.{View, Run, Image}
use Rattle.records.specs.Layouts.{view, run, image}
use Rattle.records.specs.Spans.{run_head}
use Rattle.records.specs.There.{RunsThere, RunThere, ViewThere}
use Rattle.records.specs.declared.views.ViewSpan.{ViewSpan}
use Rattle.records.specs.declared.views.ViewRead.{ViewRead}
use Rattle.records.specs.declared.views.ViewRead.TheVariants.{At as ViewAt, Stop as ViewStop}
use Rattle.records.specs.declared.there.RunSpan.{RunSpan}
use Rattle.records.proofs.Pasts.{Walked, past}
use Rattle.records.proofs.Walk.{walk_begin, walk_here, walk_onward}
use Rattle.records.proofs.HeadExits.{run_of}
use Rattle.records.proofs.RunsThere.{head_got, there_views, there_past, there_most, there_here}
use Rattle.manifest.specs.Checks.{image_checks}
use Rattle.manifest.specs.Spans.{JudgedWhole}
use Rattle.manifest.specs.declared.images.Judged.{Judged}
use Rattle.manifest.specs.declared.images.Judged.TheVariants.{At as JudgedAt, Stop as JudgedStop}
use Rattle.manifest.proofs.Given.{not_read, refused, accepted, image_there}
use Rattle.db_state.specs.Places.{at as index_at, placed, view_at, view_given}
use Rattle.db_state.specs.LookupCalls.{views_at}
use Rattle.records.specs.There.{Past}
use Rattle.sst_view.specs.Spans.{ViewPlaced}
use Rattle.sst_view.specs.Runs.{views_of, RunInside, RunCalled}
use Rattle.sst_view.specs.declared.places.RunPlaced.{RunPlaced}
use Rattle.sst_view.specs.declared.places.RunPlaced.TheVariants.{At as RunAt, Stop as RunStop}
use Rattle.sst_view.proofs.Past.{past_here, value_here, before_got, none_past}

-- ---- runs_end
pub runs_begin : (s : List ℕ) (from n : ℕ) → from ≤ length s → T (is_got (read_many run.read n (drop from s))) → Walked run.read s from n 0 from
runs_begin s from n h t = record { seen = []; walk = walk_begin run.read s from n h t }

module _ {s : List ℕ} {from n k at : ℕ} (p : Walked run.read s from n k at) where
  pub runs_past : n ≤ k → Past s (read_many run.read n (drop from s)) at
  runs_past h = past p h

  pub run_head_here : k < n → T (is_got (run_head.read (drop at s)))
  run_head_here h = head_got s at (walk_here p.walk h)

  module _ (h : k < n) {r : RunSpan} (f : RunThere s (run_head.read (drop at s)) r) where
    pub run_views_from : r.first ≤ length s
    run_views_from = f.inside

    pub run_views_there : T (is_got (read_many view.read r.views (drop r.first s)))
    run_views_there = there_views s at f (walk_here p.walk h)

    pub runs_onward : {e : ℕ} → Past s (read_many view.read r.views (drop r.first s)) e → Walked run.read s from n (k + 1) e
    runs_onward {e} x =
        record {
          seen = p.seen ++ (run_of r.id (values_of (read_many view.read r.views (drop r.first s))) ∷ []);
          walk = walk_onward p.walk h (there_past s at f e x.is) x.inside;
        }

pub ruleset run_walk = (runs_begin, runs_past, run_head_here, run_views_from, run_views_there, runs_onward)

same_placed : {s : List ℕ} {o u : Outcome View} {r : ViewRead} → o ≡ u → ViewPlaced s u r → ViewPlaced s o r
same_placed e p = record { meaning = p.meaning ∙ sym e; inside = p.inside }

-- ---- run_in_image
module _ (s : List ℕ) (place : ℕ) (t : T (is_got (image.read s))) {n : ℕ} (f : RunsThere s (image.read s) n) where
  pub runs_from : 1 ≤ length s
  runs_from = f.inside

  there : T (is_got (read_many run.read n (drop 1 s)))
  there = rw f.meaning at t

  called : {o : Option Run} → index_at (values_of (read_many run.read n (drop 1 s))) place ≡ o → views_at (values_of (image.read s)) place ≡ outcome.and_then (placed o) (λ r. answer r.views)
  called e = ap (λ g. views_at (values_of g) place) f.meaning ∙ ap (λ o. outcome.and_then (placed o) (λ r. answer r.views)) e

  pub not_in_image : n ≤ place → RunCalled s (views_at (values_of (image.read s)) place) (RunStop 9)
  not_in_image h = record { meaning = sym (called (none_past run.read place n (drop 1 s) h there)); inside = tt }

  module _ (h : place < n) where
    pub runs_before : T (is_got (read_many run.read place (drop 1 s)))
    runs_before = before_got run.read place n (drop 1 s) h there

    module _ {e : ℕ} (x : Past s (read_many run.read place (drop 1 s)) e) where
      here : T (is_got (run.read (drop e s)))
      here = past_here run.read s 1 place x n h there

      pub head_there : T (is_got (run_head.read (drop e s)))
      head_there = head_got s e here

      pub in_image : {r : RunSpan} → RunThere s (run_head.read (drop e s)) r → RunCalled s (views_at (values_of (image.read s)) place) (RunAt r)
      in_image y =
          record {
            meaning = sym (called (value_here run.read s 1 place x n h there (there_here s e y here).is));
            inside = record { first = y.inside; there = there_views s e y here; most = there_most s e y };
          }

-- what a call goes on with
module _ {s : List ℕ} {o : Outcome (List View)} {z : RunPlaced} (y : RunCalled s o z) where
  pub run_not_called : {k : ℕ} → z ≡ RunStop k → o ≡ outcome.stop k
  run_not_called e = sym y.meaning ∙ rw e

  module _ {r : RunSpan} (e : z ≡ RunAt r) where
    pub run_called : o ≡ answer (views_of s r)
    run_called = sym y.meaning ∙ rw e

    pub run_called_inside : RunInside s r
    run_called_inside = rw e at y.inside

pub ruleset in_image_exits = (runs_from, not_in_image, runs_before, head_there, in_image)

-- ---- view_in_run
module _ (s : List ℕ) (r : RunSpan) (place : ℕ) (i : RunInside s r) where
  pub in_run_from : r.first ≤ length s
  in_run_from = i.first

  pub not_in_run : r.views ≤ place → ViewPlaced s (placed (index_at (views_of s r) place)) (ViewStop 9)
  not_in_run h = record { meaning = sym (ap placed (none_past view.read place r.views (drop r.first s) h i.there)); inside = tt }

  module _ (h : place < r.views) where
    pub before_there : T (is_got (read_many view.read place (drop r.first s)))
    before_there = before_got view.read place r.views (drop r.first s) h i.there

    module _ {e : ℕ} (x : Past s (read_many view.read place (drop r.first s)) e) where
      pub view_there : T (is_got (view.read (drop e s)))
      view_there = past_here view.read s r.first place x r.views h i.there

      pub in_run : {v : ViewSpan} → ViewThere s (view.read (drop e s)) v → ViewPlaced s (placed (index_at (views_of s r) place)) (ViewAt v)
      in_run y =
          record { meaning = sym (ap placed (value_here view.read s r.first place x r.views h i.there y.meaning)); inside = y.inside }

pub ruleset in_run_exits = (in_run_from, not_in_run, before_there, view_there, in_run)

-- ---- view_in_image
pub view_by_run : (i : Image) (run_place place : ℕ) → view_at i run_place place ≡ outcome.and_then (views_at i run_place) (λ vs. placed (index_at vs place))
unfolding view_at
view_by_run i run_place place = go (index_at i run_place)
  where
    go : (o : Option Run) → outcome.and_then (placed o) (λ r. placed (index_at r.views place)) ≡ outcome.and_then (outcome.and_then (placed o) (λ r. answer r.views)) (λ vs. placed (index_at vs place))
    go none = refl
    go (some r) = refl

module _ (s : List ℕ) (run_place place : ℕ) {w : RunPlaced} (x : RunCalled s (views_at (values_of (image.read s)) run_place) w) where
  by_run : {o : Outcome (List View)} → views_at (values_of (image.read s)) run_place ≡ o → view_at (values_of (image.read s)) run_place place ≡ outcome.and_then o (λ vs. placed (index_at vs place))
  by_run e = view_by_run (values_of (image.read s)) run_place place ∙ ap (λ o. outcome.and_then o (λ vs. placed (index_at vs place))) e

  pub no_run : {k : ℕ} → w ≡ RunStop k → ViewPlaced s (view_at (values_of (image.read s)) run_place place) (ViewStop k)
  no_run q = record { meaning = sym (by_run (run_not_called x q)); inside = tt }

  pub view_placed : {r : RunSpan} {v : ViewRead} → w ≡ RunAt r → ViewPlaced s (placed (index_at (views_of s r) place)) v → ViewPlaced s (view_at (values_of (image.read s)) run_place place) v
  view_placed q y = same_placed (by_run (run_called x q)) y

pub ruleset view_exits = (run_called_inside, no_run, view_placed)

-- ---- view_given
module _ (s : List ℕ) (run_place place : ℕ) {w : Judged} (x : JudgedWhole s image_checks (whole image.read s) w) where
  pub no_image : {k : ℕ} → w ≡ JudgedStop k → ViewPlaced s (view_given s run_place place) (ViewStop k)
  unfolding view_given
  no_image q = record { meaning = rw (not_read x q); inside = tt }

  module _ {next fault : ℕ} (q : w ≡ JudgedAt next fault) where
    pub bad_image : fault < 8 → ViewPlaced s (view_given s run_place place) (ViewStop fault)
    unfolding view_given
    bad_image h = record { meaning = rw (refused x q h); inside = tt }

    pub is_there_lem : 8 ≤ fault → T (is_got (image.read s))
    is_there_lem h = image_there x q h

    pub from_image : {v : ViewRead} → 8 ≤ fault → ViewPlaced s (view_at (values_of (image.read s)) run_place place) v → ViewPlaced s (view_given s run_place place) v
    unfolding view_given
    from_image h y =
        let a = accepted x q h in
        same_placed (ap (λ o. outcome.and_then o (λ i. view_at i run_place place)) a.given ∙ sym (ap (λ g. view_at (values_of g) run_place place) a.read)) y

pub ruleset given_exits = (no_image, bad_image, is_there_lem, from_image)
