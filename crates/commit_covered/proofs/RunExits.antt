-- The exits of check 12 over all runs.
-- Assumes nothing.
use Prim.Native.Nat.{ℕ, ◌+◌, ◌≤◌, ◌<◌}
use native.Mathlib.Omega.{arith}
use mathlib.Core.Path.{◌≡◌, refl, sym, ap, ◌∙◌}
use mathlib.Core.Bool.{Bool, true, false, not, ◌&&◌, ◌||◌}
use mathlib.Core.List.{List, [], ◌∷◌}
use lib.Dec.{eqb}
use lib.ListN.{drop, drop_of_length-le}
use mir.Val.{Fits}
use mir.Syntax.{w64}
use borrow.Author.Tests.{eq-eqb, ne_eqb}
use Rattle.base.specs.Pick.{and_first}
use Rattle.comparable_range.specs.Range.{Range}
use Rattle.records.specs.Form.{read_many}
use Rattle.records.specs.Found.{values_of}
use Rattle.records.specs.Values.{Run, Image, Job}
use Rattle.records.specs.Layouts.{view}
use Rattle.manifest.specs.Checks.{all, table_passes, ascend, starts, image_checks}
use Rattle.commit_index.specs.Index.{image_of, IndexedFound}
use Rattle.commit_index.specs.declared.runs.IndexedRun.{IndexedRun}
use Rattle.incremental_progress.proofs.Checks.{all_each}
use Rattle.commit_durable.specs.Tables.{job_of, job_gaps}
use Rattle.commit_gaps.proofs.Places.{all_at}
use Rattle.commit_covered.specs.Covered.{ViewsHere, views_covered, covered_by}
use Rattle.commit_covered.specs.Runs.{CoverReady}
use Rattle.commit_covered.specs.declared.runs.CoverHead.{CoverHead}

covered_none : (gs : List Range) (j : Job) → covered_by gs [] j ≡ true
unfolding covered_by all
covered_none gs j = refl

covered_cons : (gs : List Range) (r : Run) (i : Image) (j : Job) → covered_by gs (r ∷ i) j ≡ ((not (eqb r.id j.destination) || views_covered gs j.parts r.views) && covered_by gs i j)
unfolding covered_by all
covered_cons gs r i j = refl

-- the first k runs are covered
pub record RunsSeen (given s index gap_table : List ℕ) (h : CoverHead) (k : ℕ) : Type 0 where
  pub ready : CoverReady given s index gap_table h
  pub same : covered_by (job_gaps s) (image_of given) (job_of s) ≡ covered_by (job_gaps s) (drop k (image_of given)) (job_of s)

pub runs_begin : (given s index gap_table : List ℕ) (h : CoverHead) → CoverReady given s index gap_table h → RunsSeen given s index gap_table h 0
runs_begin given s index gap_table h p = record { ready = p; same = refl }

module _ {given s index gap_table : List ℕ} {h : CoverHead} {k : ℕ} (x : RunsSeen given s index gap_table h k) where
  pub runs_all : h.runs ≤ k → true ≡ covered_by (job_gaps s) (image_of given) (job_of s)
  runs_all l =
      let d : drop k (image_of given) ≡ [] = drop_of_length-le (image_of given) {i = k} (omega (arith, x.ready.runs.count)) in
      sym (x.same ∙ ap (λ (i : Image). covered_by (job_gaps s) i (job_of s)) d ∙ covered_none (job_gaps s) (job_of s))

  module _ (l : k < h.runs) where
    module _ {y : IndexedRun} (f : IndexedFound given k y) where
      views_are : values_of (read_many view.read y.views (drop y.first given)) ≡ f.run.views
      views_are = ap values_of f.held.views_are

      passes : (g : Run → Bool) → all g (image_of given) ≡ true → g f.run ≡ true
      passes g z = all_at (λ q. g q ≡ true) k (image_of given) (all_each g (image_of given) z) f.is

      pub runs_views : ViewsHere given y.first y.views
      unfolding image_checks
      runs_views =
          record {
            inside = f.held.views_from;
            there = rw f.held.views_are tt;
            tables = rw views_are (passes (λ r. all table_passes r.views) x.ready.tables);
            order = rw views_are (passes (λ r. ascend (starts r.views)) (and_first _ _ x.ready.order));
          }

      here : covered_by (job_gaps s) (image_of given) (job_of s) ≡ ((not (eqb y.id h.destination) || views_covered (job_gaps s) (job_of s).parts f.run.views) && covered_by (job_gaps s) (drop (k + 1) (image_of given)) (job_of s))
      here =
          x.same
          ∙ ap (λ (i : Image). covered_by (job_gaps s) i (job_of s)) f.is
          ∙ covered_cons (job_gaps s) f.run (drop (k + 1) (image_of given)) (job_of s)
          ∙ rw (f.held.id, x.ready.destination)

      pub runs_other : (y.id ≡ h.destination → ⊥) → RunsSeen given s index gap_table h (k + 1)
      runs_other e = record { ready = x.ready; same = here ∙ rw (ne_eqb y.id h.destination e) }

      module _ (e : y.id ≡ h.destination) {b : Bool} (q : b ≡ views_covered (job_gaps s) (job_of s).parts (values_of (read_many view.read y.views (drop y.first given)))) where
        run_is : views_covered (job_gaps s) (job_of s).parts f.run.views ≡ b
        run_is = sym (q ∙ rw views_are)

        pub runs_left : b ≡ false → false ≡ covered_by (job_gaps s) (image_of given) (job_of s)
        runs_left z = sym (here ∙ rw (eq-eqb y.id h.destination e, run_is, z))

        pub runs_onward : b ≡ true → RunsSeen given s index gap_table h (k + 1)
        runs_onward z = record { ready = x.ready; same = here ∙ rw (eq-eqb y.id h.destination e, run_is, z) }

pub ruleset runs_exits = (runs_begin, runs_all, runs_views, runs_other, runs_left, runs_onward)
