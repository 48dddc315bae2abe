-- A commit by gaps is the commit, where the checks pass.
-- Assumes nothing.
use mathlib.Core.Path.{◌≡◌, refl, ◌∙◌}
use mathlib.Core.Bool.{Bool, true, false, not, ◌||◌}
use mathlib.Core.List.{List, [], ◌∷◌, ◌++◌, flat_map, flatten}
use lib.Dec.{eqb}
use Rattle.base.specs.Pick.{pick, and_first}
use Rattle.comparable_range.specs.Range.{Range}
use Rattle.comparable_range.specs.Cut.{cut_at_most, below}
use Rattle.records.specs.Values.{View, Run, Image, Job}
use Rattle.manifest.specs.Checks.{all, has, table_passes, ascend, starts, image_checks}
use Rattle.incremental_progress.specs.Intervals.{Interval}
use Rattle.incremental_progress.specs.Views.{start}
use Rattle.incremental_progress.specs.Parts.{intervals}
use Rattle.incremental_progress.specs.Jobs.{is_output, others}
use Rattle.incremental_progress.specs.Checks.{covered, output_views_covered}
use Rattle.incremental_progress.specs.Draws.{Ten, Drawn, used_up, got, next, fill_all, fill_views, fill_runs, fill_commit}
use Rattle.incremental_progress.specs.Entries.{run_entries}
use Rattle.incremental_progress.specs.Gaps.{gaps, gap_entries, by_gap, run_gaps, placed, fill_parts, gap_views, gap_runs, gap_commit}
use Rattle.base.specs.Lists.{All, All-both}
use Rattle.base.specs.Sort.{sort}
use Rattle.incremental_progress.proofs.Job.{Planned}
use Rattle.incremental_progress.proofs.Checks.{all_each, job_parts, Checked}
use Rattle.incremental_progress.proofs.ByGaps.{run_entries_by_gaps}
use Rattle.incremental_progress.proofs.FilledViews.{next_next, fill_parts_lem}
use Rattle.incremental_progress.proofs.NewRuns.{fill_by_kind}
use Rattle.incremental_progress.proofs.GapDestination.{fill_destination}

-- a destination view of an output table leaves nothing: check 12
abbrev Replaced : Job → List View → Bool
Replaced j vs = all (λ v. not (is_output j.parts v.table) || covered (intervals j.parts) v) vs

-- what the checks 5, 6 and 12 say of a run
record Passing (j : Job) (r : Run) : Type 0 where
  tables : all table_passes r.views ≡ true
  order : ascend (starts r.views) ≡ true
  replaced : (not (eqb r.id j.destination) || Replaced j r.views) ≡ true

module _ (j : Job) (a : Planned below j.parts) (outs : List (List View)) (s₀ t₀ : List Ten) (e₀ : fill_parts j.parts s₀ ≡ got outs t₀) where
  views_by_gaps :
      (r : Run)
      → Passing j r
      → (s : List Ten)
      → fill_views j (flatten outs) r.id r.views s ≡ gap_views j outs r.id r.views s
  unfolding gap_views
  views_by_gaps r p s = fill_by_kind j (flatten outs) r.id r.views s ∙ go (eqb r.id j.destination) p.replaced (has r.id j.sources)
    where
      ivs : List Interval
      ivs = intervals j.parts

      gs : List Range
      gs = gaps ivs

      vs : List View
      vs = r.views

      same : run_entries ivs vs ≡ flat_map (gap_entries gs) vs
      same = run_entries_by_gaps j.parts a vs p.tables

      go :
          (b : Bool)
          → (not b || Replaced j vs) ≡ true
          → (c : Bool)
          → pick b (next (fill_all (run_entries ivs (others j.parts vs)) s) (λ ws s. got (sort cut_at_most start (ws ++ flatten outs)) s))
          (pick c (fill_all (run_entries ivs vs) s) (got vs s))
          ≡ pick b (next (fill_all (flat_map (gap_entries gs) vs) s) (λ ws s. got (by_gap 0 outs (placed (run_gaps gs vs) ws)) s))
          (pick c (fill_all (flat_map (gap_entries gs) vs) s) (got vs s))
      go true h c = fill_destination j.parts a vs p.tables p.order h s₀ outs t₀ e₀ s ∙ rw same
      go false h true = rw same
      go false h false = refl

  runs_by_gaps : (rs : List Run) → All (Passing j) rs → (s : List Ten) → fill_runs j (flatten outs) rs s ≡ gap_runs j outs rs s
  unfolding fill_runs gap_runs
  runs_by_gaps [] p s = refl
  runs_by_gaps (r ∷ rs) p s = simp (views_by_gaps r p.0, runs_by_gaps rs p.1)

passing : (i : Image) (j : Job) → Checked i j → All (Passing j) i
unfolding image_checks output_views_covered
passing i j c =
    All-both {R = Passing j} (λ r f t. f t) i
    (All-both {R = λ r. all table_passes r.views ≡ true → Passing j r} (λ r o k t. record { tables = t; order = o; replaced = k }) i
    (all_each _ i (and_first _ _ c.order)) (all_each _ i c.covered))
    (all_each _ i c.tables)

-- With the checks passed, a commit by gaps is the commit.
pub commit_by_gaps : (i : Image) (j : Job) → Checked i j → (s : List Ten) → fill_commit j i s ≡ gap_commit j i s
unfolding fill_commit gap_commit
commit_by_gaps i j c s = rw (fill_parts_lem j.parts s, next_next) (go (fill_parts j.parts s) refl)
  where
    go : (d : Drawn (List (List View))) → fill_parts j.parts s ≡ d
        → next d (λ outs s. next (got (flatten outs) s) (λ outs s. fill_runs j outs i s)) ≡ next d (λ outs s. gap_runs j outs i s)
    go used_up e = refl
    go (got outs t) e = runs_by_gaps j (job_parts j c.job) outs s t e i (passing i j c) t
