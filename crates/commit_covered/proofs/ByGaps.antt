-- The check by gaps is the check 12 of document 01, of an image whose views pass check 5 and a job that passes its checks.
-- Assumes nothing.
use mathlib.Core.Path.{◌≡◌, refl, sym, ap}
use mathlib.Core.Bool.{true, not, ◌||◌}
use mathlib.Core.List.{List, [], ◌∷◌}
use Rattle.base.specs.Pick.{and_first, and_second}
use Rattle.records.specs.Values.{View, Image, Job}
use Rattle.manifest.specs.Ranges.{effective}
use Rattle.manifest.specs.Checks.{all, table_passes, image_checks}
use Rattle.manifest.proofs.ViewRanges.{effective_start_is_held}
use Rattle.incremental_progress.specs.Parts.{intervals}
use Rattle.incremental_progress.specs.Gaps.{gaps}
use Rattle.incremental_progress.specs.Jobs.{is_output}
use Rattle.incremental_progress.specs.Checks.{nothing_left, covered, output_views_covered}
use Rattle.incremental_progress.specs.Laws.{JobPasses}
use Rattle.incremental_progress.proofs.ByGaps.{effective_passes, pieces_by_gaps}
use Rattle.incremental_progress.proofs.Checks.{job_parts}
use Rattle.commit_covered.specs.Covered.{covered_in, views_covered, covered_by}

module _ (j : Job) (c : JobPasses j) where
  view_covered : (v : View) → table_passes v ≡ true → covered_in (gaps (intervals j.parts)) v ≡ covered (intervals j.parts) v
  unfolding covered_in covered
  view_covered v h =
      let s = effective_start_is_held v h in
      ap nothing_left (sym (pieces_by_gaps j.parts (job_parts j c) (effective v) s.key s.start (effective_passes v h)))

  pub views_by_gaps :
      (vs : List View)
      → all table_passes vs ≡ true
      → views_covered (gaps (intervals j.parts)) j.parts vs ≡ all (λ v. not (is_output j.parts v.table) || covered (intervals j.parts) v) vs
  unfolding views_covered all
  views_by_gaps [] h = refl
  views_by_gaps (v ∷ vs) h =
      rw (view_covered v (and_first (table_passes v) (all table_passes vs) h), views_by_gaps vs (and_second (table_passes v) (all table_passes vs) h))

  runs_by_gaps : (i : Image) → all (λ r. all table_passes r.views) i ≡ true → covered_by (gaps (intervals j.parts)) i j ≡ output_views_covered i j
  unfolding covered_by output_views_covered all
  runs_by_gaps [] h = refl
  runs_by_gaps (r ∷ i) h =
      let a = and_first (all table_passes r.views) (all (λ r. all table_passes r.views) i) h in
      let b = and_second (all table_passes r.views) (all (λ r. all table_passes r.views) i) h in
      rw (views_by_gaps r.views a, runs_by_gaps i b)

  pub covered_by_gaps : (i : Image) → (image_checks i).tables ≡ true → covered_by (gaps (intervals j.parts)) i j ≡ output_views_covered i j
  unfolding image_checks
  covered_by_gaps i h = runs_by_gaps i h
