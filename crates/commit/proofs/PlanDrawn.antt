-- A planned commit is the commit by gaps: what it draws, how many bytes it writes, and whether it is within the ceilings.
-- Assumes nothing.
use Prim.Native.Nat.{ℕ}
use mathlib.Core.Path.{◌≡◌, sym, ap, ◌∙◌}
use mathlib.Core.Bool.{true, false, ◌&&◌}
use mathlib.Core.List.{List}
use lib.Dec.{leb}
use lib.ListN.{length, drop}
use Rattle.base.specs.Bytes.{Bytes}
use Rattle.base.specs.Pick.{pick}
use Rattle.records.specs.Values.{View, Image}
use Rattle.records.specs.Layouts.{image}
use Rattle.commit_index.specs.Index.{image_of}
use Rattle.incremental_progress.specs.Draws.{Ten, got, used_up, supply, fill_all}
use Rattle.incremental_progress.specs.Gaps.{gap_commit}
use Rattle.incremental_progress.specs.Commit.{result_fits}
use Rattle.incremental_progress.specs.Plans.{draw_entries, new_image}
use Rattle.incremental_progress.proofs.Plans.{commit_as_one, commit_used_up}
use Rattle.incremental_progress.proofs.PlanBytes.{commit_length, commit_fits}
use Rattle.commit_durable.specs.Tables.{job_of}
use Rattle.commit_plan.specs.Plans.{CommitPlanned}
use Rattle.commit_plan.specs.declared.plan.ImagePlan.{ImagePlan}
use Rattle.commit.proofs.ReadWithin.{entries_full}

module _ {given record' ids rows runs : List ℕ} {q : ImagePlan} (p : CommitPlanned given record' ids rows runs q) where
  -- the views that fill the entries, the ids that are left, and the image that they make
  abbrev pub views : List View
  views = p.planned.views

  abbrev pub left : List Ten
  left = supply (drop q.plan.drawn ids)

  abbrev pub new : Image
  new = new_image (job_of record') (image_of given) views

  -- ---- the ids are not enough
  pub not_drawn : q.plan.enough ≡ false → gap_commit (job_of record') (image_of given) (supply ids) ≡ used_up
  not_drawn e =
      commit_used_up (job_of record') (image_of given) (supply ids)
      (p.planned.drawn ∙ ap (λ b. pick b (got views left) used_up) e)

  -- ---- they are
  module _ (e : q.plan.enough ≡ true) where
    pub views_drawn : fill_all (draw_entries (job_of record') (image_of given)) (supply ids) ≡ got views left
    views_drawn = p.planned.drawn ∙ ap (λ b. pick b (got views left) used_up) e

    pub new_drawn : gap_commit (job_of record') (image_of given) (supply ids) ≡ got new left
    new_drawn = commit_as_one (job_of record') (image_of given) (supply ids) views left views_drawn

    pub new_length : Bytes given → Bytes record' → q.bytes ≡ length (image.write new)
    new_length b c =
        p.bytes ∙ sym (commit_length (job_of record') (image_of given) ids views left (entries_full given record' b c) views_drawn)

    pub new_fits : Bytes given → Bytes record' → result_fits new ≡ (q.fits && leb q.bytes 65536)
    new_fits b c =
        commit_fits (job_of record') (image_of given) ids views left (entries_full given record' b c) views_drawn
        ∙ rw (p.fits, p.bytes)
