-- The exits of `commit`.
-- Assumes nothing.
use Prim.Native.Nat.{ℕ, ◌≤◌, ◌<◌}
use mathlib.Core.Path.{◌≡◌, sym, ap, subst, ◌∙◌}
use mathlib.Core.List.{List}
use lib.ListN.{length}
use Rattle.base.specs.Outcome.{lent, reported}
use Rattle.base.specs.Outcome as outcome
use Rattle.base.specs.declared.Written.TheVariants.{Stop}
use Rattle.format.specs.Whole.{whole}
use Rattle.records.specs.Layouts.{image}
use Rattle.incremental_progress.specs.Commit.{commit_outcome}
use Rattle.commit_index.specs.Index.{ImageIndexed, ImageAnswer, ImageTold}
use Rattle.commit_index.specs.declared.Indexed.{Indexed}
use Rattle.commit_index.specs.declared.Indexed.TheVariants.{At as IndexedAt, Stop as IndexedStop}
use Rattle.commit.proofs.JobExits.{whole_long, whole_short}

-- ---- commit
module _ (s t ids out : List ℕ) where
  stopped_first : {k : ℕ} → whole image.read s ≡ outcome.stop k → commit_outcome s t ids (length out) ≡ outcome.stop k
  unfolding commit_outcome
  stopped_first e = rw e

  pub commit_long : 65536 < length s → Stop 3 ≡ reported (commit_outcome s t ids (length out))
  commit_long h = sym (ap reported (stopped_first (whole_long image.read s h)))

  pub commit_long_kept : 65536 < length s → out ≡ lent out (commit_outcome s t ids (length out))
  commit_long_kept h = sym (ap (lent out) (stopped_first (whole_long image.read s h)))

  module _ {d x : List ℕ} {w : Indexed} (f : ImageIndexed s d x w) (h : length s ≤ 65536) {k : ℕ} (q : w ≡ IndexedStop k) where
    not_an_image : commit_outcome s t ids (length out) ≡ outcome.stop k
    not_an_image = stopped_first (whole_short image.read s h ∙ subst (ImageAnswer s x) q f.is)

    pub commit_image_stops : Stop k ≡ reported (commit_outcome s t ids (length out))
    commit_image_stops = sym (ap reported not_an_image)

    pub commit_image_kept : out ≡ lent out (commit_outcome s t ids (length out))
    commit_image_kept = sym (ap (lent out) not_an_image)

pub commit_told : {s d x : List ℕ} {w : Indexed} → ImageIndexed s d x w → {n a : ℕ} → w ≡ IndexedAt n a → ImageTold s x n a
commit_told {s} {d} {x} f q = subst (ImageAnswer s x) q f.is

pub ruleset commit_exits = (commit_long, commit_long_kept, commit_image_stops, commit_image_kept, commit_told)
