-- Laws of progress: later records hold more, and check 13 never refuses.
-- Assumes nothing.
use mathlib.Core.Path.{◌≡◌, refl, sym, ◌∙◌}
use mathlib.Core.Bool.{Bool, true, false, not, ◌||◌}
use mathlib.Core.List.{List, [], ◌∷◌}
use Rattle.comparable_range.specs.Range.{intersect_sides, meets}
use Rattle.records.specs.Values.{View, Job}
use Rattle.manifest.specs.Ranges.{own, effective}
use Rattle.manifest.specs.Checks.{all, has, table_passes, image_checks}
use Rattle.incremental_progress.specs.Intervals.{Interval, cut_out}
use Rattle.incremental_progress.specs.Parts.{intervals}
use Rattle.incremental_progress.specs.Jobs.{LaterJob}
use Rattle.incremental_progress.specs.Checks.{retained_meets, retained_meet}
use Rattle.incremental_progress.specs.Laws.{LaterHoldsMore, RetainedAlwaysMeets}
use Rattle.base.specs.Lists.{All, All-map}
use Rattle.incremental_progress.proofs.Cutting.{grown_within}
use Rattle.incremental_progress.proofs.Subtraction.{any_cuts}
use Rattle.incremental_progress.proofs.Views.{cut_inside, retained_meets_lem}
use Rattle.incremental_progress.proofs.Later.{later_self, intervals_grown}
use Rattle.incremental_progress.proofs.Checks.{all_each, sane, job_parts}

pub later_holds_more : LaterHoldsMore
later_holds_more i j l a b x h =
    any_cuts (intervals j.parts) x
    ∙ grown_within x (intervals_grown (job_parts i a) (job_parts j b) l.parts) (sym (any_cuts (intervals i.parts) x) ∙ h)

-- ---- check 13
each_all : {A : Type 0} (f : A → Bool) (xs : List A) → All (λ x. f x ≡ true) xs → all f xs ≡ true
unfolding all
each_all f [] a = refl
each_all f (x ∷ xs) a = rw (a.0, each_all f xs a.1)

meets_always : (ivs : List Interval) (v : View) → table_passes v ≡ true → retained_meets ivs v ≡ true
unfolding retained_meets
meets_always ivs v h =
    each_all (λ r. meets (intersect_sides (own v.table) r)) (cut_out ivs (effective v ∷ []))
    (All-map (λ r k. retained_meets_lem v r k) (cut_out ivs (effective v ∷ [])) (cut_inside ivs (effective v) (sane v h).shows))

pub retained_always_meets : RetainedAlwaysMeets
unfolding retained_meet image_checks
retained_always_meets i j h =
    each_all _ i
    (All-map (λ r k. either (has r.id j.sources) (each_all _ r.views (All-map (λ v m. meets_always (intervals j.parts) v m) r.views (all_each _ r.views k))))
    i (all_each _ i h))
  where
    either : (a : Bool) {b : Bool} → b ≡ true → (not a || b) ≡ true
    either true e = e
    either false e = refl

-- ---- the same record again
pub later_itself : (j : Job) → LaterJob j j
later_itself j = record { destination = refl; sources = refl; parts = later_self j.parts }
