-- Check 6 on the image that an accepted commit writes: "Views of one run may overlap, most often where a last key is missing;
-- cutting them can leave starts that stop 6 refuses in the next call."
use Rattle.std.specs.Prelude.{ℕ, ◌≡◌, Bool, true, not, ◌&&◌, ◌||◌, eqb}
use mathlib.Core.List.{List, [], ◌∷◌, map, flat_map}
use Rattle.base.specs.Bytes.{Bytes}
use Rattle.base.specs.Outcome.{answer}
use Rattle.key.specs.Order.{Key, key_at_most}
use Rattle.comparable_range.specs.Range.{Bound, included, holds}
use Rattle.format.specs.Whole.{whole}
use Rattle.records.specs.Values.{View, Run, Image, Job}
use Rattle.records.specs.Layouts.{image, job}
use Rattle.manifest.specs.Ranges.{effective}
use Rattle.manifest.specs.Checks.{all, ascend, starts, has, image_checks}
use Rattle.incremental_progress.specs.Intervals.{Interval, cut_out}
use Rattle.incremental_progress.specs.Parts.{intervals}
use Rattle.incremental_progress.specs.Commit.{commit_outcome}
use Rattle.incremental_progress.specs.Members.{In}

-- a commit that is accepted, with the image and the job that were read and the image that is read from what was written
pub record Accepts (before now : Image) (j : Job) : Type 0 where
  pub given : List ℕ
  pub record' : List ℕ
  pub ids : List ℕ
  pub room : ℕ
  pub new : List ℕ
  pub given_bytes : Bytes given
  pub record_bytes : Bytes record'
  pub before_is : whole image.read given ≡ answer before
  pub job_is : whole job.read record' ≡ answer j
  pub answers : commit_outcome given record' ids room ≡ answer new
  pub now_is : whole image.read new ≡ answer now

-- where what is left of a run's views starts
abbrev pub left_starts : List Interval → List View → List Bound
left_starts ivs vs = map (λ r. r.start) (flat_map (λ v. cut_out ivs (effective v ∷ [])) vs)

-- a source run other than the destination
abbrev pub other_source : Job → Run → Bool
other_source j r = has r.id j.sources && not (eqb r.id j.destination)

-- in such a run the starts of what is left ascend; of the destination and of other runs nothing is asked
abbrev pub left_ascends : Job → Run → Bool
left_ascends j r = not (other_source j r) || ascend (left_starts (intervals j.parts) r.views)

pub record OrderAfter (before now : Image) (j : Job) : Type 0 where
  -- run by run, whether its view starts ascend in the new image: those of the destination and of runs that are no source do
  pub runs : map (λ r. ascend (starts r.views)) now ≡ map (left_ascends j) before
  -- check 6
  pub order : (image_checks now).order ≡ all (left_ascends j) before

abbrev pub OrderAfterCommit : Type 0
OrderAfterCommit = (before now : Image) (j : Job) → Accepts before now j → OrderAfter before now j

-- no view's effective range holds a key above the next view's start
pub data NoneReaches : List View → Type 0 where
  no_view : NoneReaches []
  last_view : {v : View} → NoneReaches (v ∷ [])
  next_view : {v w : View} {vs : List View} → ((x k : Key) → holds (effective v) x ≡ true → (effective w).start ≡ included k → key_at_most x k ≡ true)
      → NoneReaches (w ∷ vs) → NoneReaches (v ∷ w ∷ vs)

-- What is left of such a run ascends; and if each source run other than the destination is one, the new image passes check 6.
pub record Orderly (before now : Image) (j : Job) : Type 0 where
  pub run : (r : Run) → In r before → NoneReaches r.views → left_ascends j r ≡ true
  pub image : ((r : Run) → In r before → other_source j r ≡ true → NoneReaches r.views) → (image_checks now).order ≡ true

abbrev pub NoneReachesPassesSix : Type 0
NoneReachesPassesSix = (before now : Image) (j : Job) → Accepts before now j → Orderly before now j
