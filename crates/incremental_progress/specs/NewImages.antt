-- What the image that an accepted commit writes promises to the next commit.
use Rattle.std.specs.Prelude.{ℕ, ◌≡◌, true, List, map}
use Rattle.base.specs.Bytes.{Bytes}
use Rattle.base.specs.Outcome.{answer}
use Rattle.format.specs.Whole.{whole}
use Rattle.records.specs.Values.{Image}
use Rattle.records.specs.Layouts.{image}
use Rattle.manifest.specs.Checks.{image_checks, distinct}
use Rattle.incremental_progress.specs.Commit.{commit_outcome}

-- bytes that are an image: they pass 1 to 3, the image passes 4, 5 and 7, and no two of its runs share an id
pub record PassesAgain (l : List ℕ) : Type 0 where
  pub now : Image
  pub now_is : whole image.read l ≡ answer now
  pub ranges : (image_checks now).ranges ≡ true
  pub tables : (image_checks now).tables ≡ true
  pub sizes : (image_checks now).sizes ≡ true
  pub ids : distinct (map (λ r. r.id) now) ≡ true

-- Of check 6 this leaves out that view starts ascend in each run: the pieces of views that overlap need not.
abbrev pub AcceptedImagePassesAgain : Type 0
AcceptedImagePassesAgain =
    (given record' ids : List ℕ) (room : ℕ) (new : List ℕ)
    → Bytes given
    → Bytes record'
    → commit_outcome given record' ids room ≡ answer new
    → PassesAgain new
