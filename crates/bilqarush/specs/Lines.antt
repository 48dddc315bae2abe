-- The bounds on a line that `list` writes are those that `compacted_effective_range` answers at its place.
use Rattle.std.specs.Prelude.{ℕ, ◌+◌, ◌≡◌, List, [], ◌++◌, get_or, take}
use Rattle.std.proofs.Math.Option.{some}
use Rattle.base.specs.Outcome.{answer}
use Rattle.comparable_range.specs.Range.{Range}
use Rattle.records.specs.Values.{View, Run, Image}
use Rattle.manifest.specs.Checks.{image_given}
use Rattle.db_state.specs.Places.{at}
use Rattle.listing.specs.Listing.{names, bounds_text}
use Rattle.listing.specs.Rows.{split, views_in}
use Rattle.bilqarush.specs.ImageCalls.{compacted_effective_range_outcome, list_outcome}

-- The view at a place of the run at a place: its line comes after the header, the lines of the runs before and of the
-- views before it, and has the run's id, the view's place, its table's id and these bounds.
pub record LineShows (l text : List ℕ) (run view : ℕ) (bounds : Range) : Type 0 where
  pub image : Image
  pub given : image_given l ≡ answer image
  pub its_run : Run
  pub at_run : at image run ≡ some its_run
  pub its_view : View
  pub at_view : at its_run.views view ≡ some its_view
  pub line :
      get_or (split text) (1 + views_in (take run image) + view) []
      ≡ names its_run.id view its_view.table.id.0 ++ bounds_text bounds

abbrev pub LinesShowEffectiveRanges : Type 0
LinesShowEffectiveRanges =
    (l text : List ℕ) (room run view : ℕ) (bounds : Range)
    → list_outcome l room ≡ answer text
    → compacted_effective_range_outcome l run view ≡ answer bounds
    → LineShows l text run view bounds
