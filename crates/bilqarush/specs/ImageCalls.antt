-- The outcome of each public call on an image: the checks in their order, then the answer. Document 01, "Images",
-- "Lookup" and the program `runlist`. And what the calls' answers mean.
use Rattle.std.specs.Prelude.{ℕ, ◌≡◌, List}
use Rattle.base.specs.Outcome.{Outcome, stop, answer, and_then, written_to}
use Rattle.comparable_range.specs.Range.{Range}
use Rattle.format.specs.Range.{range_in, BoundInside}
use Rattle.manifest.specs.Ranges.{effective}
use Rattle.manifest.specs.Checks.{image_given}
use Rattle.db_state.specs.Places.{view_given}
use Rattle.listing.specs.Listing.{listing}
use Rattle.bilqarush.specs.declared.images.Checked.{Checked}
use Rattle.bilqarush.specs.declared.images.Checked.TheVariants.{Accepted, Stop}
use Rattle.bilqarush.specs.declared.images.ViewRange.{ViewRange}
use Rattle.bilqarush.specs.declared.images.ViewRange.TheVariants.{At, Stop as RangeStop}

-- whether bytes are an image
unfoldable pub check_image_outcome : List ℕ → Outcome Unit
check_image_outcome l = and_then (image_given l) (λ i. answer tt)

abbrev pub checked_answer : Checked → Outcome Unit
checked_answer Accepted = answer tt
checked_answer (Stop n) = stop n

-- the effective range of the view at a place of the run at a place
unfoldable pub compacted_effective_range_outcome : List ℕ → ℕ → ℕ → Outcome Range
compacted_effective_range_outcome l run view = and_then (view_given l run view) (λ v. answer (effective v))

-- the answer's bounds stand in the image
abbrev pub view_range_answer : List ℕ → ViewRange → Outcome Range
view_range_answer l (At start end) = answer (range_in l start end)
view_range_answer l (RangeStop n) = stop n

abbrev pub ViewRangeInside : List ℕ → ViewRange → Type 0
ViewRangeInside l (At start end) = BoundInside l start × BoundInside l end
ViewRangeInside l (RangeStop n) = Unit

pub record ViewRangeFound (l : List ℕ) (g : Outcome Range) (r : ViewRange) : Type 0 where
  pub meaning : view_range_answer l r ≡ g
  pub inside : ViewRangeInside l r

-- the listing, into a buffer of `room` bytes
unfoldable pub list_outcome : List ℕ → ℕ → Outcome (List ℕ)
list_outcome l room = and_then (image_given l) (λ i. written_to room (listing i))
