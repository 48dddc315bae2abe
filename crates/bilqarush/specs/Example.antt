-- Document 01's example, in bytes: run 7 with table 1 (first a, last c) and table 2 (first d, no last), neither with a
-- visible range, and what `runlist` writes for it.
use Rattle.std.specs.Prelude.{ℕ, ◌≡◌, List, [], ◌∷◌}
use Rattle.base.specs.Outcome.{answer, stop}
use Rattle.comparable_range.specs.declared.Kind.TheVariants.{Included}
use Rattle.bilqarush.specs.ImageCalls.{list_outcome, compacted_effective_range_outcome, ViewRangeFound}
use Rattle.bilqarush.specs.declared.images.ViewRange.{ViewRange}
use Rattle.bilqarush.specs.declared.images.ViewRange.TheVariants.{At}

abbrev pub example_image : List ℕ
example_image =
    1 ∷ 0 ∷ 0 ∷ 0 ∷ 7 ∷ 0 ∷ 32 ∷ 0 ∷ 0 ∷ 0 ∷ 0 ∷ 0 ∷ 0 ∷ 0 ∷ 0 ∷ 0 ∷ 0 ∷ 0 ∷ 0 ∷ 0
    ∷ 0 ∷ 0 ∷ 1 ∷ 0 ∷ 0 ∷ 0 ∷ 0 ∷ 0 ∷ 0 ∷ 0 ∷ 0 ∷ 0 ∷ 0 ∷ 0 ∷ 0 ∷ 0 ∷ 0 ∷ 0 ∷ 1 ∷ 0
    ∷ 0 ∷ 0 ∷ 0 ∷ 0 ∷ 0 ∷ 0 ∷ 0 ∷ 0 ∷ 0 ∷ 0 ∷ 0 ∷ 0 ∷ 0 ∷ 0 ∷ 0 ∷ 0 ∷ 0 ∷ 0 ∷ 0 ∷ 0
    ∷ 0 ∷ 0 ∷ 0 ∷ 128 ∷ 0 ∷ 1 ∷ 97 ∷ 0 ∷ 1 ∷ 99 ∷ 0 ∷ 0 ∷ 0 ∷ 0 ∷ 0 ∷ 0 ∷ 0 ∷ 0 ∷ 0 ∷ 0
    ∷ 0 ∷ 0 ∷ 0 ∷ 0 ∷ 0 ∷ 0 ∷ 2 ∷ 0 ∷ 0 ∷ 0 ∷ 0 ∷ 0 ∷ 0 ∷ 0 ∷ 0 ∷ 0 ∷ 0 ∷ 0 ∷ 0 ∷ 0
    ∷ 0 ∷ 0 ∷ 2 ∷ 0 ∷ 0 ∷ 0 ∷ 0 ∷ 0 ∷ 0 ∷ 0 ∷ 0 ∷ 0 ∷ 0 ∷ 0 ∷ 0 ∷ 0 ∷ 0 ∷ 0 ∷ 0 ∷ 0
    ∷ 0 ∷ 0 ∷ 0 ∷ 0 ∷ 0 ∷ 0 ∷ 0 ∷ 0 ∷ 0 ∷ 1 ∷ 100 ∷ 0 ∷ []

-- run view table start end
-- 7 0 00000000000000000000000000000001 [61 63]
-- 7 1 00000000000000000000000000000002 [64 -
abbrev pub example_text : List ℕ
example_text =
    114 ∷ 117 ∷ 110 ∷ 32 ∷ 118 ∷ 105 ∷ 101 ∷ 119 ∷ 32 ∷ 116 ∷ 97 ∷ 98 ∷ 108 ∷ 101 ∷ 32 ∷ 115 ∷ 116 ∷ 97 ∷ 114 ∷ 116
    ∷ 32 ∷ 101 ∷ 110 ∷ 100 ∷ 10 ∷ 55 ∷ 32 ∷ 48 ∷ 32 ∷ 48 ∷ 48 ∷ 48 ∷ 48 ∷ 48 ∷ 48 ∷ 48 ∷ 48 ∷ 48 ∷ 48 ∷ 48
    ∷ 48 ∷ 48 ∷ 48 ∷ 48 ∷ 48 ∷ 48 ∷ 48 ∷ 48 ∷ 48 ∷ 48 ∷ 48 ∷ 48 ∷ 48 ∷ 48 ∷ 48 ∷ 48 ∷ 48 ∷ 48 ∷ 48 ∷ 48
    ∷ 49 ∷ 32 ∷ 91 ∷ 54 ∷ 49 ∷ 32 ∷ 54 ∷ 51 ∷ 93 ∷ 10 ∷ 55 ∷ 32 ∷ 49 ∷ 32 ∷ 48 ∷ 48 ∷ 48 ∷ 48 ∷ 48 ∷ 48
    ∷ 48 ∷ 48 ∷ 48 ∷ 48 ∷ 48 ∷ 48 ∷ 48 ∷ 48 ∷ 48 ∷ 48 ∷ 48 ∷ 48 ∷ 48 ∷ 48 ∷ 48 ∷ 48 ∷ 48 ∷ 48 ∷ 48 ∷ 48
    ∷ 48 ∷ 48 ∷ 48 ∷ 48 ∷ 48 ∷ 50 ∷ 32 ∷ 91 ∷ 54 ∷ 52 ∷ 32 ∷ 45 ∷ 10 ∷ []

abbrev pub ExampleIsListed : Type 0
ExampleIsListed = list_outcome example_image 113 ≡ answer example_text

-- one byte less
abbrev pub ExampleNeedsItsRoom : Type 0
ExampleNeedsItsRoom = list_outcome example_image 112 ≡ stop 16

-- the effective range of the first view, [61 63]: where its keys stand in the image
abbrev pub example_range : ViewRange
example_range = At (record { kind = Included; at = 66; len = 1 }) (record { kind = Included; at = 69; len = 1 })

abbrev pub ExampleRangeIsFound : Type 0
ExampleRangeIsFound = ViewRangeFound example_image (compacted_effective_range_outcome example_image 0 0) example_range
