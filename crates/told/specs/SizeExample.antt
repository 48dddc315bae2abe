-- Each answer on visible sizes, once in bytes, as a call for C tells it: of run 7 with one view, of a table with keys from 00 to
-- 80 and a raw size of 5. Every number's slot holds 7 before.
use Rattle.std.specs.Prelude.{ℕ, true, false, List, [], ◌∷◌, ◌++◌, Float}
use Rattle.std.specs.Float.{binary64}
use Rattle.std.specs.Float.Ieee.{of_bits}
use Rattle.view_sizes.specs.SizeCalls.{visible_fraction_outcome, estimate_visible_size_outcome, estimate_run_visible_size_outcome}
use Rattle.told.specs.Told.{from_to, SlotTold, OptionTold}
use Rattle.told.specs.Sizes.{part_of}

-- ---- the image up to the view's visible flag
abbrev pub from00_to80 : List ℕ
from00_to80 =
    1 ∷ 0 ∷ 0 ∷ 0 ∷ 7 ∷ 0 ∷ 16 ∷ 0 ∷ 0 ∷ 0 ∷ 0 ∷ 0 ∷ 0 ∷ 0 ∷ 0 ∷ 0 ∷ 0 ∷ 0 ∷ 0 ∷ 0
    ∷ 0 ∷ 0 ∷ 1 ∷ 0 ∷ 0 ∷ 0 ∷ 0 ∷ 0 ∷ 0 ∷ 0 ∷ 0 ∷ 0 ∷ 0 ∷ 0 ∷ 0 ∷ 0 ∷ 0 ∷ 0 ∷ 1 ∷ 0
    ∷ 0 ∷ 0 ∷ 0 ∷ 0 ∷ 0 ∷ 0 ∷ 3 ∷ 0 ∷ 0 ∷ 0 ∷ 0 ∷ 0 ∷ 0 ∷ 0 ∷ 2 ∷ 0 ∷ 0 ∷ 0 ∷ 0 ∷ 0
    ∷ 0 ∷ 0 ∷ 0 ∷ 128 ∷ 0 ∷ 1 ∷ 0 ∷ 0 ∷ 1 ∷ 128 ∷ []

-- from 00 up to, without, 40 is visible
abbrev pub half_shown : List ℕ
half_shown = from00_to80 ++ (128 ∷ 96 ∷ 0 ∷ 1 ∷ 0 ∷ 0 ∷ 1 ∷ 64 ∷ [])

-- no visible range
abbrev pub all_shown : List ℕ
all_shown = from00_to80 ++ (0 ∷ [])

-- ---- the number in the slot before, and the fraction, by their bits
abbrev pub seven : Float
seven = of_bits binary64 0x401C_0000_0000_0000

abbrev pub half : Float
half = of_bits binary64 0x3FE0_0000_0000_0000

-- ---- the fraction
abbrev pub PartIsTold : Type 0
PartIsTold = OptionTold (part_of (visible_fraction_outcome half_shown 0 0)) (from_to false true) (from_to seven half) 0

-- the number's slot is left as it was
abbrev pub WholeIsTold : Type 0
WholeIsTold = OptionTold (part_of (visible_fraction_outcome all_shown 0 0)) (from_to true false) (from_to seven seven) 0

-- no image at all: stop 1, and both slots are left
abbrev pub FractionStopIsTold : Type 0
FractionStopIsTold = OptionTold (part_of (visible_fraction_outcome [] 0 0)) (from_to true true) (from_to seven seven) 1

-- ---- the size: half of 5, rounded away from zero
abbrev pub SizeIsTold : Type 0
SizeIsTold = SlotTold (estimate_visible_size_outcome half_shown 0 0) (from_to 7 3) 0

abbrev pub RunSizeIsTold : Type 0
RunSizeIsTold = SlotTold (estimate_run_visible_size_outcome half_shown 0) (from_to 7 3) 0

abbrev pub WholeSizeIsTold : Type 0
WholeSizeIsTold = SlotTold (estimate_visible_size_outcome all_shown 0 0) (from_to 7 5) 0

abbrev pub SizeStopIsTold : Type 0
SizeStopIsTold = SlotTold (estimate_visible_size_outcome [] 0 0) (from_to 7 7) 1

-- the run at place 1 is not there
abbrev pub RunSizeStopIsTold : Type 0
RunSizeStopIsTold = SlotTold (estimate_run_visible_size_outcome half_shown 1) (from_to 7 7) 9
