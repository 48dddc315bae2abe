-- Visible fractions and sizes of small views, computed. Keys are written by their bytes, fractions by their bits.
use Rattle.std.specs.Prelude.{◌≡◌, ℕ, ◌^◌, [], ◌∷◌, from_bits}
use Rattle.std.proofs.Math.Option.{some}
use Rattle.std.specs.Float.{binary64}
use Rattle.key.specs.Order.{Key}
use Rattle.comparable_range.specs.Range.{unbounded, included, excluded, Range}
use Rattle.records.specs.Values.{View}
use Rattle.visible_size.specs.Steps.{zero64, one64, min_visible_fraction, clamp, range_len, round_half_away}
use Rattle.visible_size.specs.Numbers.{InPart}
use Rattle.visible_size.specs.Sizes.{visible_fraction, estimate_visible_size}
use Rattle.visible_size.specs.declared.VisibleFraction.{VisibleFraction}
use Rattle.visible_size.specs.declared.VisibleFraction.TheVariants.{Whole, Part}

-- a view with that visible range of a table with that first key, last key and raw size
abbrev view_of : Key → Key → Range → ℕ → View
view_of first last visible raw =
    record {
      id = record { 0 = [] };
      table = record { id = record { 0 = [] }; index_offset = raw; index_len = 0; filter_offset = 0; first = first; last = some last };
      visible = some visible;
    }

-- from a key on, and before another
abbrev before : Key → Key → Range
before j k = record { start = included j; end = excluded k }

-- a key alone
abbrev point : Key → Range
point k = record { start = included k; end = included k }

-- keys of one byte
abbrev byte : ℕ → Key
byte b = b ∷ []

abbrev part : ℕ → VisibleFraction
part bits = Part (from_bits binary64 bits)

abbrev half : VisibleFraction
half = part 0x3FE0_0000_0000_0000

-- ---- a half: keys 00 to 80, of which those before 40 are visible
abbrev first_half : ℕ → View
first_half raw = view_of (byte 0x00) (byte 0x80) (before (byte 0x00) (byte 0x40)) raw

-- 2.5 is rounded to 3
abbrev pub HalfOfFive : Type 0
HalfOfFive = (visible_fraction (first_half 5) ≡ half) × (estimate_visible_size (first_half 5) ≡ 3)

-- 1.5 to 2, and 0.5 to 1
abbrev pub HalvesGoUp : Type 0
HalvesGoUp = (estimate_visible_size (first_half 3) ≡ 2) × (estimate_visible_size (first_half 1) ≡ 1)

abbrev pub NothingCountsOne : Type 0
NothingCountsOne = estimate_visible_size (first_half 0) ≡ 1

-- away from zero is down for a number below it: -2.5 goes to -3, and -0.25 to -0
abbrev pub NegativeHalvesGoDown : Type 0
NegativeHalvesGoDown =
    (round_half_away (from_bits binary64 0xC004_0000_0000_0000) ≡ from_bits binary64 0xC008_0000_0000_0000)
    × (round_half_away (from_bits binary64 0xBFD0_0000_0000_0000) ≡ from_bits binary64 0x8000_0000_0000_0000)

-- ---- clamped
abbrev pub ClampHasBothEnds : Type 0
ClampHasBothEnds =
    (clamp (from_bits binary64 0x4000_0000_0000_0000) min_visible_fraction one64 ≡ one64)
    × (clamp zero64 min_visible_fraction one64 ≡ min_visible_fraction)

-- no number below 1e-6 or above 1 is a part's, however near
abbrev pub PartsHaveBothEnds : Type 0
PartsHaveBothEnds = (InPart (part 0x3EB0_C6F7_A0B5_ED8C) → ⊥) × (InPart (part 0x3FF0_0000_0000_0001) → ⊥)

-- keys 00 to FF, of which those before 00 00 00 01 are visible
abbrev sliver : View
sliver = view_of (byte 0x00) (byte 0xFF) (before (byte 0x00) (0x00 ∷ 0x00 ∷ 0x00 ∷ 0x01 ∷ [])) (2 ^ 53)

-- a fraction below 1e-6 is 1e-6
abbrev pub SliverIsClamped : Type 0
SliverIsClamped = (visible_fraction sliver ≡ Part min_visible_fraction) × (estimate_visible_size sliver ≡ 9007199255)

-- ---- a quotient of 1 is a part, and not the whole: only the last key is not visible
abbrev all_but_last : ℕ → View
all_but_last raw = view_of (byte 0x00) (byte 0x80) (before (byte 0x00) (byte 0x80)) raw

abbrev pub QuotientOneIsAPart : Type 0
QuotientOneIsAPart = (visible_fraction (all_but_last 5) ≡ Part one64) × (estimate_visible_size (all_but_last 5) ≡ 5)

abbrev pub GreatestSizeIsExact : Type 0
GreatestSizeIsExact = estimate_visible_size (all_but_last (2 ^ 53)) ≡ 9007199254740992

-- ---- lengths
-- 61 00 00 00 00 00 00 00 01: after the shared 61 it stands for 2^-64
abbrev nearby : Key
nearby = 0x61 ∷ 0x00 ∷ 0x00 ∷ 0x00 ∷ 0x00 ∷ 0x00 ∷ 0x00 ∷ 0x00 ∷ 0x01 ∷ []

-- a table shorter than 2^-52 counts as that long: 2^-12
abbrev pub ShortTableHasEpsilon : Type 0
ShortTableHasEpsilon = visible_fraction (view_of (byte 0x61) nearby (before (byte 0x61) nearby) 5) ≡ part 0x3F30_0000_0000_0000

-- the first key is a prefix of the last: nothing is left of it, which stands for 0
abbrev pub PrefixStandsForZero : Type 0
PrefixStandsForZero =
    visible_fraction (view_of (byte 0x61) (0x61 ∷ 0x80 ∷ []) (before (byte 0x61) (0x61 ∷ 0x40 ∷ [])) 5) ≡ half

abbrev pub CommonPrefixIsSkipped : Type 0
CommonPrefixIsSkipped =
    visible_fraction (view_of (0x61 ∷ 0x62 ∷ 0x00 ∷ []) (0x61 ∷ 0x62 ∷ 0x80 ∷ []) (before (0x61 ∷ 0x62 ∷ 0x00 ∷ []) (0x61 ∷ 0x62 ∷ 0x40 ∷ [])) 5)
    ≡ half

-- what the table's keys share is skipped, and not what those of the visible range do: 2^-8
abbrev pub SkippedIsTheTables : Type 0
SkippedIsTheTables =
    visible_fraction (view_of (byte 0x00) (byte 0x80) (before (byte 0x40) (0x40 ∷ 0x80 ∷ [])) 5) ≡ part 0x3F70_0000_0000_0000

-- an open start is 0 and an open end 1
abbrev pub OpenRangeHasLengthOne : Type 0
OpenRangeHasLengthOne = range_len 0 (record { start = unbounded; end = unbounded }) ≡ one64

-- a visible range of length 0 counts as the whole
abbrev only_first : View
only_first = view_of (byte 0x61) (byte 0x62) (point (byte 0x61)) 5

abbrev pub LengthZeroIsWhole : Type 0
LengthZeroIsWhole = (visible_fraction only_first ≡ Whole) × (estimate_visible_size only_first ≡ 5)

-- ---- eight bytes are read: the eighth counts, the ninth does not
abbrev ending_in : ℕ → ℕ → View
ending_in eighth ninth =
    view_of (byte 0x00) (byte 0xFF)
    (before (byte 0x00) (0x01 ∷ 0x02 ∷ 0x03 ∷ 0x04 ∷ 0x05 ∷ 0x06 ∷ 0x07 ∷ eighth ∷ ninth ∷ []))
    5

abbrev pub NinthByteIsNotRead : Type 0
NinthByteIsNotRead =
    (visible_fraction (ending_in 0x08 0x00) ≡ part 0x3F70_3060_A0F1_51C2)
    × ((visible_fraction (ending_in 0x08 0xFF) ≡ part 0x3F70_3060_A0F1_51C2)
    × (visible_fraction (ending_in 0x09 0x00) ≡ part 0x3F70_3060_A0F1_51C3))
