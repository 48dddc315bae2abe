-- Laws of the numbers: what the scales are, and between which ends the numbers of keys and the fractions lie.
use Rattle.std.specs.Prelude.{◌≡◌, ℕ, suc, ◌^◌, ◌<◌, false, take}
use Rattle.std.specs.Float.Ieee.Exact.{HasValue}
use Rattle.base.specs.Bytes.{Bytes}
use Rattle.key.specs.Order.{Key}
use Rattle.comparable_range.specs.Range.{Range}
use Rattle.comparable_range.specs.Laws.{ByteRange}
use Rattle.visible_size.specs.Steps.{scale, key_fraction, ranges_fraction}
use Rattle.visible_size.specs.Numbers.{InUnit, InPart}

-- the scale of a place is exactly 1 / 256 ^ (place + 1)
abbrev pub ScalesArePowers : Type 0
ScalesArePowers = (place : ℕ) → place < 8 → HasValue (scale place) false 1 (256 ^ suc place)

abbrev pub KeyNumbersLieFromZeroToOne : Type 0
KeyNumbersLieFromZeroToOne = (part : Key) → Bytes part → InUnit (key_fraction part)

-- from 1e-6 to 1, or whole
abbrev pub PartsLieBetween : Type 0
PartsLieBetween = (physical effective : Range) → ByteRange physical → ByteRange effective → InPart (ranges_fraction physical effective)

-- no byte beyond the eighth counts
abbrev pub NumberByEightBytes : Type 0
NumberByEightBytes = (part : Key) → key_fraction (take 8 part) ≡ key_fraction part
