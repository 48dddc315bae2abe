-- The numbers of bounds lie from 0 to 1, and the length of a range is at most 1.
-- Assumes nothing.
use Rattle.std.proofs.Common.{ℕ, List}
use lib.Ieee.{Float, binary64, of_bits, sub, le}
use Rattle.format.specs.Range.{bound_in, range_in}
use Rattle.format.specs.declared.range.BoundSpan.{BoundSpan}
use Rattle.visible_size.specs.Steps.{zero64, one64, range_len}
use Rattle.visible_size.specs.Numbers.{InUnit, BoundNumber, RangeLen}
use Rattle.visible_size.proofs.Floats.{difference_most}

pub zero_within : InUnit zero64
unfolding of_bits le
zero_within = record { least = tt; most = tt }

pub one_within : InUnit one64
unfolding of_bits le
one_within = record { least = tt; most = tt }

-- ---- `range_len`
pub between : (s : List ℕ) (start end : BoundSpan) (skip : ℕ) {x y : Float} → BoundNumber skip zero64 (bound_in s start) x → BoundNumber skip one64 (bound_in s end) y → RangeLen skip (range_in s start end) (sub binary64 y x)
unfolding range_len
between s start end skip h k =
    record { meaning = rw (h.meaning, k.meaning); most = difference_most k.within h.within }

pub ruleset lengths = (zero_within, one_within, between)
