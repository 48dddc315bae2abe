-- The laws of the numbers.
-- Assumes nothing.
use Rattle.std.proofs.Common.{ℕ, Bool, true, false, T, drop, refl, ap, le_of_eq, lit≤, take-take}
use lib.Ieee.{Float, le}
use Rattle.base.specs.Pick.{pick}
use Rattle.base.specs.Bytes.{bytes_drop}
use Rattle.comparable_range.specs.Range.{Bound, unbounded, included, excluded, Range}
use Rattle.comparable_range.specs.Laws.{ByteBound, ByteRange}
use Rattle.visible_size.specs.Steps.{zero64, one64, with_bytes, key_fraction, bound_number, range_len, skip_of, same_range, lengths_fraction, ranges_fraction}
use Rattle.visible_size.specs.Numbers.{InUnit, InPart}
use Rattle.visible_size.specs.NumberLaws.{ScalesArePowers, KeyNumbersLieFromZeroToOne, PartsLieBetween, NumberByEightBytes}
use Rattle.visible_size.specs.declared.VisibleFraction.{VisibleFraction}
use Rattle.visible_size.specs.declared.VisibleFraction.TheVariants.{Whole}
use Rattle.visible_size.proofs.Floats.{difference_most}
use Rattle.visible_size.proofs.Scales.{scale_is_power}
use Rattle.visible_size.proofs.KeyNumbers.{none_yet, with_bytes_within}
use Rattle.visible_size.proofs.Lengths.{zero_within, one_within}
use Rattle.visible_size.proofs.Fractions.{lengths_within}

pub scales_are_powers : ScalesArePowers
scales_are_powers = scale_is_power

pub key_numbers_lie_from_zero_to_one : KeyNumbersLieFromZeroToOne
unfolding key_fraction
key_numbers_lie_from_zero_to_one part b = with_bytes_within 8 0 zero64 part (lit≤ tt) b none_yet

bound_within : (skip : ℕ) (side : Float) (b : Bound) → InUnit side → ByteBound b → InUnit (bound_number skip side b)
bound_within skip side unbounded u k = u
bound_within skip side (included key) u k = key_numbers_lie_from_zero_to_one (drop skip key) (bytes_drop skip key k)
bound_within skip side (excluded key) u k = key_numbers_lie_from_zero_to_one (drop skip key) (bytes_drop skip key k)

length_most : (skip : ℕ) (r : Range) → ByteRange r → T (le (range_len skip r) one64)
unfolding range_len
length_most skip r b =
    difference_most (bound_within skip one64 r.end one_within b.end) (bound_within skip zero64 r.start zero_within b.start)

either : (b : Bool) (f : VisibleFraction) → InPart f → InPart (pick b Whole f)
either true f h = tt
either false f h = h

pub parts_lie_between : PartsLieBetween
unfolding ranges_fraction
parts_lie_between physical effective p e =
    let skip = skip_of physical in
    either (same_range effective physical) (lengths_fraction (range_len skip effective) (range_len skip physical))
    (lengths_within (range_len skip effective) (range_len skip physical) (length_most skip effective e) (length_most skip physical p))

pub number_by_eight_bytes : NumberByEightBytes
unfolding key_fraction
number_by_eight_bytes part = ap (with_bytes zero64 0) (take-take 8 8 part (le_of_eq refl))
