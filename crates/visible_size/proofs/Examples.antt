-- The proofs of specs/Examples.antt: every one is computed.
-- Assumes nothing.
use Rattle.std.proofs.Common.{refl}
use lib.Ieee.{add, sub, mul, div, round, of_bits, of_int, to_unsigned, lt, eq, le}
use Rattle.key.specs.Order.{cmp_number, cmp_key}
use Rattle.comparable_range.specs.Range.{cmp_bound, start_side, end_side, cmp_range}
use Rattle.manifest.specs.Ranges.{effective}
use Rattle.visible_size.specs.Steps.{scale, with_bytes, key_fraction, common_prefix_len, range_len, lengths_fraction, same_range, ranges_fraction, round_half_away, visible_size}
use Rattle.visible_size.specs.Sizes.{visible_fraction, estimate_visible_size}
use Rattle.visible_size.specs.Examples.{HalfOfFive, HalvesGoUp, NothingCountsOne, NegativeHalvesGoDown, ClampHasBothEnds, PartsHaveBothEnds, SliverIsClamped, QuotientOneIsAPart, GreatestSizeIsExact, ShortTableHasEpsilon, PrefixStandsForZero, CommonPrefixIsSkipped, SkippedIsTheTables, OpenRangeHasLengthOne, LengthZeroIsWhole, NinthByteIsNotRead}

pub half_of_five : HalfOfFive
unfolding add sub mul div round of_bits of_int to_unsigned lt eq cmp_number cmp_key cmp_bound start_side end_side cmp_range effective scale with_bytes key_fraction common_prefix_len range_len lengths_fraction same_range ranges_fraction round_half_away visible_size visible_fraction estimate_visible_size
half_of_five = (refl, refl)

pub halves_go_up : HalvesGoUp
unfolding add sub mul div round of_bits of_int to_unsigned lt eq cmp_number cmp_key cmp_bound start_side end_side cmp_range effective scale with_bytes key_fraction common_prefix_len range_len lengths_fraction same_range ranges_fraction round_half_away visible_size visible_fraction estimate_visible_size
halves_go_up = (refl, refl)

pub nothing_counts_one : NothingCountsOne
unfolding add sub mul div round of_bits of_int to_unsigned lt eq cmp_number cmp_key cmp_bound start_side end_side cmp_range effective scale with_bytes key_fraction common_prefix_len range_len lengths_fraction same_range ranges_fraction round_half_away visible_size visible_fraction estimate_visible_size
nothing_counts_one = refl

pub negative_halves_go_down : NegativeHalvesGoDown
unfolding round of_bits round_half_away
negative_halves_go_down = (refl, refl)

pub clamp_has_both_ends : ClampHasBothEnds
unfolding of_bits lt
clamp_has_both_ends = (refl, refl)

pub parts_have_both_ends : PartsHaveBothEnds
unfolding of_bits le
parts_have_both_ends = (λ h. h.0, λ h. h.1)

pub sliver_is_clamped : SliverIsClamped
unfolding add sub mul div round of_bits of_int to_unsigned lt eq cmp_number cmp_key cmp_bound start_side end_side cmp_range effective scale with_bytes key_fraction common_prefix_len range_len lengths_fraction same_range ranges_fraction round_half_away visible_size visible_fraction estimate_visible_size
sliver_is_clamped = (refl, refl)

pub quotient_one_is_a_part : QuotientOneIsAPart
unfolding add sub mul div round of_bits of_int to_unsigned lt eq cmp_number cmp_key cmp_bound start_side end_side cmp_range effective scale with_bytes key_fraction common_prefix_len range_len lengths_fraction same_range ranges_fraction round_half_away visible_size visible_fraction estimate_visible_size
quotient_one_is_a_part = (refl, refl)

pub greatest_size_is_exact : GreatestSizeIsExact
unfolding add sub mul div round of_bits of_int to_unsigned lt eq cmp_number cmp_key cmp_bound start_side end_side cmp_range effective scale with_bytes key_fraction common_prefix_len range_len lengths_fraction same_range ranges_fraction round_half_away visible_size visible_fraction estimate_visible_size
greatest_size_is_exact = refl

pub short_table_has_epsilon : ShortTableHasEpsilon
unfolding add sub mul div of_bits of_int lt eq cmp_number cmp_key cmp_bound start_side end_side cmp_range effective scale with_bytes key_fraction common_prefix_len range_len lengths_fraction same_range ranges_fraction visible_fraction
short_table_has_epsilon = refl

pub prefix_stands_for_zero : PrefixStandsForZero
unfolding add sub mul div of_bits of_int lt eq cmp_number cmp_key cmp_bound start_side end_side cmp_range effective scale with_bytes key_fraction common_prefix_len range_len lengths_fraction same_range ranges_fraction visible_fraction
prefix_stands_for_zero = refl

pub common_prefix_is_skipped : CommonPrefixIsSkipped
unfolding add sub mul div of_bits of_int lt eq cmp_number cmp_key cmp_bound start_side end_side cmp_range effective scale with_bytes key_fraction common_prefix_len range_len lengths_fraction same_range ranges_fraction visible_fraction
common_prefix_is_skipped = refl

pub skipped_is_the_tables : SkippedIsTheTables
unfolding add sub mul div of_bits of_int lt eq cmp_number cmp_key cmp_bound start_side end_side cmp_range effective scale with_bytes key_fraction common_prefix_len range_len lengths_fraction same_range ranges_fraction visible_fraction
skipped_is_the_tables = refl

pub open_range_has_length_one : OpenRangeHasLengthOne
unfolding sub add of_bits range_len
open_range_has_length_one = refl

pub length_zero_is_whole : LengthZeroIsWhole
unfolding add sub mul div round of_bits of_int to_unsigned lt eq cmp_number cmp_key cmp_bound start_side end_side cmp_range effective scale with_bytes key_fraction common_prefix_len range_len lengths_fraction same_range ranges_fraction round_half_away visible_size visible_fraction estimate_visible_size
length_zero_is_whole = (refl, refl)

pub ninth_byte_is_not_read : NinthByteIsNotRead
unfolding add sub mul div of_bits of_int lt eq cmp_number cmp_key cmp_bound start_side end_side cmp_range effective scale with_bytes key_fraction common_prefix_len range_len lengths_fraction same_range ranges_fraction visible_fraction
ninth_byte_is_not_read = (refl, (refl, refl))
