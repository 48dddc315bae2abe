-- `visible_size::fraction::ranges_fraction` meets its contract, by what its callees answer.
-- Assumes nothing.
use Rattle.std.proofs.Common.{rules}
use Rattle.visible_size.proofs.RangeExits.{fraction_exits, part_of}
use Rattle.visible_size.proofs.fraction.ranges_fraction.Goals as goal

pub returns-then-same_range : goal.returns-then-same_range
returns-then-same_range c = search (rules, fraction_exits)

pub returns-else-same_range : goal.returns-else-same_range
returns-else-same_range c =
    part_of
    _
    _
    c.same_range.ensures
    c.if-same_range.false
    c.bound_key.ensures
    c.bound_key-else-same_range.ensures
    c.common_prefix_len-skip.ensures
    c.range_len.ensures
    c.range_len-else-same_range.ensures
    c.lengths_fraction.ensures
