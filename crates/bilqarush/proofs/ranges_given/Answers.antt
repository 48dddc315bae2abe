-- `bilqarush::ranges_given` meets its contract, check by check.
-- Assumes nothing.
use Rattle.bilqarush.proofs.Pairs.{both_pass}
use Rattle.bilqarush.proofs.ranges_given.Goals as goal

pub returns-then-passes-2 : goal.returns-then-passes-2
returns-then-passes-2 c =
    both_pass c.range_whole.ensures c.range_whole-in-At.ensures c.in-At.is c.in-At-range_whole.is c.passes.ensures c.if-passes.true c.passes-then-passes.ensures c.if-passes-2.true
