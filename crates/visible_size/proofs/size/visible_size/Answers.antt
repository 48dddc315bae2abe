-- `visible_size::size::visible_size` meets its contract.
-- Assumes nothing.
use Rattle.std.proofs.Common.{arith, rules}
use Rattle.visible_size.proofs.SizeExits.{size_exits, size_answered}
use Rattle.visible_size.proofs.size.visible_size.Goals as goal

pub round_away-requires-clause-fact_1 : goal.round_away-requires-clause-fact_1
round_away-requires-clause-fact_1 c = search (rules, size_exits)

pub round_away-requires-clause-fact_2 : goal.round_away-requires-clause-fact_2
round_away-requires-clause-fact_2 c = search (rules, size_exits)

pub returns : goal.returns
returns c =
    size_answered
    c.args.raw
    c.args.f
    (search rules)
    (search rules)
    c.fraction_number.ensures
    c.round_away.ensures
    (omega arith)
