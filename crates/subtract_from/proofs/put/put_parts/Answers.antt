-- `subtract_from::put::put_parts` meets its contract.
-- Assumes nothing.
use Rattle.subtract_from.proofs.PutExits.{parts_exits}
use borrow.Author.Rules.{rules}
use Rattle.subtract_from.proofs.put.put_parts.Goals as goal

pub put_number-requires : goal.put_number-requires
put_number-requires c = search (rules, parts_exits)

pub put_part-to-requires-clause-fact_2 : goal.put_part-to-requires-clause-fact_2
put_part-to-requires-clause-fact_2 c = search (rules, parts_exits)

pub put_part-requires-clause-fact_2 : goal.put_part-requires-clause-fact_2
put_part-requires-clause-fact_2 c = search (rules, parts_exits)

pub returns : goal.returns
returns c = search (rules, parts_exits)
