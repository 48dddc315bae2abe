-- `subtract_from::subtract_from` meets its contract.
-- Assumes nothing.
use Rattle.subtract_from.proofs.CallExits.{call_exits}
use borrow.Author.Rules.{rules}
use Rattle.subtract_from.proofs.subtract_from.Goals as goal

pub subtracted-requires-clause-bound_inside_3 : goal.subtracted-requires-clause-bound_inside_3
subtracted-requires-clause-bound_inside_3 c = search (rules, call_exits)

pub subtracted-requires-clause-bound_inside_2_3 : goal.subtracted-requires-clause-bound_inside_2_3
subtracted-requires-clause-bound_inside_2_3 c = search (rules, call_exits)

pub returns-in-Stop-clause-value : goal.returns-in-Stop-clause-value
returns-in-Stop-clause-value c = search (rules, call_exits)

pub returns-in-Stop-clause-out_after : goal.returns-in-Stop-clause-out_after
returns-in-Stop-clause-out_after c = search (rules, call_exits)

pub returns-in-Stop-range_whole-clause-value : goal.returns-in-Stop-range_whole-clause-value
returns-in-Stop-range_whole-clause-value c = search (rules, call_exits)

pub returns-in-Stop-range_whole-clause-out_after : goal.returns-in-Stop-range_whole-clause-out_after
returns-in-Stop-range_whole-clause-out_after c = search (rules, call_exits)

pub returns-in-At-range_whole-clause-value : goal.returns-in-At-range_whole-clause-value
returns-in-At-range_whole-clause-value c = search (rules, call_exits)

pub returns-in-At-range_whole-clause-out_after : goal.returns-in-At-range_whole-clause-out_after
returns-in-At-range_whole-clause-out_after c = search (rules, call_exits)
