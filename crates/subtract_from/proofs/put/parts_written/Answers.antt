-- `subtract_from::put::parts_written` meets its contract.
-- Assumes nothing.
use Rattle.base.proofs.Outcome.{written_exits}
use Rattle.subtract_from.proofs.PutExits.{parts_size, has_room}
use borrow.Author.Rules.{rules}
use Rattle.subtract_from.proofs.put.parts_written.Goals as goal

pub returns-then-out-size-clause-value : goal.returns-then-out-size-clause-value
returns-then-out-size-clause-value c = search (rules, parts_size, has_room, written_exits)

pub returns-then-out-size-clause-out_after : goal.returns-then-out-size-clause-out_after
returns-then-out-size-clause-out_after c = search (rules, parts_size, has_room, written_exits)

pub put_parts-requires-clause-from_in_bounds : goal.put_parts-requires-clause-from_in_bounds
put_parts-requires-clause-from_in_bounds c = search (rules, parts_size, has_room, written_exits)

pub returns-clause-value : goal.returns-clause-value
returns-clause-value c = search (rules, parts_size, has_room, written_exits)
