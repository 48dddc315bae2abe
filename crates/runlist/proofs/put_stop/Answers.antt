-- `runlist::put_stop` meets its contract.
-- Assumes nothing.
use Rattle.runlist.proofs.Exits.{stop_exits}
use borrow.Author.Rules.{rules}
use Rattle.runlist.proofs.put_stop.Goals as goal

pub put_decimal-end-requires : goal.put_decimal-end-requires
put_decimal-end-requires c = search (rules, stop_exits)

pub put_byte-requires : goal.put_byte-requires
put_byte-requires c = search (rules, stop_exits)

pub overflow_add-result : goal.overflow_add-result
overflow_add-result c = search (rules, stop_exits)

pub returns : goal.returns
returns c = search (rules, stop_exits)
