-- `view_sizes::estimate_visible_size` meets its contract.
-- Assumes nothing.
use Rattle.std.proofs.Common.{rules}
use Rattle.view_sizes.proofs.SizeExits.{call_exits}
use Rattle.view_sizes.proofs.estimate_visible_size.Goals as goal

pub view_size-requires-clause-fact_2 : goal.view_size-requires-clause-fact_2
view_size-requires-clause-fact_2 c = search (rules, call_exits)

pub returns-in-Stop : goal.returns-in-Stop
returns-in-Stop c = search (rules, call_exits)

pub returns-in-At : goal.returns-in-At
returns-in-At c = search (rules, call_exits)
