-- `view_sizes::visible_fraction` meets its contract.
-- Assumes nothing.
use Rattle.std.proofs.Common.{rules}
use Rattle.view_sizes.proofs.SizeExits.{call_exits}
use Rattle.view_sizes.proofs.visible_fraction.Goals as goal

pub returns-in-Stop : goal.returns-in-Stop
returns-in-Stop c = search (rules, call_exits)

pub returns-in-At : goal.returns-in-At
returns-in-At c = search (rules, call_exits)
