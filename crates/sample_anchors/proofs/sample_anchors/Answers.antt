-- `sample_anchors::sample_anchors` meets its contract.
-- Assumes nothing.
use borrow.Author.Rules.{rules}
use Rattle.sample_anchors.proofs.CallExits.{call_exits}
use Rattle.sample_anchors.proofs.sample_anchors.Goals as goal

pub returns-else-fault-lt8-clause-out_after : goal.returns-else-fault-lt8-clause-out_after
returns-else-fault-lt8-clause-out_after c = search (rules, call_exits)
