-- `commit_durable::parts::part_read` meets its contract.
-- Assumes nothing.
use Rattle.commit_durable.proofs.PartExits.{part_exits}
use borrow.Author.Rules.{rules}
use Rattle.commit_durable.proofs.parts.part_read.Goals as goal

pub returns-in-Stop : goal.returns-in-Stop
returns-in-Stop c = search (rules, part_exits)

pub returns-in-Stop-outputs_read : goal.returns-in-Stop-outputs_read
returns-in-Stop-outputs_read c = search (rules, part_exits)

pub returns-in-At-outputs_read : goal.returns-in-At-outputs_read
returns-in-At-outputs_read c = search (rules, part_exits)
