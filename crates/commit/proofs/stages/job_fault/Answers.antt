-- `commit::stages::job_fault` meets its contract.
-- Assumes nothing.
use Rattle.commit.proofs.FaultExits.{fault_exits}
use borrow.Author.Rules.{rules}
use Rattle.commit.proofs.stages.job_fault.Goals as goal

pub returns-then-not-is_source : goal.returns-then-not-is_source
returns-then-not-is_source c = search (rules, fault_exits)

pub returns-then-not-sources_there : goal.returns-then-not-sources_there
returns-then-not-sources_there c = search (rules, fault_exits)

pub returns : goal.returns
returns c = search (rules, fault_exits)
