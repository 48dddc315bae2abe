-- `from_compaction::from_compaction` meets its contract.
-- Assumes nothing.
use Rattle.from_compaction.proofs.CallExits.{call_exits}
use borrow.Author.Rules.{rules}
use Rattle.from_compaction.proofs.from_compaction.Goals as goal

pub returns-then-job-gt65536-clause-value : goal.returns-then-job-gt65536-clause-value
returns-then-job-gt65536-clause-value c = search (rules, call_exits)

pub returns-then-job-gt65536-clause-out_after : goal.returns-then-job-gt65536-clause-out_after
returns-then-job-gt65536-clause-out_after c = search (rules, call_exits)

pub returns-then-head-lt8-clause-value : goal.returns-then-head-lt8-clause-value
returns-then-head-lt8-clause-value c = search (rules, call_exits)

pub returns-then-head-lt8-clause-out_after : goal.returns-then-head-lt8-clause-out_after
returns-then-head-lt8-clause-out_after c = search (rules, call_exits)

pub returns-then-not-is_source-clause-value : goal.returns-then-not-is_source-clause-value
returns-then-not-is_source-clause-value c = search (rules, call_exits)

pub returns-then-not-is_source-clause-out_after : goal.returns-then-not-is_source-clause-out_after
returns-then-not-is_source-clause-out_after c = search (rules, call_exits)

pub returns-then-head-lt12-clause-value : goal.returns-then-head-lt12-clause-value
returns-then-head-lt12-clause-value c = search (rules, call_exits)

pub returns-then-head-lt12-clause-out_after : goal.returns-then-head-lt12-clause-out_after
returns-then-head-lt12-clause-out_after c = search (rules, call_exits)

pub returns-in-Stop-clause-value : goal.returns-in-Stop-clause-value
returns-in-Stop-clause-value c = search (rules, call_exits)

pub returns-in-Stop-clause-out_after : goal.returns-in-Stop-clause-out_after
returns-in-Stop-clause-out_after c = search (rules, call_exits)

pub returns-else-head-lt12-clause-value : goal.returns-else-head-lt12-clause-value
returns-else-head-lt12-clause-value c = search (rules, call_exits)

pub returns-else-head-lt12-clause-out_after : goal.returns-else-head-lt12-clause-out_after
returns-else-head-lt12-clause-out_after c = search (rules, call_exits)
