-- `from_compaction::ranges::write_ranges` meets its contract.
-- Assumes nothing.
use Rattle.base.proofs.Outcome.{written_exits}
use Rattle.from_compaction.proofs.RangeExits.{write_exits}
use borrow.Author.Rules.{rules}
use Rattle.from_compaction.proofs.ranges.write_ranges.Goals as goal

pub returns-then-out-bytes-clause-value : goal.returns-then-out-bytes-clause-value
returns-then-out-bytes-clause-value c = search (rules, write_exits, written_exits)

pub returns-then-out-bytes-clause-out_after : goal.returns-then-out-bytes-clause-out_after
returns-then-out-bytes-clause-out_after c = search (rules, write_exits, written_exits)

pub returns-clause-value : goal.returns-clause-value
returns-clause-value c = search (rules, write_exits, written_exits)

pub returns-clause-out_after : goal.returns-clause-out_after
returns-clause-out_after c = search (rules, write_exits, written_exits)
