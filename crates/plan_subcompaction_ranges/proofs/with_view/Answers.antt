-- `plan_subcompaction_ranges::with_view` meets its contract.
-- Assumes nothing.
use borrow.Author.Rules.{rules}
use Rattle.plan_subcompaction_ranges.proofs.WithViewExits.{view_exits}
use Rattle.plan_subcompaction_ranges.proofs.with_view.Goals as goal

pub sample-kept-requires-clause-bytes_len_3 : goal.sample-kept-requires-clause-bytes_len_3
sample-kept-requires-clause-bytes_len_3 c = search (rules, view_exits)

pub returns : goal.returns
returns c = search (rules, view_exits)
