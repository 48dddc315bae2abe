-- `sampled::sample` meets its contract.
-- Assumes nothing.
use Rattle.sampled.proofs.SampleExits.{sampled_most, sampled_held, sampled_total}
use borrow.Author.Rules.{rules}
use Rattle.sampled.proofs.sample.Goals as goal

pub with_group-found-requires-clause-bytes_len_2 : goal.with_group-found-requires-clause-bytes_len_2
with_group-found-requires-clause-bytes_len_2 c = search (rules, sampled_most)

pub returns-clause-held_then : goal.returns-clause-held_then
returns-clause-held_then c = search (rules, sampled_held)

pub returns-clause-total_value : goal.returns-clause-total_value
returns-clause-total_value c = search (rules, sampled_total)
