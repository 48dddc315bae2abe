-- `sampled::group_there` meets its contract.
-- Assumes nothing.
use Rattle.sampled.proofs.GroupExits.{group_exits}
use borrow.Author.Rules.{rules}
use Rattle.sampled.proofs.group_there.Goals as goal

pub block_there-first-requires : goal.block_there-first-requires
block_there-first-requires c = search (rules, group_exits)

pub blocks_past-past-requires-clause-fact_2 : goal.blocks_past-past-requires-clause-fact_2
blocks_past-past-requires-clause-fact_2 c = search (rules, group_exits)

pub beginning-end-requires-clause-fact_2 : goal.beginning-end-requires-clause-fact_2
beginning-end-requires-clause-fact_2 c = search (rules, group_exits)
