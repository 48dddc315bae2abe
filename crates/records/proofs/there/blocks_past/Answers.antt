-- `records::blocks_past` meets its contract.
-- Assumes nothing.
use Rattle.records.proofs.Pasts.{block_walk}
use borrow.Author.Rules.{rules}
use Rattle.records.proofs.there.blocks_past.Goals as goal

pub key_there-first-requires : goal.key_there-first-requires
key_there-first-requires c = search (rules, block_walk)

pub returns : goal.returns
returns c = search (rules, block_walk)
