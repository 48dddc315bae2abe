-- `commit_durable::sources::is_source` meets its contract.
-- Assumes nothing.
use Rattle.commit_durable.proofs.SourceExits.{source_exits}
use borrow.Author.Rules.{rules}
use Rattle.commit_durable.proofs.sources.is_source.Goals as goal

pub returns-then-number_there-id : goal.returns-then-number_there-id
returns-then-number_there-id c = search (rules, source_exits)

pub loop-i-preserved : goal.loop-i-preserved
loop-i-preserved c = search (rules, source_exits)

pub returns : goal.returns
returns c = search (rules, source_exits)
