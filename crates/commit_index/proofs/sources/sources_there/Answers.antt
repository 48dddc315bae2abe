-- `commit_index::sources::sources_there` meets its contract.
-- Assumes nothing.
use Rattle.commit_index.proofs.SourceExits.{source_exits}
use borrow.Author.Rules.{rules}
use Rattle.commit_index.proofs.sources.sources_there.Goals as goal

pub returns-then-not-has_run : goal.returns-then-not-has_run
returns-then-not-has_run c = search (rules, source_exits)

pub loop-i-preserved : goal.loop-i-preserved
loop-i-preserved c = search (rules, source_exits)

pub returns : goal.returns
returns c = search (rules, source_exits)
