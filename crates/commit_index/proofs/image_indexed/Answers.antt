-- `commit_index::image_indexed` meets its contract.
-- Assumes nothing.
use Rattle.commit_index.proofs.RunExits.{image_indexed_exits}
use borrow.Author.Rules.{rules}
use Rattle.commit_index.proofs.image_indexed.Goals as goal

pub runs_indexed-requires-clause-fact_2 : goal.runs_indexed-requires-clause-fact_2
runs_indexed-requires-clause-fact_2 c = search (rules, image_indexed_exits)

pub returns-then-not-at_end : goal.returns-then-not-at_end
returns-then-not-at_end c = search (rules, image_indexed_exits)

pub returns-in-Stop : goal.returns-in-Stop
returns-in-Stop c = search (rules, image_indexed_exits)

pub returns-in-Stop-runs_indexed : goal.returns-in-Stop-runs_indexed
returns-in-Stop-runs_indexed c = search (rules, image_indexed_exits)

pub returns-else-not-at_end : goal.returns-else-not-at_end
returns-else-not-at_end c = search (rules, image_indexed_exits)
