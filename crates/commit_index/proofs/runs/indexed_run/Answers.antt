-- `commit_index::runs::indexed_run` meets its contract.
-- Assumes nothing.
use Rattle.commit_index.proofs.RunExits.{run_found}
use borrow.Author.Rules.{rules}
use Rattle.commit_index.proofs.runs.indexed_run.Goals as goal

pub returns : goal.returns
returns c = search (rules, run_found)
