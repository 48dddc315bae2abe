-- `commit_index::runs::has_run` meets its contract.
-- Assumes nothing.
use Rattle.commit_index.proofs.RunExits.{run_there}
use borrow.Author.Rules.{rules}
use Rattle.commit_index.proofs.runs.has_run.Goals as goal

pub returns : goal.returns
returns c = search (rules, run_there)
