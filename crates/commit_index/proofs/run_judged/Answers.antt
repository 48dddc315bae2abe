-- `commit_index::run_judged` meets its contract.
-- Assumes nothing.
use Rattle.commit_index.proofs.ImageExits.{run_exits}
use borrow.Author.Rules.{rules}
use Rattle.commit_index.proofs.run_judged.Goals as goal

pub returns-in-Stop : goal.returns-in-Stop
returns-in-Stop c = search (rules, run_exits)

pub returns-in-Stop-views_judged : goal.returns-in-Stop-views_judged
returns-in-Stop-views_judged c = search (rules, run_exits)

pub returns-in-At-views_judged : goal.returns-in-At-views_judged
returns-in-At-views_judged c = search (rules, run_exits)
