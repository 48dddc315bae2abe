-- `commit_index::runs::id_among` meets its contract.
-- Assumes nothing.
use Rattle.commit_index.proofs.ImageExits.{among_exits}
use borrow.Author.Rules.{rules}
use Rattle.commit_index.proofs.runs.id_among.Goals as goal

pub loop-i-init : goal.loop-i-init
loop-i-init c = search (rules, among_exits)

pub returns-then-index-i : goal.returns-then-index-i
returns-then-index-i c = search (rules, among_exits)

pub loop-i-preserved : goal.loop-i-preserved
loop-i-preserved c = search (rules, among_exits)

pub returns : goal.returns
returns c = search (rules, among_exits)
