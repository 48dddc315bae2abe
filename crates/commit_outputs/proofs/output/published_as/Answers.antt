-- `commit_outputs::output::published_as` meets its contract.
-- Assumes nothing.
use Rattle.commit_outputs.proofs.OutputExits.{as_exits}
use borrow.Author.Rules.{rules}
use Rattle.commit_outputs.proofs.output.published_as.Goals as goal

pub returns-then-h : goal.returns-then-h
returns-then-h c = search (rules, as_exits)

pub returns-then-some_inside : goal.returns-then-some_inside
returns-then-some_inside c = search (rules, as_exits)

pub returns : goal.returns
returns c = search (rules, as_exits)
