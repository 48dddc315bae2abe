-- `commit_covered::covered::views_covered` meets its contract.
-- Assumes nothing.
use Rattle.commit_covered.proofs.ViewExits.{ViewsSeen}
use Rattle.commit_covered.proofs.covered.views_covered.Given as goal

abbrev pub invariant-loop : goal.invariant-loop
invariant-loop l = ViewsSeen l.image l.first l.n l.job l.m l.g l.counter l.at
