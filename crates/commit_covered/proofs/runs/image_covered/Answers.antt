-- `commit_covered::runs::image_covered` meets its contract.
-- Assumes nothing.
use Rattle.commit_covered.proofs.RunExits.{runs_onward, runs_other, runs_exits}
use borrow.Author.Rules.{rules}
use Rattle.commit_covered.proofs.runs.image_covered.Goals.{else-run-head-via-then-run-head+else-not-views_covered, else-run-head-via-else-run-head}
use Rattle.commit_covered.proofs.runs.image_covered.Goals as goal

pub views_covered-requires-clause-views_here_1 : goal.views_covered-requires-clause-views_here_1
views_covered-requires-clause-views_here_1 c = search (rules, runs_exits)

pub returns-then-not-views_covered-clause-value : goal.returns-then-not-views_covered-clause-value
returns-then-not-views_covered-clause-value c = search (rules, runs_exits)

pub loop-k-preserved : goal.loop-k-preserved
loop-k-preserved c =
    elim c.else-run-head.branch [
      | else-run-head-via-then-run-head+else-not-views_covered w ↦ runs_onward c.loop-k.invariant c.loop-k-test.true c.indexed_run-run.ensures w.if-run-head.true w.views_covered.ensures w.if-not-views_covered.false
      | else-run-head-via-else-run-head w ↦ runs_other c.loop-k.invariant c.loop-k-test.true c.indexed_run-run.ensures w.if-run-head.false
    ]

pub returns-clause-value : goal.returns-clause-value
returns-clause-value c = search (rules, runs_exits)
