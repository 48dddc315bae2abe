-- `sorted_run::views::intersects_at` meets its contract.
-- Assumes nothing.
use Rattle.std.proofs.Common.{rules}
use Rattle.sorted_run.proofs.ViewExits.{at_exits, next_met, last_met}
use Rattle.sorted_run.proofs.views.intersects_at.Goals.{then-idx-r, else-idx-r}
use Rattle.sorted_run.proofs.views.intersects_at.Goals as goal

pub effective_there-own-requires : goal.effective_there-own-requires
effective_there-own-requires c = search (rules, at_exits)

pub end_there-end-requires-clause-fact_2 : goal.end_there-end-requires-clause-fact_2
end_there-end-requires-clause-fact_2 c = search (rules, at_exits)

pub returns : goal.returns
returns c =
    let i = c.requires.fact_1 in
    let p = c.requires.fact_2 in
    let x = c.effective_there-own.ensures in
    elim c.if-idx-r.branch [
      | then-idx-r w ↦ next_met i p c.requires.fact_3 x w.if-idx-r.true w.end_there-end.ensures (rw w.end-is at c.intersects.ensures)
      | else-idx-r w ↦ last_met i p c.requires.fact_3 x w.if-idx-r.false (rw w.end-is at c.intersects.ensures)
    ]
