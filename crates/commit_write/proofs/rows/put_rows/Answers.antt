-- `commit_write::rows::put_rows` meets its contract.
-- Assumes nothing.
use Rattle.std.proofs.Common.{sym, ◌∙◌, arith, rules}
use Rattle.std.proofs.lemmas.Grind.{get_or_default_zero}
use Rattle.std.proofs.lemmas.Iterator.Consumers.{YieldsList-turn, YieldsList-end, YieldsList-at}
use Rattle.std.proofs.lemmas.List.{length_push}
use Rattle.commit_write.proofs.Writing.{writing_begin, writing_all, writing_row, writing_inside, writing_room, writing_more}
use Rattle.commit_write.proofs.rows.put_rows.Goals as goal

pub loop-k-init : goal.loop-k-init
loop-k-init g c = (search rules, search rules, λ ks y a h. writing_begin a h)

pub row_at-row-requires : goal.row_at-row-requires
row_at-row-requires g c =
    let w = c.requires.given in
    let y = YieldsList-at c.into_iter-k-iterator.ensures.into_iter_gives w.1 in
    let t = YieldsList-turn y c.loop-k.yielded _ c.loop-k.yielded_by _ _ c.in-Some.k c.in-Some.is c.next.ensures.steps in
    writing_row (c.loop-k.invariant.2 w.0 y w.2 w.3) t.0 (t.1 ∙ get_or_default_zero _ _ _ t.0)

pub put_view-past-requires-clause-fact_1 : goal.put_view-past-requires-clause-fact_1
put_view-past-requires-clause-fact_1 g c =
    let w = c.requires.given in
    let y = YieldsList-at c.into_iter-k-iterator.ensures.into_iter_gives w.1 in
    let t = YieldsList-turn y c.loop-k.yielded _ c.loop-k.yielded_by _ _ c.in-Some.k c.in-Some.is c.next.ensures.steps in
    writing_inside (c.loop-k.invariant.2 w.0 y w.2 w.3) t.0 (t.1 ∙ get_or_default_zero _ _ _ t.0) c.row_at-row.ensures

pub put_view-past-requires-clause-fact_2 : goal.put_view-past-requires-clause-fact_2
put_view-past-requires-clause-fact_2 g c =
    let w = c.requires.given in
    let y = YieldsList-at c.into_iter-k-iterator.ensures.into_iter_gives w.1 in
    let t = YieldsList-turn y c.loop-k.yielded _ c.loop-k.yielded_by _ _ c.in-Some.k c.in-Some.is c.next.ensures.steps in
    writing_room (c.loop-k.invariant.2 w.0 y w.2 w.3) t.0 (t.1 ∙ get_or_default_zero _ _ _ t.0) c.row_at-row.ensures

pub loop-k-preserved : goal.loop-k-preserved
loop-k-preserved g c = (
  search rules,
  search rules,
  λ ks y a h.
      let t = YieldsList-turn y c.loop-k.yielded _ c.loop-k.yielded_by _ _ c.in-Some.k c.in-Some.is c.next.ensures.steps in
      rw length_push (writing_more (c.loop-k.invariant.2 ks y a h) t.0 (t.1 ∙ get_or_default_zero _ _ _ t.0) c.row_at-row.ensures c.put_view-past.ensures),
)

pub returns : goal.returns
returns g c ks z =
    let w = c.requires.given in
    let y = YieldsList-at c.into_iter-k-iterator.ensures.into_iter_gives w.1 in
    let t = YieldsList-end y c.loop-k.yielded _ c.loop-k.yielded_by _ _ c.in-None.is c.next.ensures.steps in
    let u = YieldsList-end (YieldsList-at c.into_iter-k-iterator.ensures.into_iter_gives z) c.loop-k.yielded _ c.loop-k.yielded_by _ _ c.in-None.is c.next.ensures.steps in
    rw (sym u.0 ∙ t.0) (writing_all (c.loop-k.invariant.2 w.0 y w.2 w.3) (omega (arith, t.1)))
