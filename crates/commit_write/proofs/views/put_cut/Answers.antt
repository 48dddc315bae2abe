-- `commit_write::views::put_cut` meets its contract.
-- Assumes nothing.
use Rattle.commit_write.proofs.ViewExits.{cut_put, cut_exits}
use borrow.Author.Rules.{rules}
use Rattle.commit_write.proofs.views.put_cut.Goals as goal

pub put_new_id-table-requires-clause-fact_2 : goal.put_new_id-table-requires-clause-fact_2
put_new_id-table-requires-clause-fact_2 c = search (rules, cut_exits)

pub put_part-flag-requires : goal.put_part-flag-requires
put_part-flag-requires c = search (rules, cut_exits)

pub put_visible-requires-clause-r_in_bounds : goal.put_visible-requires-clause-r_in_bounds
put_visible-requires-clause-r_in_bounds c = search (rules, cut_exits)

pub returns : goal.returns
returns c =
    let i = c.view_id_at-old.ensures in
    cut_put c.args.image.now c.args.job.now c.args.ids.now c.args.r c.requires.fact_1 c.requires.fact_2 i c.args.out.now c.args.to c.requires.fact_3 c.put_new_id-table.ensures c.put_part-flag.ensures c.put_visible.ensures
