-- `commit_write::views::put_cut_output` meets its contract.
-- Assumes nothing.
use Rattle.commit_write.proofs.ViewExits.{cut_output_exits}
use borrow.Author.Rules.{rules}
use Rattle.commit_write.proofs.views.put_cut_output.Goals as goal

pub put_new_id-table-requires-clause-fact_2 : goal.put_new_id-table-requires-clause-fact_2
put_new_id-table-requires-clause-fact_2 c = search (rules, cut_output_exits)

pub put_part-flag-requires : goal.put_part-flag-requires
put_part-flag-requires c =
    let i = c.published_id-old.ensures in
    (search (rules, cut_output_exits), (search (rules, cut_output_exits), search (rules, cut_output_exits, i)))

pub put_visible-requires-clause-r_in_bounds : goal.put_visible-requires-clause-r_in_bounds
put_visible-requires-clause-r_in_bounds c = search (rules, cut_output_exits)

pub returns : goal.returns
returns c =
    let i = c.published_id-old.ensures in
    search (rules, cut_output_exits, i)
