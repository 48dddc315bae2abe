-- `commit_write::views::put_output` meets its contract.
-- Assumes nothing.
use Rattle.commit_write.proofs.ViewExits.{output_exits}
use borrow.Author.Rules.{rules}
use Rattle.commit_write.proofs.views.put_output.Goals as goal

pub put_id-table-requires : goal.put_id-table-requires
put_id-table-requires c =
    let i = c.published_id-id.ensures in
    search (rules, output_exits, i)

pub put_part-flag-requires : goal.put_part-flag-requires
put_part-flag-requires c =
    let i = c.published_id-id.ensures in
    (search (rules, output_exits), (search (rules, output_exits), search (rules, output_exits, i)))

pub put_byte-requires : goal.put_byte-requires
put_byte-requires c =
    let i = c.published_id-id.ensures in
    search (rules, output_exits, i)

pub returns : goal.returns
returns c =
    let i = c.published_id-id.ensures in
    search (rules, output_exits, i)
