-- `commit_write::runs::put_run` meets its contract.
-- Assumes nothing.
use Rattle.std.proofs.Common.{◌≡◌, take, ◌+◌, ◌-◌, refl, ap, ◌∙◌}
use Rattle.std.specs.Iterator.Adapters.{copied_source}
use Rattle.std.specs.Slice.Iter.{iter_rest}
use Rattle.std.proofs.lemmas.Iterator.{YieldsList-from_slice}
use Rattle.std.proofs.lemmas.Iterator.Consumers.{YieldsList-from_copied}
use Rattle.commit_write.specs.Rows.{count_from}
use Rattle.commit_write.proofs.RunExits.{given_range, run_exits, source_there, source_room, source_put, ordered_there, ordered_room, destination_put}
use Rattle.commit_write.proofs.Writing.{rows_fit}
use borrow.Author.Rules.{rules}
use Rattle.commit_write.proofs.runs.put_run.Goals as goal

pub put_part-requires : goal.put_part-requires
put_part-requires c = search (rules, run_exits)

pub put_head-to-requires-clause-fact_2 : goal.put_head-to-requires-clause-fact_2
put_head-to-requires-clause-fact_2 c = search (rules, run_exits)

pub overflow_add-at : goal.overflow_add-at
overflow_add-at c = rows_fit c.args.image.now c.args.job.now c.args.ids.now c.args.rows.now c.args.at.row c.args.r.rows c.requires.there (search rules) (search rules)

pub put_rows-requires-clause-given : goal.put_rows-requires-clause-given
put_rows-requires-clause-given c =
    (count_from c.args.at.row (c.args.at.row + c.args.r.rows - c.args.at.row), given_range c.args.at.row c.args.r.rows, source_there c.requires c.in-Source.is, source_room c.requires c.in-Source.is c.put_head-to.ensures)

pub put_head-to-requires-in-Destination-clause-fact_2 : goal.put_head-to-requires-in-Destination-clause-fact_2
put_head-to-requires-in-Destination-clause-fact_2 c = search (rules, run_exits)

pub place_rows-requires-clause-fact_1 : goal.place_rows-requires-clause-fact_1
place_rows-requires-clause-fact_1 c = search (rules, run_exits)

pub put_rows-requires-in-Destination-clause-given : goal.put_rows-requires-in-Destination-clause-given
put_rows-requires-in-Destination-clause-given c =
    let y : iter_rest (copied_source c.copied.result) ≡ take (c.args.at.outputs + c.args.r.rows) c.place_rows.new.order = ap iter_rest c.copied.ensures.source ∙ c.iter.ensures.rest in
    (iter_rest (copied_source c.copied.result), YieldsList-from_copied (YieldsList-from_slice (iter_rest (copied_source c.copied.result)) refl), ordered_there c.requires c.in-Destination.is c.place_rows.ensures y, ordered_room c.requires c.in-Destination.is c.place_rows.ensures y c.put_head-to-in-Destination.ensures)

pub returns-in-Other-clause-put : goal.returns-in-Other-clause-put
returns-in-Other-clause-put c = search (rules, run_exits)

pub returns-in-Source-clause-put : goal.returns-in-Source-clause-put
returns-in-Source-clause-put c = source_put c.requires c.in-Source.is c.put_head-to.ensures (c.put_rows.ensures _ (given_range c.args.at.row c.args.r.rows))

pub returns-in-Destination-clause-put : goal.returns-in-Destination-clause-put
returns-in-Destination-clause-put c =
    let y : iter_rest (copied_source c.copied.result) ≡ take (c.args.at.outputs + c.args.r.rows) c.place_rows.new.order = ap iter_rest c.copied.ensures.source ∙ c.iter.ensures.rest in
    destination_put c.requires c.in-Destination.is c.place_rows.ensures y c.put_head-to-in-Destination.ensures (c.put_rows-in-Destination.ensures _ (YieldsList-from_copied (YieldsList-from_slice (iter_rest (copied_source c.copied.result)) refl)))
