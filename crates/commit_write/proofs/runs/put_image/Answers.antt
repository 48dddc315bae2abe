-- `commit_write::runs::put_image` meets its contract.
-- Assumes nothing.
use Rattle.commit_write.proofs.ImageExits.{image_exits, putting_writable}
use borrow.Author.Rules.{rules}
use Rattle.commit_write.proofs.runs.put_image.Goals as goal

pub put_number-requires : goal.put_number-requires
put_number-requires c = search (rules, image_exits)

pub loop-k-init : goal.loop-k-init
loop-k-init c = search (rules, image_exits)

pub put_run-to-requires : goal.put_run-to-requires
put_run-to-requires c = putting_writable c.loop-k.invariant (search rules) c.run_row-r.ensures

pub overflow_add-row : goal.overflow_add-row
overflow_add-row c = search (rules, image_exits)

pub loop-k-preserved : goal.loop-k-preserved
loop-k-preserved c = search (rules, image_exits)

pub returns : goal.returns
returns c = search (rules, image_exits)
