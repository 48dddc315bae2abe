-- `commit::write::write_image` meets its contract.
-- Assumes nothing.
use Rattle.commit.proofs.WriteExits.{write_exits}
use borrow.Author.Rules.{rules}
use Rattle.commit.proofs.write.write_image.Goals as goal

pub returns-then-out-bytes-clause-value : goal.returns-then-out-bytes-clause-value
returns-then-out-bytes-clause-value c = search (rules, write_exits)

pub returns-then-out-bytes-clause-out_after : goal.returns-then-out-bytes-clause-out_after
returns-then-out-bytes-clause-out_after c = search (rules, write_exits)

pub put_image-requires : goal.put_image-requires
put_image-requires c = search (rules, write_exits)

pub returns-clause-value : goal.returns-clause-value
returns-clause-value c = search (rules, write_exits)

pub returns-clause-out_after : goal.returns-clause-out_after
returns-clause-out_after c = search (rules, write_exits)
