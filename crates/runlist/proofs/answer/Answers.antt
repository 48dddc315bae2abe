-- `runlist::answer` meets its contract.
-- Assumes nothing.
use Rattle.base.specs.Bytes.{Bytes}
use Rattle.runlist.proofs.Exits.{listed, refused}
use borrow.Author.Rules.{rules}
use Rattle.runlist.proofs.answer.Goals as goal

pub returns-in-Stop : goal.returns-in-Stop
returns-in-Stop c =
    let b : Bytes c.args.input.now = record { below = λ k. (c.type_inv.input k).fits } in
    let x = refused _ _ b c.requires c.list.ensures.value c.list.ensures.out_after (search rules) c.put_stop.ensures.value c.put_stop.ensures.out_after in
    record { value = x.0; out_after = x.1.0; prefix_len = x.1.1 }

pub returns-in-Wrote : goal.returns-in-Wrote
returns-in-Wrote c =
    let b : Bytes c.args.input.now = record { below = λ k. (c.type_inv.input k).fits } in
    let x = listed _ _ b c.requires c.list.ensures.value c.list.ensures.out_after (search rules) in
    record { value = x.0; out_after = x.1.0; prefix_len = x.1.1 }
