-- `commit::write::finish` meets its contract.
-- Assumes nothing.
use Rattle.commit.proofs.WriteExits.{finish_many, finish_many_kept, finish_long, finish_long_kept, finish_exits}
use borrow.Author.Rules.{rules}
use Rattle.std.proofs.lemmas.Bool.{not-true, not-false}
use Rattle.commit.proofs.write.finish.Goals.{then-not-a-2-via-then-not-a-2, then-not-a-2-via-else-not-a-2+then-a-gt65536}
use Rattle.commit.proofs.write.finish.Goals as goal

pub returns-then-not-a-clause-value : goal.returns-then-not-a-clause-value
returns-then-not-a-clause-value c = search (rules, finish_exits)

pub returns-then-not-a-clause-out_after : goal.returns-then-not-a-clause-out_after
returns-then-not-a-clause-out_after c = search (rules, finish_exits)

pub returns-then-not-a-2-clause-value : goal.returns-then-not-a-2-clause-value
returns-then-not-a-2-clause-value c =
    let e = not-false c.args.a.plan.enough c.if-not-a.false in
    elim c.then-not-a-2.branch [
      | then-not-a-2-via-then-not-a-2 w ↦ finish_many c.requires c.args.out.now e (not-true c.args.a.fits w.if-not-a-2.true)
      | then-not-a-2-via-else-not-a-2+then-a-gt65536 w ↦ finish_long c.requires c.args.out.now e (not-false c.args.a.fits w.if-not-a-2.false) w.if-a-gt65536.true
    ]

pub returns-then-not-a-2-clause-out_after : goal.returns-then-not-a-2-clause-out_after
returns-then-not-a-2-clause-out_after c =
    let e = not-false c.args.a.plan.enough c.if-not-a.false in
    elim c.then-not-a-2.branch [
      | then-not-a-2-via-then-not-a-2 w ↦ finish_many_kept c.requires c.args.out.now e (not-true c.args.a.fits w.if-not-a-2.true)
      | then-not-a-2-via-else-not-a-2+then-a-gt65536 w ↦ finish_long_kept c.requires c.args.out.now e (not-false c.args.a.fits w.if-not-a-2.false) w.if-a-gt65536.true
    ]
