-- `key::cmp` meets its contract, by what its loop over eight bytes a turn keeps.
-- Assumes nothing.
use Prim.Native.Nat.{◌-◌}
use native.Mathlib.Omega.{arith}
use Rattle.key.specs.Word.{Agree}
use Rattle.key.proofs.Words.{back, turn_same, last_differ, last_same, kept}
use borrow.Author.Rules.{rules}
use Rattle.key.proofs.cmp.Goals.{else-loop-i-test, then-loop-i-test+else-x-y+else-i-end-i-gt8}
use Rattle.key.proofs.cmp.Goals as goal

pub loop-i-preserved : goal.loop-i-preserved
loop-i-preserved c = search (rules, kept)

pub returns-then-x-y-2 : goal.returns-then-x-y-2
returns-then-x-y-2 c =
    let p : Agree c.args.a.now c.args.b.now (c.shorter-n.result - 8) =
    elim c.loop-i-test.branch [
      | else-loop-i-test w ↦ back c.loop-i.invariant (omega arith)
      | then-loop-i-test+else-x-y+else-i-end-i-gt8 w ↦ back (turn_same c.loop-i.invariant c.shorter-n.ensures w.loop-i-test.true w.word-x.ensures w.word-y.ensures w.if-x-y.false) (omega arith)
    ]
    in
    last_same p c.shorter-n.ensures (omega arith) c.word-x-2.ensures c.word-y-2.ensures c.if-x-y-2.true c.cmp_number-then-x-y-2.ensures

pub returns-else-x-y-2 : goal.returns-else-x-y-2
returns-else-x-y-2 c =
    let p : Agree c.args.a.now c.args.b.now (c.shorter-n.result - 8) =
    elim c.loop-i-test.branch [
      | else-loop-i-test w ↦ back c.loop-i.invariant (omega arith)
      | then-loop-i-test+else-x-y+else-i-end-i-gt8 w ↦ back (turn_same c.loop-i.invariant c.shorter-n.ensures w.loop-i-test.true w.word-x.ensures w.word-y.ensures w.if-x-y.false) (omega arith)
    ]
    in
    last_differ p c.shorter-n.ensures (omega arith) c.word-x-2.ensures c.word-y-2.ensures c.if-x-y-2.false c.cmp_number-else-x-y-2.ensures
