-- `commit_covered::outputs::keep_outputs` meets its contract.
-- Assumes nothing.
use Rattle.commit_covered.proofs.OutputExits.{PartsKept}
use Rattle.commit_covered.proofs.outputs.keep_outputs.Given as goal

abbrev pub invariant-loop-i : goal.invariant-loop-i
invariant-loop-i l = PartsKept l.job l.parts l.n l.initial.chain l.initial.slots l.chain l.slots l.k l.i
