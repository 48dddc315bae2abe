-- `commit_index::id_among` meets its contract.
-- Assumes nothing.
use Rattle.commit_index.proofs.ImageExits.{NotYet}
use Rattle.commit_index.proofs.runs.id_among.Given as goal

abbrev pub invariant-loop-i : goal.invariant-loop-i
invariant-loop-i l = NotYet l.index l.n l.id l.i
