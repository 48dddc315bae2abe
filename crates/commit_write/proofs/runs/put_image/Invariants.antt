-- `commit_write::runs::put_image` meets its contract.
-- Assumes nothing.
use Rattle.commit_write.proofs.ImageExits.{Putting}
use Rattle.commit_write.proofs.runs.put_image.Given as goal

abbrev pub invariant-loop-k : goal.invariant-loop-k
invariant-loop-k l = Putting l.image l.job l.ids l.runs l.rows l.initial.order l.initial.out l.n l.m l.order l.out l.k l.row l.to
