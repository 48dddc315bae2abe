-- `manifest::runs_judged` meets its contract.
-- Assumes nothing.
use Rattle.manifest.proofs.ImageExits.{RunsSeen}
use Rattle.manifest.proofs.images.runs_judged.Given as goal

abbrev pub invariant-loop-seen : goal.invariant-loop-seen
invariant-loop-seen l = RunsSeen l.s l.from l.n l.ids l.seen l.at l.fault
