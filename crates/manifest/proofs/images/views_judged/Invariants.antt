-- `manifest::views_judged` meets its contract.
-- Assumes nothing.
use Rattle.manifest.proofs.ImageExits.{ViewsSeen}
use Rattle.manifest.proofs.images.views_judged.Given as goal

abbrev pub invariant-loop : goal.invariant-loop
invariant-loop l = ViewsSeen l.s l.from l.n l.counter l.at l.fault l.before
