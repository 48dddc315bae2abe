-- `demo::has` meets its contract.
-- Assumes nothing.
use Rattle.demo.proofs.Exits.{has_one}
use Rattle.demo.proofs.has.Goals as goal

pub returns-then-starts_with : goal.returns-then-starts_with
returns-then-starts_with c = has_one _ _ c.loop-i.i c.starts_with.ensures.value c.if-starts_with.true
