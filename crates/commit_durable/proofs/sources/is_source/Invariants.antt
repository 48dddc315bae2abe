-- `commit_durable::sources::is_source` meets its contract.
-- Assumes nothing.
use Rattle.commit_durable.proofs.SourceExits.{IdsLeft}
use Rattle.commit_durable.proofs.sources.is_source.Given as goal

abbrev pub invariant-loop-i : goal.invariant-loop-i
invariant-loop-i l = IdsLeft l.job l.from l.n l.id l.i
