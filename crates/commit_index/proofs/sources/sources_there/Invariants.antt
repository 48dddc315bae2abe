-- `commit_index::sources::sources_there` meets its contract.
-- Assumes nothing.
use Rattle.commit_index.proofs.SourceExits.{SourcesLeft}
use Rattle.commit_index.proofs.sources.sources_there.Given as goal

abbrev pub invariant-loop-i : goal.invariant-loop-i
invariant-loop-i l = SourcesLeft l.image l.job l.from l.m l.i
