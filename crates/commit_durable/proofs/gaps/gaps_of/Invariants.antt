-- `commit_durable::gaps::gaps_of` meets its contract.
-- Assumes nothing.
use Rattle.commit_durable.proofs.GapExits.{GapsKept}
use Rattle.commit_durable.proofs.gaps.gaps_of.Given as goal

abbrev pub invariant-loop-k : goal.invariant-loop-k
invariant-loop-k l = GapsKept l.job l.n l.initial.gaps l.gaps l.k l.made l.from
