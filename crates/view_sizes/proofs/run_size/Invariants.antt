-- `view_sizes::run_size` meets its contract.
-- Assumes nothing.
use Rattle.view_sizes.proofs.SizeExits.{Summing}
use Rattle.view_sizes.proofs.run_size.Given as goal

abbrev pub invariant-loop : goal.invariant-loop
invariant-loop l = Summing l.image l.fn.r l.sum l.counter l.at
