-- `commit_durable::outputs::outputs_read` meets its contract.
-- Assumes nothing.
use Rattle.commit_durable.proofs.OutputExits.{OutputsSeen}
use Rattle.commit_durable.proofs.outputs.outputs_read.Given as goal

abbrev pub invariant-loop : goal.invariant-loop
invariant-loop l = OutputsSeen l.job l.from l.n l.planned l.counter l.before l.o
