-- `plan_subcompaction_ranges::runs_sampled` meets its contract.
-- Assumes nothing.
use Rattle.plan_subcompaction_ranges.proofs.WalkExits.{RunsWalk}
use Rattle.plan_subcompaction_ranges.proofs.runs_sampled.Given as goal

abbrev pub invariant-loop : goal.invariant-loop
invariant-loop l = RunsWalk l.given l.n l.indexes l.initial.keys l.initial.bytes l.keys l.bytes l.counter l.at l.w
