-- `plan_subcompaction_ranges::views_sampled` meets its contract.
-- Assumes nothing.
use Rattle.plan_subcompaction_ranges.proofs.WalkExits.{ViewsWalk}
use Rattle.plan_subcompaction_ranges.proofs.views_sampled.Given as goal

abbrev pub invariant-loop : goal.invariant-loop
invariant-loop l = ViewsWalk l.image l.fn.r l.indexes l.initial.keys l.initial.bytes l.initial.w l.keys l.bytes l.counter l.at l.w
