-- `plan_subcompaction_ranges::plan_sampled` meets its contract.
-- Assumes nothing.
use borrow.Author.Rules.{rules}
use Rattle.std.proofs.Math.ListN.{length-replicate}
use Rattle.plan_subcompaction_ranges.proofs.PlannerExits.{rows_enough, rows_there, bytes_inside, rows_most, total_of_rows, rows_total_fits, planned_told, planned_written}
use Rattle.plan_subcompaction_ranges.proofs.plan_sampled.Goals as goal

pub planned-requires-clause-total_value_1 : goal.planned-requires-clause-total_value_1
planned-requires-clause-total_value_1 g c =
    total_of_rows _ _ c.requires.parts_bound_2 c.runs_sampled.ensures c.in-All.is c.stop_after-k.ensures (search rules) (rows_enough _ _ c.requires.rows_enough_1 (length-replicate _ _))

pub planned-requires-clause-total_value_2 : goal.planned-requires-clause-total_value_2
planned-requires-clause-total_value_2 g c =
    rows_total_fits _ _ c.requires.parts_bound_2 c.runs_sampled.ensures c.in-All.is c.stop_after-k.ensures (search rules) (rows_enough _ _ c.requires.rows_enough_1 (length-replicate _ _))

pub planned-requires-else-kept-le64-clause-rows_1 : goal.planned-requires-else-kept-le64-clause-rows_1
planned-requires-else-kept-le64-clause-rows_1 g c =
    rows_there _ _ c.requires.parts_bound_2 c.runs_sampled.ensures c.in-All.is c.stop_after-k.ensures (search rules) (rows_enough _ _ c.requires.rows_enough_1 (length-replicate _ _))

pub planned-requires-else-kept-le64-clause-rows_2 : goal.planned-requires-else-kept-le64-clause-rows_2
planned-requires-else-kept-le64-clause-rows_2 g c =
    bytes_inside _ _ c.requires.parts_bound_2 c.runs_sampled.ensures c.in-All.is c.stop_after-k.ensures (search rules) (rows_enough _ _ c.requires.rows_enough_1 (length-replicate _ _))

pub planned-requires-else-kept-le64-clause-rows_3 : goal.planned-requires-else-kept-le64-clause-rows_3
planned-requires-else-kept-le64-clause-rows_3 g c =
    rows_most _ _ c.requires.parts_bound_2 c.runs_sampled.ensures c.in-All.is c.stop_after-k.ensures (search rules)

pub planned-requires-else-kept-le64-clause-total_value_1 : goal.planned-requires-else-kept-le64-clause-total_value_1
planned-requires-else-kept-le64-clause-total_value_1 g c =
    total_of_rows _ _ c.requires.parts_bound_2 c.runs_sampled.ensures c.in-All.is c.stop_after-k.ensures (search rules) (rows_enough _ _ c.requires.rows_enough_1 (length-replicate _ _))

pub planned-requires-else-kept-le64-clause-total_value_2 : goal.planned-requires-else-kept-le64-clause-total_value_2
planned-requires-else-kept-le64-clause-total_value_2 g c =
    rows_total_fits _ _ c.requires.parts_bound_2 c.runs_sampled.ensures c.in-All.is c.stop_after-k.ensures (search rules) (rows_enough _ _ c.requires.rows_enough_1 (length-replicate _ _))

pub returns-then-kept-le64-clause-value : goal.returns-then-kept-le64-clause-value
returns-then-kept-le64-clause-value g c =
    planned_told c.args.parts _ _ _ c.requires.parts_bound_1 c.requires.parts_bound_2 c.requires.parts_bound_3 c.runs_sampled.ensures c.in-All.is c.stop_after-k.ensures (search rules) (rows_enough _ _ c.requires.rows_enough_1 (length-replicate _ _)) c.planned.ensures.value

pub returns-then-kept-le64-clause-out_after : goal.returns-then-kept-le64-clause-out_after
returns-then-kept-le64-clause-out_after g c =
    planned_written c.args.parts _ _ _ c.requires.parts_bound_1 c.requires.parts_bound_2 c.requires.parts_bound_3 c.runs_sampled.ensures c.in-All.is c.stop_after-k.ensures (search rules) (rows_enough _ _ c.requires.rows_enough_1 (length-replicate _ _)) c.planned.ensures.out_after

pub returns-else-kept-le64-clause-value : goal.returns-else-kept-le64-clause-value
returns-else-kept-le64-clause-value g c =
    planned_told c.args.parts _ _ _ c.requires.parts_bound_1 c.requires.parts_bound_2 c.requires.parts_bound_3 c.runs_sampled.ensures c.in-All.is c.stop_after-k.ensures (search rules) (rows_enough _ _ c.requires.rows_enough_1 (length-replicate _ _)) c.planned-else-kept-le64.ensures.value

pub returns-else-kept-le64-clause-out_after : goal.returns-else-kept-le64-clause-out_after
returns-else-kept-le64-clause-out_after g c =
    planned_written c.args.parts _ _ _ c.requires.parts_bound_1 c.requires.parts_bound_2 c.requires.parts_bound_3 c.runs_sampled.ensures c.in-All.is c.stop_after-k.ensures (search rules) (rows_enough _ _ c.requires.rows_enough_1 (length-replicate _ _)) c.planned-else-kept-le64.ensures.out_after
