-- `sample_anchors::answered` meets its contract.
-- Assumes nothing.
use mathlib.Core.Path.{refl}
use Rattle.std.proofs.Math.ListN.{length-replicate}
use Rattle.sample_anchors.proofs.CallExits.{rows_there, rows_most, rows_sized, rows_reported, rows_lent}
use Rattle.sample_anchors.proofs.answered.Goals as goal

pub anchors_written-requires-clause-fact_1 : goal.anchors_written-requires-clause-fact_1
anchors_written-requires-clause-fact_1 g c =
    let e = c.sample-kept.ensures in
    rows_there e.held_then refl e.keys_len_unchanged (rw length-replicate c.requires.rows_1)

pub anchors_written-requires-clause-fact_2 : goal.anchors_written-requires-clause-fact_2
anchors_written-requires-clause-fact_2 g c =
    let e = c.sample-kept.ensures in
    rows_sized e.held_then refl e.keys_len_unchanged (rw length-replicate c.requires.rows_1)

pub anchors_written-requires-clause-fact_3 : goal.anchors_written-requires-clause-fact_3
anchors_written-requires-clause-fact_3 g c =
    let e = c.sample-kept.ensures in
    rows_most e.held_then refl e.keys_len_unchanged (rw length-replicate c.requires.rows_1) (rw length-replicate c.requires.rows_2)

pub returns-clause-value : goal.returns-clause-value
returns-clause-value g c =
    let e = c.sample-kept.ensures in
    rows_reported e.held_then refl e.keys_len_unchanged (rw length-replicate c.requires.rows_1) _ c.anchors_written.ensures.value

pub returns-clause-out_after : goal.returns-clause-out_after
returns-clause-out_after g c =
    let e = c.sample-kept.ensures in
    rows_lent e.held_then refl e.keys_len_unchanged (rw length-replicate c.requires.rows_1) _ c.anchors_written.ensures.out_after
