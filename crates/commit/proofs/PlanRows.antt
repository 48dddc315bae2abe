-- A commit that is planned with ids enough: its rows stand for the views of the new image.
-- Assumes nothing.
use Prim.Native.Nat.{ℕ, ◌+◌, ◌*◌, ◌≤◌}
use native.Mathlib.Omega.{arith}
use mathlib.Core.Path.{◌≡◌, sym, ap, subst, ◌∙◌}
use mathlib.Core.Bool.{true}
use mathlib.Core.List.{List, ◌++◌, map, flat_map}
use lib.ListN.{length, take, drop, length-append, length-drop}
use lib.Seq.{length-take-le}
use Rattle.base.specs.Bytes.{Bytes}
use Rattle.base.specs.Rows.{Each, rows_in}
use Rattle.records.specs.Values.{View, Image, Job}
use Rattle.commit_index.specs.Index.{image_of}
use Rattle.incremental_progress.specs.Parts.{intervals}
use Rattle.incremental_progress.specs.Entries.{part_entries}
use Rattle.incremental_progress.specs.Draws.{supply}
use Rattle.incremental_progress.specs.Gaps.{placed}
use Rattle.incremental_progress.specs.Plans.{run_draws, draw_entries, outputs_of}
use Rattle.incremental_progress.proofs.FilledViews.{filled_length}
use Rattle.incremental_progress.proofs.PlanSizes.{outputs_count}
use Rattle.commit_rows.specs.Numbers.{row_of, run_of}
use Rattle.commit_rows.specs.declared.rows.Row.{Row}
use Rattle.commit_rows.specs.declared.runs.RunRow.{RunRow}
use Rattle.commit_durable.specs.Tables.{job_of}
use Rattle.commit_entries.specs.Planned.{RowIs}
use Rattle.commit_outputs.specs.Outputs.{output_buckets}
use Rattle.commit_plan.specs.Plans.{RunHeld, RunMade, run_buckets, draw_buckets, CommitPlanned}
use Rattle.commit_plan.specs.declared.plan.ImagePlan.{ImagePlan}
use Rattle.commit_write.specs.EachLaws.{each_length}
use Rattle.commit_write.specs.Runs.{runs_in, planned, all_rows}
use Rattle.commit_write.specs.declared.runs.Counts.{Counts}
use Rattle.commit_write.proofs.Placed.{outputs_placed}
use Rattle.commit.proofs.EachLaws.{each_front, each_back, each_map}
use Rattle.commit.proofs.Places.{placed_append, placed_length, output_buckets_length, outputs_placed_lem, intervals_few}
use Rattle.commit.proofs.RowsMade.{RowMade, row_made}
use Rattle.commit.proofs.OneRun.{OutputsMade}
use Rattle.commit.proofs.AllRuns.{planned_length}
use Rattle.commit.proofs.ReadWithin.{parts_few}
use Rattle.commit.proofs.PlanDrawn.{views, left, views_drawn}

-- the ids were enough, the rows had room, and each run of the new image is within the ceiling
pub record Accepted (given record' ids rows runs : List ℕ) (q : ImagePlan) : Type 0 where
  pub bytes : Bytes given
  pub job_bytes : Bytes record'
  pub planned : CommitPlanned given record' ids rows runs q
  pub enough : q.plan.enough ≡ true
  pub room : q.plan.rows * 11 ≤ length rows
  pub fits : q.fits ≡ true

-- what is handed to the writer
abbrev pub counts_of : List ℕ → ImagePlan → Counts
counts_of given q = record { runs = length (image_of given); outputs = q.outputs }

module _ {given record' ids rows runs : List ℕ} {q : ImagePlan} (a : Accepted given record' ids rows runs q) where
  abbrev i : Image
  i = image_of given

  abbrev j : Job
  j = job_of record'

  abbrev vs : List View
  vs = views a.planned

  filled : length vs ≡ length (draw_entries j i)
  filled = filled_length (draw_entries j i) (supply ids) vs (left a.planned) (views_drawn a.planned a.enough)

  abbrev pub outs : List (List View)
  outs = outputs_of j.parts (take (length (flat_map part_entries j.parts)) vs)

  abbrev pub own : List View
  own = drop (length (flat_map part_entries j.parts)) vs

  abbrev pub table_rows : List Row
  table_rows = all_rows (counts_of given q) runs rows

  abbrev pub run_rows : List RunRow
  run_rows = runs_in (length i) runs

  -- ---- how many
  entries_length : length (draw_entries j i) ≡ length (flat_map part_entries j.parts) + length (flat_map (run_draws j) i)
  unfolding draw_entries
  entries_length = length-append (flat_map part_entries j.parts) (flat_map (run_draws j) i)

  views_length_lem : length vs ≡ length (flat_map part_entries j.parts) + length (flat_map (run_draws j) i)
  views_length_lem = filled ∙ entries_length

  pub runs_held : Each (RunHeld given j) i run_rows
  runs_held = each_map (RunMade given j) (RunHeld given j) run_of (λ r row h. h) i (rows_in 6 (length i) runs) a.planned.runs_are.rows

  placed_count : length (placed (draw_buckets j i) vs) ≡ length vs
  placed_count =
      placed_length (draw_buckets j i) vs
      (a.planned.planned.many ∙ sym filled)

  pub rows_count : q.outputs + planned run_rows ≡ length (placed (draw_buckets j i) vs)
  rows_count = omega (arith, a.planned.outputs, planned_length given j i run_rows runs_held, placed_count, views_length_lem)

  pub rows_long : (q.outputs + planned run_rows) * 11 ≤ length rows
  rows_long = rw rows_count (a.planned.planned.kept a.enough a.room).long

  -- ---- the rows
  pub all_made : Each (RowMade given record' ids) (placed (draw_buckets j i) vs) table_rows
  all_made =
      subst (λ n. Each (RowMade given record' ids) (placed (draw_buckets j i) vs) (map row_of (rows_in 11 n rows))) (sym rows_count)
      (each_map (RowIs given record' ids) (RowMade given record' ids) row_of (row_made given record' ids) (placed (draw_buckets j i) vs)
      (rows_in 11 (length (placed (draw_buckets j i) vs)) rows) (a.planned.planned.kept a.enough a.room).rows)

  abbrev front : List View
  front = take (length (flat_map part_entries j.parts)) vs

  front_length : length front ≡ length (flat_map part_entries j.parts)
  front_length = length-take-le (length (flat_map part_entries j.parts)) vs (omega (arith, views_length_lem))

  pub own_length : length own ≡ length (flat_map (run_draws j) i)
  own_length = length-drop (length (flat_map part_entries j.parts)) vs ∙ omega (arith, views_length_lem)

  buckets_long : length (output_buckets 0 j.parts) ≡ length (flat_map part_entries j.parts)
  buckets_long = output_buckets_length 0 j.parts

  placed_split : placed (draw_buckets j i) vs ≡ outputs_placed 0 outs ++ placed (flat_map (run_buckets j) i) own
  placed_split =
      placed_append (output_buckets 0 j.parts) (flat_map (run_buckets j) i) vs (omega (arith, buckets_long, views_length_lem))
      ∙ ap (λ n. placed (output_buckets 0 j.parts) (take n vs) ++ placed (flat_map (run_buckets j) i) (drop n vs)) buckets_long
      ∙ ap (λ l. l ++ placed (flat_map (run_buckets j) i) own) (outputs_placed_lem 0 j.parts front front_length)

  split_made : Each (RowMade given record' ids) (outputs_placed 0 outs ++ placed (flat_map (run_buckets j) i) own) table_rows
  split_made = subst (λ l. Each (RowMade given record' ids) l table_rows) placed_split all_made

  outputs_long : length (outputs_placed 0 outs) ≡ q.outputs
  outputs_long =
      ap length (sym (outputs_placed_lem 0 j.parts front front_length))
      ∙ placed_length (output_buckets 0 j.parts) front (buckets_long ∙ sym front_length)
      ∙ front_length
      ∙ sym a.planned.outputs

  pub outputs_made : OutputsMade given record' ids j outs (take q.outputs table_rows)
  outputs_made =
      let n : length outs ≡ length (intervals j.parts) = outputs_count j.parts front in
      record {
        count = n;
        few = omega (arith, n, intervals_few j.parts, parts_few record' a.job_bytes);
        rows = subst (λ n. Each (RowMade given record' ids) (outputs_placed 0 outs) (take n table_rows)) outputs_long
            (each_front (RowMade given record' ids) (outputs_placed 0 outs) (placed (flat_map (run_buckets j) i) own) table_rows split_made);
      }

  pub own_made : Each (RowMade given record' ids) (placed (flat_map (run_buckets j) i) own) (drop q.outputs table_rows)
  own_made =
      subst (λ n. Each (RowMade given record' ids) (placed (flat_map (run_buckets j) i) own) (drop n table_rows)) outputs_long
      (each_back (RowMade given record' ids) (outputs_placed 0 outs) (placed (flat_map (run_buckets j) i) own) table_rows split_made)

  pub outputs_many : length (take q.outputs table_rows) ≡ q.outputs
  outputs_many =
      length-take-le q.outputs table_rows
      (omega (arith, each_length (RowMade given record' ids) (placed (draw_buckets j i) vs) table_rows all_made, rows_count))
