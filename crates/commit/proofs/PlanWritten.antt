-- What the writer makes of the plan is the new image, and it can be written.
-- Assumes nothing.
use Prim.Native.Nat.{ℕ, ◌+◌, ◌≤◌}
use native.Mathlib.Omega.{arith}
use mathlib.Core.Path.{◌≡◌, sym, subst, ◌∙◌}
use mathlib.Core.List.{List, flat_map}
use lib.Dec.{leb}
use lib.ListN.{length, take, drop, length-append}
use borrow.Author.Tests.{leb-true}
use Rattle.base.specs.Lists.{All, All-map}
use Rattle.records.specs.Layouts.{image}
use Rattle.commit_index.specs.Index.{image_of}
use Rattle.incremental_progress.specs.Gaps.{placed}
use Rattle.incremental_progress.specs.Entries.{part_entries}
use Rattle.incremental_progress.specs.Plans.{new_image, view_count, run_draws, draw_entries}
use Rattle.incremental_progress.proofs.Checks.{all_each}
use Rattle.commit_durable.specs.Tables.{job_of}
use Rattle.commit_plan.specs.Plans.{draw_buckets}
use Rattle.commit_plan.specs.declared.plan.ImagePlan.{ImagePlan}
use Rattle.commit_write.specs.Runs.{planned_image, RunsFit, Writable}
use Rattle.commit_write.proofs.Made.{image_made}
use Rattle.commit.specs.Stages.{OrderLong}
use Rattle.commit.proofs.RowsMade.{rows_inside}
use Rattle.commit.proofs.OneRun.{outputs_bucketed}
use Rattle.commit.proofs.AllRuns.{runs_made, runs_fit}
use Rattle.commit.proofs.PlanDrawn.{views, new, new_length}
use Rattle.commit.proofs.PlanRows.{Accepted, counts_of, own, table_rows, run_rows, runs_held, rows_long, all_made, own_length, outputs_made, own_made, outputs_many}

module _ {given record' ids rows runs : List ℕ} {q : ImagePlan} (a : Accepted given record' ids rows runs q) where
  pub planned_is_new : planned_image given record' ids runs rows (counts_of given q) ≡ image.write (new a.planned)
  unfolding new_image
  planned_is_new =
      image_made given record' ids (take q.outputs (table_rows a)) (run_rows a) (drop q.outputs (table_rows a)) (new a.planned)
      (runs_made a.bytes (outputs_made a) (image_of given) (run_rows a) (own a) (drop q.outputs (table_rows a)) (runs_held a) (own_length a) (own_made a))

  counts_small : All (λ r. view_count (job_of record') r ≤ 1024) (image_of given)
  counts_small =
      All-map (λ r h. leb-true (view_count (job_of record') r) 1024 h) (image_of given)
      (all_each (λ r. leb (view_count (job_of record') r) 1024) (image_of given) (sym a.planned.fits ∙ a.fits))

  -- the views of the runs, and the outputs
  all_rows : length (own a) + length (take q.outputs (table_rows a)) ≡ q.plan.rows
  unfolding draw_entries
  all_rows =
      let l = length-append (flat_map part_entries (job_of record').parts) (flat_map (run_draws (job_of record')) (image_of given)) in
      omega (arith, own_length a, outputs_many a, a.planned.outputs, a.planned.planned.count, l)

  runs_all_fit : (order : List ℕ) → OrderLong q order → RunsFit given q.outputs (length order) (run_rows a) (drop q.outputs (table_rows a))
  runs_all_fit order h =
      subst (λ n. RunsFit given n (length order) (run_rows a) (drop q.outputs (table_rows a))) (outputs_many a)
      (runs_fit a.bytes (outputs_made a) (length order) (image_of given) (run_rows a) (own a) (drop q.outputs (table_rows a)) (runs_held a) (own_length a) (own_made a) counts_small
      (outputs_many a ∙ a.planned.outputs) (λ n k l. h.enough n k (omega (arith, l, all_rows))))

  pub new_writable :
      (order out : List ℕ)
      → OrderLong q order
      → q.bytes ≤ length out
      → Writable given record' ids runs rows order (counts_of given q) out
  new_writable order out h l =
      record {
        runs_long = a.planned.runs_are.long;
        rows_long = rows_long a;
        inside = rows_inside given record' ids (placed (draw_buckets (job_of record') (image_of given)) (views a.planned)) (table_rows a) (all_made a);
        small = outputs_bucketed (outputs_made a);
        fit = runs_all_fit order h;
        room = rw (planned_is_new, ← (new_length a.planned a.enough a.bytes a.job_bytes)) l;
      }
