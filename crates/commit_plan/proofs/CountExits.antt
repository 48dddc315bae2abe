-- How large a run is afterwards, from the plans before and after it.
-- Assumes nothing.
use Prim.Native.Nat.{◌+◌, ◌*◌, ◌≤◌}
use native.Mathlib.Omega.{arith}
use mathlib.Core.Path.{◌≡◌, ap, ◌∙◌}
use mathlib.Core.Bool.{Bool, true, false}
use mathlib.Core.List.{List, [], ◌∷◌, ◌++◌, map, flat_map}
use lib.Dec.{eqb}
use lib.ListN.{length, length-append}
use Rattle.base.specs.Lists.{map_append}
use Rattle.base.specs.Pick.{pick}
use Rattle.comparable_range.specs.Range.{Range}
use Rattle.records.specs.Values.{View, Run, Job}
use Rattle.manifest.specs.Checks.{has}
use Rattle.commit_index.specs.declared.runs.IndexedRun.{IndexedRun}
use Rattle.incremental_progress.specs.Entries.{Entry, entry_view, part_entries}
use Rattle.incremental_progress.specs.Gaps.{gap_entries}
use Rattle.incremental_progress.specs.Plans.{is_source_of, run_draws, view_count, views_length, view_bytes, entry_bytes}
use Rattle.incremental_progress.specs.Plans as plans
use Rattle.commit_rows.specs.declared.runs.RunKind.TheVariants.{Other, Source, Destination}
use Rattle.commit_entries.specs.declared.Plan.{Plan}
use Rattle.commit_entries.proofs.Planning.{bytes_append}
use Rattle.commit_plan.specs.Plans.{kind_of, size_by}
use Rattle.commit_plan.proofs.RunExits.{entries_most}

pub entries_append : (es fs : List Entry) → length (entry_bytes (es ++ fs)) ≡ length (entry_bytes es) + length (entry_bytes fs)
entries_append es fs =
    ap (λ (l : List View). length (view_bytes l)) (map_append entry_view es fs) ∙ ap length (bytes_append (map entry_view es) (map entry_view fs)) ∙ rw length-append

views_most : (gs : List Range) → length gs ≤ 65 → (vs : List View) → length (flat_map (gap_entries gs) vs) ≤ length vs * 65
unfolding flat_map
views_most gs h [] = omega arith
views_most gs h (v ∷ vs) = rw length-append (omega (arith, entries_most gs v, views_most gs h vs))

-- a run of at most 1,024 views, and at most 65 gaps
pub draws_most : (j : Job) (r : Run) → length (plans.job_gaps j) ≤ 65 → length r.views ≤ 1024 → length (run_draws j r) ≤ 66560
unfolding run_draws
draws_most j r h k = go (is_source_of j r.id)
  where
    go : (b : Bool) → length (pick b (flat_map (gap_entries (plans.job_gaps j)) r.views) []) ≤ 66560
    go true = omega (arith, views_most (plans.job_gaps j) h r.views)
    go false = omega arith

module _ (j : Job) (r : Run) (x : IndexedRun) (p q o : Plan)
    (rows : q.rows ≡ p.rows + length (run_draws j r))
    (bytes : q.bytes ≡ p.bytes + length (entry_bytes (run_draws j r)))
    (outs : o.rows ≡ length (flat_map part_entries j.parts))
    (out_bytes : o.bytes ≡ length (entry_bytes (flat_map part_entries j.parts)))
    (views : x.views ≡ length r.views)
    (long : x.past ≡ x.first + length (view_bytes r.views)) where
  size_bytes_by : (a b : Bool)
      → (size_by (pick a Destination (pick b Source Other)) x p q o).bytes
      ≡ pick a (length (entry_bytes (run_draws j r)) + length (entry_bytes (flat_map part_entries j.parts))) (pick b (length (entry_bytes (run_draws j r))) (length (view_bytes r.views)))
  size_bytes_by true b = omega (arith, bytes, out_bytes)
  size_bytes_by false true = omega (arith, bytes)
  size_bytes_by false false = omega (arith, long)

  pub size_bytes_are : (size_by (kind_of j r) x p q o).bytes ≡ views_length j r
  unfolding views_length
  size_bytes_are = size_bytes_by (eqb r.id j.destination) (has r.id j.sources)

  size_views_by : (a b : Bool)
      → (size_by (pick a Destination (pick b Source Other)) x p q o).views
      ≡ pick a (length (run_draws j r) + length (flat_map part_entries j.parts)) (pick b (length (run_draws j r)) (length r.views))
  size_views_by true b = omega (arith, rows, outs)
  size_views_by false true = omega (arith, rows)
  size_views_by false false = views

  pub size_views_are : (size_by (kind_of j r) x p q o).views ≡ view_count j r
  unfolding view_count
  size_views_are = size_views_by (eqb r.id j.destination) (has r.id j.sources)
