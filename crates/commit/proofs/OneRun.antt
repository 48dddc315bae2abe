-- A run of the plan makes the new run, and fits.
-- Assumes nothing.
use Prim.Native.Nat.{ℕ, ◌+◌, ◌*◌, ◌≤◌, ◌<◌}
use native.Mathlib.Omega.{arith}
use mathlib.Core.Path.{◌≡◌, refl, sym, ap, subst, ◌∙◌}
use mathlib.Core.Bool.{Bool, true, false, ◌||◌}
use mathlib.Core.List.{List, [], ◌++◌, map, flat_map}
use lib.Dec.{eqb}
use lib.ListN.{length, length-map}
use Rattle.base.specs.Bytes.{Bytes}
use Rattle.base.specs.Pick.{pick}
use Rattle.base.specs.Lists.{All, All-map}
use Rattle.base.specs.Rows.{Each}
use Rattle.records.specs.Values.{View, Run, Job}
use Rattle.records.specs.Layouts.{view, run}
use Rattle.manifest.specs.Checks.{has}
use Rattle.incremental_progress.specs.Parts.{intervals}
use Rattle.incremental_progress.specs.Entries.{Entry, part_entries}
use Rattle.incremental_progress.specs.Gaps.{placed, by_gap, gap_entries, run_gaps}
use Rattle.incremental_progress.specs.Plans.{is_source_of, job_gaps, run_draws, new_views, view_count}
use Rattle.incremental_progress.proofs.GapStarts.{gaps_length, run_gaps_bound}
use Rattle.commit_rows.specs.Numbers.{run_kind_number}
use Rattle.commit_rows.specs.declared.rows.Row.{Row}
use Rattle.commit_rows.specs.declared.runs.RunKind.{RunKind}
use Rattle.commit_rows.specs.declared.runs.RunKind.TheVariants.{Other, Source, Destination}
use Rattle.commit_rows.specs.declared.runs.RunRow.{RunRow}
use Rattle.commit_plan.specs.Plans.{RunHeld, run_buckets}
use Rattle.commit_plan.specs.Views.{gap_bucket}
use Rattle.commit_write.specs.EachLaws.{each_length, each_append}
use Rattle.commit_write.specs.Runs.{run_bytes, Bucketed, DestinationFits, RunFits}
use Rattle.commit_write.proofs.Placed.{RowFor, outputs_placed, pieces_placed}
use Rattle.commit_write.proofs.Made.{other_made, source_made, gaps_made}
use Rattle.commit.proofs.EachLaws.{each_turn}
use Rattle.commit.proofs.Places.{placed_length, pieces_placed_lem, placed_gaps, outputs_small, pieces_small}
use Rattle.commit.proofs.RowsMade.{RowMade, row_for, rows_bucketed, rows_bytes}
use Rattle.commit.proofs.RunCopied.{run_copied, run_stands}

-- as many buckets as entries
pub buckets_length : (j : Job) (r : Run) → length (run_buckets j r) ≡ length (run_draws j r)
unfolding run_buckets run_draws
buckets_length j r = go (is_source_of j r.id)
  where
    go : (b : Bool) → length (pick b (map gap_bucket (run_gaps (job_gaps j) r.views)) []) ≡ length (pick b (flat_map (gap_entries (job_gaps j)) r.views) [])
    go true = length-map (run_gaps (job_gaps j) r.views) gap_bucket ∙ gaps_length (job_gaps j) r.views
    go false = refl

-- the outputs' rows
pub record OutputsMade (given job ids : List ℕ) (j : Job) (outs : List (List View)) (outputs : List Row) : Type 0 where
  pub count : length outs ≡ length (intervals j.parts)
  pub few : length outs ≤ 64
  pub rows : Each (RowMade given job ids) (outputs_placed 0 outs) outputs

module _ {given job ids : List ℕ} {j : Job} {outs : List (List View)} {outputs : List Row} (o : OutputsMade given job ids j outs outputs) where
  pub outputs_bucketed : Bucketed outputs
  outputs_bucketed =
      rows_bucketed given job ids (outputs_placed 0 outs) outputs o.rows
      (All-map (λ p h. let l : p.gap ≤ 2 * (0 + length outs) = h in omega (arith, o.few)) (outputs_placed 0 outs) (outputs_small 0 outs))

  module _ (r : Run) (mine : List View) (rows : List Row) where
    abbrev gs : List ℕ
    gs = run_gaps (job_gaps j) r.views

    abbrev es : List Entry
    es = flat_map (gap_entries (job_gaps j)) r.views

    gaps_small : All (λ p. p.gap ≤ length outs) (placed gs mine)
    gaps_small = placed_gaps (λ n. n ≤ length outs) gs mine (rw o.count (run_gaps_bound (intervals j.parts) r.views))

    pieces : Each (RowMade given job ids) (placed (map gap_bucket gs) mine) rows → Each (RowMade given job ids) (pieces_placed (placed gs mine)) rows
    pieces e = subst (λ l. Each (RowMade given job ids) l rows) (pieces_placed_lem gs mine) e

    pieces_bucketed : Each (RowMade given job ids) (placed (map gap_bucket gs) mine) rows → Bucketed rows
    pieces_bucketed e =
        rows_bucketed given job ids (pieces_placed (placed gs mine)) rows (pieces e)
        (All-map (λ p h. let l : p.gap ≤ 2 * length outs = h in omega (arith, o.few)) (pieces_placed (placed gs mine)) (pieces_small (length outs) (placed gs mine) gaps_small))

    as_many : length mine ≡ length es → length (map gap_bucket gs) ≡ length mine
    as_many n = length-map gs gap_bucket ∙ gaps_length (job_gaps j) r.views ∙ sym n

    module _ (b : Bytes given) (x : RunRow) (h : RunHeld given j r x) (n : length mine ≡ length (run_draws j r)) (e : Each (RowMade given job ids) (placed (run_buckets j r) mine) rows) where
      pub run_made : run_bytes given job ids outputs x rows ≡ run.write (record { id = r.id; views = new_views j outs r mine })
      unfolding run_buckets run_draws new_views
      run_made = go (eqb r.id j.destination) (has r.id j.sources) h.kind h.rows n e
        where
          go :
              (d m : Bool)
              → x.kind ≡ pick d Destination (pick m Source Other)
              → x.rows ≡ length (pick (d || m) es [])
              → length mine ≡ length (pick (d || m) es [])
              → Each (RowMade given job ids) (placed (pick (d || m) (map gap_bucket gs) []) mine) rows
              → run_bytes given job ids outputs x rows ≡ run.write (record { id = r.id; views = pick d (by_gap 0 outs (placed gs mine)) (pick m mine r.views) })
          go true m k l n e =
              let ps = pieces_placed (placed gs mine) in
              let many = each_length (RowMade given job ids) (placed (map gap_bucket gs) mine) rows e in
              let these = placed_length (map gap_bucket gs) mine (as_many n) in
              let each = each_append (RowMade given job ids) (outputs_placed 0 outs) ps outputs rows o.rows (pieces e) in
              let for = each_turn (RowMade given job ids) (RowFor view.write given job ids) (row_for given job ids) (outputs_placed 0 outs ++ ps) (outputs ++ rows) each in
              gaps_made given job ids outputs x rows outs (placed gs mine) k (omega (arith, l, n, many, these)) outputs_bucketed (pieces_bucketed e) o.few gaps_small for
              ∙ ap (λ i. run.write (record { id = i; views = by_gap 0 outs (placed gs mine) })) h.id
          go false true k l n e =
              source_made given job ids outputs x rows mine k (l ∙ sym n) (rows_bytes given job ids (map gap_bucket gs) mine rows (as_many n) e)
              ∙ ap (λ i. run.write (record { id = i; views = mine })) h.id
          go false false k l n e = other_made given job ids outputs x rows r k (run_stands b h)

      pub run_fits : (places : ℕ) → view_count j r ≤ 1024 → length outputs ≡ length (flat_map part_entries j.parts) → (length (run_draws j r) + length outputs ≤ 1024 → length (run_draws j r) + length outputs ≤ places) → RunFits given (length outputs) places x rows
      unfolding run_buckets run_draws view_count
      run_fits places f m p = go (eqb r.id j.destination) (has r.id j.sources) h.kind h.rows f p e
        where
          none_else : (k : RunKind) → x.kind ≡ k → run_kind_number k < 2 → x.kind ≡ Destination → DestinationFits (length outputs) places x rows
          none_else k a z c = absurd (let y : run_kind_number k ≡ 2 = ap run_kind_number (sym a ∙ c) in omega arith)

          go :
              (d s : Bool)
              → x.kind ≡ pick d Destination (pick s Source Other)
              → x.rows ≡ length (pick (d || s) es [])
              → pick d (length (pick (d || s) es []) + length (flat_map part_entries j.parts)) (pick s (length (pick (d || s) es [])) (length r.views)) ≤ 1024
              → (length (pick (d || s) es []) + length outputs ≤ 1024 → length (pick (d || s) es []) + length outputs ≤ places)
              → Each (RowMade given job ids) (placed (pick (d || s) (map gap_bucket gs) []) mine) rows
              → RunFits given (length outputs) places x rows
          go true s k l f p e =
              record {
                other = λ _. run_copied b h;
                source = λ _. omega arith;
                destination = λ _. record { few = omega arith; room = omega (arith, p (omega arith)); small = pieces_bucketed e };
              }
          go false true k l f p e =
              record { other = λ _. run_copied b h; source = λ _. omega arith; destination = none_else Source k (omega arith) }
          go false false k l f p e =
              record { other = λ _. run_copied b h; source = λ _. omega arith; destination = none_else Other k (omega arith) }
