-- A plan has at most one row for each view and each gap, and one for each output.
-- Assumes nothing.
use Prim.Native.Nat.{ℕ, ◌+◌, ◌*◌, ◌≤◌}
use native.Mathlib.Omega.{arith}
use mathlib.Core.Path.{◌≡◌, refl}
use mathlib.Core.Bool.{Bool, true, false, ◌||◌}
use mathlib.Core.Option.{Option, none, some}
use mathlib.Core.List.{List, [], ◌∷◌, flat_map}
use lib.Dec.{eqb}
use lib.ListN.{length, length-append, length-map}
use Rattle.base.specs.Pick.{pick}
use Rattle.key.specs.Order.{Key}
use Rattle.comparable_range.specs.Range.{Bound, unbounded, non_empty, overlap, intersect}
use Rattle.records.specs.Values.{Table, View, Run, Image, Part, Job}
use Rattle.manifest.specs.Ranges.{own, effective}
use Rattle.manifest.specs.Checks.{has}
use Rattle.incremental_progress.specs.Intervals.{Interval, listed, to_range}
use Rattle.incremental_progress.specs.Parts.{is_key, identity, durable, intervals, open_key}
use Rattle.incremental_progress.specs.Entries.{whole, cut, output_entries, part_entries}
use Rattle.incremental_progress.specs.Gaps.{gap_from, gaps_from, gaps, pieces, gap_entries}
use Rattle.incremental_progress.specs.Jobs.{outputs}
use Rattle.incremental_progress.specs.Plans.{job_gaps, run_draws, draw_entries}
use Rattle.commit.specs.Stages.{rows_at_most}

-- ---- lists of lists, each with at most m
flat_most : {A B : Type 0} (f : A → List B) (m : ℕ) → ((x : A) → length (f x) ≤ m) → (xs : List A) → length (flat_map f xs) ≤ length xs * m
unfolding flat_map
flat_most f m h [] = omega arith
flat_most f m h (x ∷ xs) = rw (length-append (f x) (flat_map f xs)) (omega (arith, h x, flat_most f m h xs))

listed_most : {A : Type 0} (o : Option A) → length (listed o) ≤ 1
listed_most none = omega arith
listed_most (some a) = omega arith

-- ---- the outputs
output_most : (k : Option Key) (iv : Interval) (t : Table) → length (output_entries k iv t) ≤ 1
unfolding output_entries
output_most none iv t = omega arith
output_most (some b) iv t = go (is_key t.last b) (non_empty (overlap (own t) (to_range iv)))
  where
    go : (c d : Bool) → length (pick c (pick d (cut (identity t) (to_range iv) ∷ []) []) (whole (identity t) ∷ [])) ≤ 1
    go true true = omega arith
    go true false = omega arith
    go false d = omega arith

part_most : (p : Part) → length (part_entries p) ≤ length p.outputs
unfolding part_entries flat_map
part_most p = go (durable p)
  where
    go : (o : Option Interval) → length (flat_map (λ iv. flat_map (output_entries (open_key p) iv) p.outputs) (listed o)) ≤ length p.outputs
    go none = omega arith
    go (some iv) =
        rw (length-append (flat_map (output_entries (open_key p) iv) p.outputs) [])
        (omega (arith, flat_most (output_entries (open_key p) iv) 1 (output_most (open_key p) iv) p.outputs))

parts_most : (ps : List Part) → length (flat_map part_entries ps) ≤ length (outputs ps)
unfolding flat_map
parts_most [] = omega arith
parts_most (p ∷ ps) =
    rw (length-append (part_entries p) (flat_map part_entries ps), length-append p.outputs (outputs ps)) (omega (arith, part_most p, parts_most ps))

-- ---- the pieces of views
gaps_count : (o : Option Bound) (ivs : List Interval) → length (gaps_from o ivs) ≡ length ivs + 1
unfolding gaps_from
gaps_count o [] = refl
gaps_count o (iv ∷ ivs) = omega (arith, gaps_count (gap_from iv.end) ivs)

gaps_most : (ps : List Part) → length (gaps (intervals ps)) ≤ length ps + 1
unfolding gaps intervals
gaps_most ps = omega (arith, gaps_count (some unbounded) (intervals ps), flat_most (λ p. listed (durable p)) 1 (λ p. listed_most (durable p)) ps)

view_most : (j : Job) (v : View) → length (gap_entries (job_gaps j) v) ≤ length j.parts + 1
unfolding gap_entries pieces
view_most j v =
    rw length-map
    (omega (arith, gaps_most j.parts, flat_most (λ g. listed (intersect (effective v) g)) 1 (λ g. listed_most (intersect (effective v) g)) (job_gaps j)))

run_most : (j : Job) (r : Run) → length (run_draws j r) ≤ length r.views * (length j.parts + 1)
unfolding run_draws
run_most j r = go (eqb r.id j.destination || has r.id j.sources)
  where
    go : (b : Bool) → length (pick b (flat_map (gap_entries (job_gaps j)) r.views) []) ≤ length r.views * (length j.parts + 1)
    go true = flat_most (gap_entries (job_gaps j)) (length j.parts + 1) (view_most j) r.views
    go false = omega arith

runs_most : (j : Job) (i : Image) → length (flat_map (run_draws j) i) ≤ length (flat_map (λ r. r.views) i) * (length j.parts + 1)
unfolding flat_map
runs_most j [] = omega arith
runs_most j (r ∷ rs) =
    rw (length-append (run_draws j r) (flat_map (run_draws j) rs), length-append r.views (flat_map (λ r. r.views) rs)) (omega (arith, run_most j r, runs_most j rs))

pub rows_at_most_lem : (i : Image) (j : Job) → length (draw_entries j i) ≤ rows_at_most i j
unfolding draw_entries rows_at_most
rows_at_most_lem i j = rw (length-append (flat_map part_entries j.parts) (flat_map (run_draws j) i)) (omega (arith, parts_most j.parts, runs_most j i))

-- and one for each output that the job lists
pub outputs_at_most : (i : Image) (j : Job) → length (outputs j.parts) ≤ rows_at_most i j
unfolding rows_at_most
outputs_at_most i j = omega arith
