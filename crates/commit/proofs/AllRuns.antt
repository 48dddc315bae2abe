-- The runs of the plan make the new runs, and fit.
-- Assumes nothing.
use Prim.Native.Nat.{ℕ, ◌+◌, ◌≤◌}
use native.Mathlib.Omega.{arith}
use mathlib.Core.Path.{◌≡◌, refl, sym, ap, subst, ◌∙◌}
use mathlib.Core.List.{List, [], ◌∷◌, ◌++◌, flat_map}
use lib.ListN.{length, take, drop, length-append, length-drop}
use lib.Seq.{length-take-le}
use Rattle.base.specs.Bytes.{Bytes}
use Rattle.base.specs.Lists.{All}
use Rattle.base.specs.Rows.{Each}
use Rattle.records.specs.Values.{View, Run, Job}
use Rattle.incremental_progress.specs.Entries.{part_entries}
use Rattle.incremental_progress.specs.Gaps.{placed}
use Rattle.incremental_progress.specs.Plans.{run_draws, new_runs, view_count}
use Rattle.commit_rows.specs.declared.rows.Row.{Row}
use Rattle.commit_rows.specs.declared.runs.RunRow.{RunRow}
use Rattle.commit_plan.specs.Plans.{RunHeld, run_buckets}
use Rattle.commit_write.specs.Runs.{planned, RunsFit}
use Rattle.commit_write.proofs.Made.{RunsMade}
use Rattle.commit.proofs.EachLaws.{each_front, each_back}
use Rattle.commit.proofs.Places.{placed_append, placed_length}
use Rattle.commit.proofs.RowsMade.{RowMade}
use Rattle.commit.proofs.OneRun.{buckets_length, OutputsMade, run_made, run_fits}

-- all runs together have as many rows as entries
pub planned_length : (given : List ℕ) (j : Job) (rs : List Run) (xs : List RunRow) → Each (RunHeld given j) rs xs → planned xs ≡ length (flat_map (run_draws j) rs)
unfolding planned flat_map
planned_length given j [] [] e = refl
planned_length given j [] (x ∷ xs) e = absurd e
planned_length given j (r ∷ rs) [] e = absurd e
planned_length given j (r ∷ rs) (x ∷ xs) e =
    let l = length-append (run_draws j r) (flat_map (run_draws j) rs) in
    omega (arith, l, e.0.rows, planned_length given j rs xs e.1)

module _ {given job ids : List ℕ} {j : Job} {outs : List (List View)} {outputs : List Row} (b : Bytes given) (o : OutputsMade given job ids j outs outputs) where
  -- the first run's rows, and those of the others
  record Split (r : Run) (rs : List Run) (x : RunRow) (vs : List View) (rows : List Row) : Type 0 where
    own : Each (RowMade given job ids) (placed (run_buckets j r) (take (length (run_draws j r)) vs)) (take x.rows rows)
    rest : Each (RowMade given job ids) (placed (flat_map (run_buckets j) rs) (drop (length (run_draws j r)) vs)) (drop x.rows rows)
    own_count : length (take (length (run_draws j r)) vs) ≡ length (run_draws j r)
    rest_count : length (drop (length (run_draws j r)) vs) ≡ length (flat_map (run_draws j) rs)

  split :
      (r : Run) (rs : List Run) (x : RunRow) (vs : List View) (rows : List Row)
      → RunHeld given j r x
      → length vs ≡ length (flat_map (run_draws j) (r ∷ rs))
      → Each (RowMade given job ids) (placed (flat_map (run_buckets j) (r ∷ rs)) vs) rows
      → Split r rs x vs rows
  unfolding flat_map
  split r rs x vs rows h c e =
      let n = length (run_draws j r) in
      let bs = run_buckets j r in
      let more = flat_map (run_buckets j) rs in
      let l = length-append (run_draws j r) (flat_map (run_draws j) rs) in
      let m : length bs ≡ n = buckets_length j r in
      let t : length (take n vs) ≡ n = length-take-le n vs (omega (arith, c, l)) in
      let p : length (placed bs (take n vs)) ≡ x.rows = placed_length bs (take n vs) (m ∙ sym t) ∙ t ∙ sym h.rows in
      let s : placed (bs ++ more) vs ≡ placed bs (take n vs) ++ placed more (drop n vs)
      = placed_append bs more vs (omega (arith, c, l, m)) ∙ ap (λ k. placed bs (take k vs) ++ placed more (drop k vs)) m in
      let f : Each (RowMade given job ids) (placed bs (take n vs) ++ placed more (drop n vs)) rows = subst (λ q. Each (RowMade given job ids) q rows) s e in
      record {
        own = subst (λ k. Each (RowMade given job ids) (placed bs (take n vs)) (take k rows)) p (each_front (RowMade given job ids) (placed bs (take n vs)) (placed more (drop n vs)) rows f);
        rest = subst (λ k. Each (RowMade given job ids) (placed more (drop n vs)) (drop k rows)) p (each_back (RowMade given job ids) (placed bs (take n vs)) (placed more (drop n vs)) rows f);
        own_count = t;
        rest_count = length-drop n vs ∙ omega (arith, c, l);
      }

  pub runs_made :
      (rs : List Run) (xs : List RunRow) (vs : List View) (rows : List Row)
      → Each (RunHeld given j) rs xs
      → length vs ≡ length (flat_map (run_draws j) rs)
      → Each (RowMade given job ids) (placed (flat_map (run_buckets j) rs) vs) rows
      → RunsMade given job ids outputs xs rows (new_runs j outs rs vs)
  unfolding new_runs
  runs_made [] [] vs rows h c e = tt
  runs_made [] (x ∷ xs) vs rows h c e = absurd h
  runs_made (r ∷ rs) [] vs rows h c e = absurd h
  runs_made (r ∷ rs) (x ∷ xs) vs rows h c e =
      let s = split r rs x vs rows h.0 c e in (
        run_made o r (take (length (run_draws j r)) vs) (take x.rows rows) b x h.0 s.own_count s.own,
        runs_made rs xs (drop (length (run_draws j r)) vs) (drop x.rows rows) h.1 s.rest_count s.rest,
      )

  pub runs_fit :
      (places : ℕ) (rs : List Run) (xs : List RunRow) (vs : List View) (rows : List Row)
      → Each (RunHeld given j) rs xs
      → length vs ≡ length (flat_map (run_draws j) rs)
      → Each (RowMade given job ids) (placed (flat_map (run_buckets j) rs) vs) rows
      → All (λ r. view_count j r ≤ 1024) rs
      → length outputs ≡ length (flat_map part_entries j.parts)
      → ((n : ℕ) → n ≤ 1024 → n ≤ length vs + length outputs → n ≤ places)
      → RunsFit given (length outputs) places xs rows
  unfolding flat_map
  runs_fit places [] [] vs rows h c e f m p = tt
  runs_fit places [] (x ∷ xs) vs rows h c e f m p = absurd h
  runs_fit places (r ∷ rs) [] vs rows h c e f m p = absurd h
  runs_fit places (r ∷ rs) (x ∷ xs) vs rows h c e f m p =
      let s = split r rs x vs rows h.0 c e in
      let l = length-append (run_draws j r) (flat_map (run_draws j) rs) in (
        run_fits o r (take (length (run_draws j r)) vs) (take x.rows rows) b x h.0 s.own_count s.own places f.0 m
            (λ k. p (length (run_draws j r) + length outputs) k (omega (arith, c, l))),
        runs_fit places rs xs (drop (length (run_draws j r)) vs) (drop x.rows rows) h.1 s.rest_count s.rest f.1 m
            (λ n k q. p n k (omega (arith, q, s.rest_count, c, l))),
      )
