-- How many views each run of the new image has, and what they weigh: what its entries do, whatever is drawn.
-- Assumes nothing.
use Prim.Native.Nat.{ℕ, zero, suc, ◌+◌}
use native.Mathlib.Omega.{arith}
use mathlib.Core.Path.{◌≡◌, refl, sym, ap, ◌∙◌}
use mathlib.Core.Bool.{Bool, true, false, ◌||◌}
use mathlib.Core.Option.{Option, none, some}
use mathlib.Core.List.{List, [], ◌∷◌, ◌++◌, map, flat_map, flatten}
use lib.Dec.{eqb}
use lib.ListN.{length, take, drop, length-append, length-map, take-append-drop, length-drop}
use lib.Seq.{take_at, drop_at}
use Rattle.base.specs.Pick.{pick}
use Rattle.base.specs.Lists.{All-of, map_append, map_alike}
use Rattle.records.specs.Values.{View, Run, Image, Part, Job}
use Rattle.manifest.specs.Checks.{has}
use Rattle.incremental_progress.specs.Intervals.{Interval, listed}
use Rattle.incremental_progress.specs.Parts.{durable, intervals, open_key}
use Rattle.incremental_progress.specs.Draws.{Ten, got, fill_all}
use Rattle.incremental_progress.specs.Entries.{Entry, output_entries, part_entries}
use Rattle.incremental_progress.specs.Gaps.{gap_entries, by_gap, run_gaps, placed, of_interval}
use Rattle.incremental_progress.specs.Plans.{by_kind, job_gaps, run_draws, draw_entries, outputs_of, new_views, new_runs, new_image, view_count}
use Rattle.incremental_progress.proofs.FilledViews.{filled_length}
use Rattle.incremental_progress.proofs.GapStarts.{gaps_length, run_gaps_bound}
use Rattle.incremental_progress.proofs.PlacedSizes.{total, all_placed}

-- ---- the outputs, interval by interval
pub outputs_count : (ps : List Part) (vs : List View) → length (outputs_of ps vs) ≡ length (intervals ps)
unfolding outputs_of intervals flat_map
outputs_count [] vs = refl
outputs_count (p ∷ ps) vs = go (durable p) (outputs_count ps (drop (length (part_entries p)) vs))
  where
    rest : List (List View)
    rest = outputs_of ps (drop (length (part_entries p)) vs)

    go : (o : Option Interval) → length rest ≡ length (intervals ps)
        → length (of_interval o (take (length (part_entries p)) vs) ++ rest) ≡ length (listed o ++ intervals ps)
    go none e = e
    go (some iv) e = rw e

-- a part without an interval has no entries
part_kept : (p : Part) (vs : List View) (rest : List (List View))
    → flatten (of_interval (durable p) (take (length (part_entries p)) vs) ++ rest) ≡ take (length (part_entries p)) vs ++ flatten rest
unfolding part_entries flat_map flatten
part_kept p vs rest = go (durable p)
  where
    entries : Option Interval → List Entry
    entries o = flat_map (λ iv. flat_map (output_entries (open_key p) iv) p.outputs) (listed o)

    go : (o : Option Interval) → flatten (of_interval o (take (length (entries o)) vs) ++ rest) ≡ take (length (entries o)) vs ++ flatten rest
    go none = refl
    go (some iv) = refl

-- none of them is left out
pub outputs_all : (ps : List Part) (vs : List View) → length vs ≡ length (flat_map part_entries ps) → flatten (outputs_of ps vs) ≡ vs
unfolding outputs_of flat_map flatten
outputs_all [] [] e = refl
outputs_all [] (v ∷ vs) e = absurd (omega arith)
outputs_all (p ∷ ps) vs e =
    let l = length-append (part_entries p) (flat_map part_entries ps) in
    let after : length (drop (length (part_entries p)) vs) ≡ length (flat_map part_entries ps) = rw length-drop (omega arith) in
    part_kept p vs (outputs_of ps (drop (length (part_entries p)) vs))
    ∙ ap (λ l. take (length (part_entries p)) vs ++ l) (outputs_all ps (drop (length (part_entries p)) vs) after)
    ∙ take-append-drop (length (part_entries p)) vs

-- ---- views that weigh what their entries do
map_take : {A B : Type 0} (f : A → B) (n : ℕ) (l : List A) → map f (take n l) ≡ take n (map f l)
map_take f zero l = refl
map_take f (suc n) [] = refl
map_take f (suc n) (x ∷ l) = rw (map_take f n l)

map_drop : {A B : Type 0} (f : A → B) (n : ℕ) (l : List A) → map f (drop n l) ≡ drop n (map f l)
map_drop f zero l = refl
map_drop f (suc n) [] = refl
map_drop f (suc n) (x ∷ l) = map_drop f n l

pub map_each : {A B : Type 0} (f g : A → B) → ((x : A) → f x ≡ g x) → (xs : List A) → map f xs ≡ map g xs
map_each f g e xs = map_alike f g xs (All-of e xs)

total_map : {A : Type 0} (w : A → ℕ) (xs : List A) → total w xs ≡ total (λ n. n) (map w xs)
unfolding total
total_map w [] = refl
total_map w (x ∷ xs) = rw (total_map w xs)

module _ (w : View → ℕ) (x : Entry → ℕ) where
  same_length : (vs : List View) (es : List Entry) → map w vs ≡ map x es → length vs ≡ length es
  same_length vs es e = sym (length-map vs w) ∙ ap length e ∙ length-map es x

  pub same_total : (vs : List View) (es : List Entry) → map w vs ≡ map x es → total w vs ≡ total x es
  same_total vs es e = total_map w vs ∙ ap (total (λ n. n)) e ∙ sym (total_map x es)

  first_same : (vs : List View) (es fs : List Entry) → map w vs ≡ map x (es ++ fs) → map w (take (length es) vs) ≡ map x es
  first_same vs es fs e =
      map_take w (length es) vs ∙ ap (take (length es)) (e ∙ map_append x es fs) ∙ take_at (map x es) (map x fs) (length es) (length-map es x)

  rest_same : (vs : List View) (es fs : List Entry) → map w vs ≡ map x (es ++ fs) → map w (drop (length es) vs) ≡ map x fs
  rest_same vs es fs e =
      map_drop w (length es) vs ∙ ap (drop (length es)) (e ∙ map_append x es fs) ∙ drop_at (map x es) (map x fs) (length es) (length-map es x)

  -- what the views of a run weigh afterwards, beside outputs of a weight
  abbrev pub weighs : Job → ℕ → Run → ℕ
  weighs j outputs r = by_kind j r (total x (run_draws j r) + outputs) (total x (run_draws j r)) (total w r.views)

  run_weighs : (j : Job) (outs : List (List View)) (r : Run) (mine : List View) → length outs ≡ length (intervals j.parts) → map w mine ≡ map x (run_draws j r)
      → total w (new_views j outs r mine) ≡ weighs j (total w (flatten outs)) r
  unfolding new_views run_draws
  run_weighs j outs r mine h e = go (eqb r.id j.destination) (has r.id j.sources) e
    where
      ns : List ℕ
      ns = run_gaps (job_gaps j) r.views

      es : List Entry
      es = flat_map (gap_entries (job_gaps j)) r.views

      go : (d m : Bool) → map w mine ≡ map x (pick (d || m) es [])
          → total w (pick d (by_gap 0 outs (placed ns mine)) (pick m mine r.views))
          ≡ pick d (total x (pick (d || m) es []) + total w (flatten outs)) (pick m (total x (pick (d || m) es [])) (total w r.views))
      go true m e =
          all_placed w outs ns mine (gaps_length (job_gaps j) r.views ∙ sym (same_length mine es e)) (rw h (run_gaps_bound (intervals j.parts) r.views))
          ∙ ap (λ n. n + total w (flatten outs)) (same_total mine es e)
      go false true e = same_total mine es e
      go false false e = refl

  runs_weigh : (j : Job) (outs : List (List View)) (rs : List Run) (vs : List View) → length outs ≡ length (intervals j.parts) → map w vs ≡ map x (flat_map (run_draws j) rs)
      → map (λ (r : Run). total w r.views) (new_runs j outs rs vs) ≡ map (weighs j (total w (flatten outs))) rs
  unfolding new_runs flat_map
  runs_weigh j outs [] vs h e = refl
  runs_weigh j outs (r ∷ rs) vs h e =
      rw (
        run_weighs j outs r (take (length (run_draws j r)) vs) h (first_same vs (run_draws j r) (flat_map (run_draws j) rs) e),
        runs_weigh j outs rs (drop (length (run_draws j r)) vs) h (rest_same vs (run_draws j r) (flat_map (run_draws j) rs) e),
      )

  pub image_weighs : (j : Job) (i : Image) (vs : List View) → map w vs ≡ map x (draw_entries j i)
      → map (λ (r : Run). total w r.views) (new_image j i vs) ≡ map (weighs j (total x (flat_map part_entries j.parts))) i
  unfolding new_image draw_entries
  image_weighs j i vs e =
      let es = flat_map part_entries j.parts in
      let mine : List View = take (length es) vs in
      let first : map w mine ≡ map x es = first_same vs es (flat_map (run_draws j) i) e in
      let all : flatten (outputs_of j.parts mine) ≡ mine = outputs_all j.parts mine (same_length mine es first) in
      runs_weigh j (outputs_of j.parts mine) i (drop (length es) vs) (outputs_count j.parts mine) (rest_same vs es (flat_map (run_draws j) i) e)
      ∙ ap (λ n. map (weighs j n) i) (ap (total w) all ∙ same_total mine es first)

-- ---- how many
abbrev one : {A : Type 0} → A → ℕ
one a = 1

ones : (vs : List View) (es : List Entry) → length vs ≡ length es → map one vs ≡ map one es
ones [] [] e = refl
ones [] (y ∷ es) e = absurd (omega arith)
ones (v ∷ vs) [] e = absurd (omega arith)
ones (v ∷ vs) (y ∷ es) e = rw (ones vs es (omega arith))

counts : {A : Type 0} (xs : List A) → total one xs ≡ length xs
unfolding total
counts [] = refl
counts (x ∷ xs) = omega (arith, counts xs)

run_counts : (j : Job) (r : Run) → weighs one one j (total one (flat_map part_entries j.parts)) r ≡ view_count j r
unfolding view_count
run_counts j r = rw (counts (run_draws j r), counts (flat_map part_entries j.parts), counts r.views)

-- Each run has as many views as its entries, and the destination also the outputs.
pub commit_counts : (j : Job) (i : Image) (s : List Ten) (vs : List View) (t : List Ten)
    → fill_all (draw_entries j i) s ≡ got vs t
    → map (λ (r : Run). length r.views) (new_image j i vs) ≡ map (view_count j) i
commit_counts j i s vs t e =
    sym (map_each (λ r. total one r.views) _ (λ r. counts r.views) (new_image j i vs))
    ∙ image_weighs one one j i vs (ones vs (draw_entries j i) (filled_length (draw_entries j i) s vs t e))
    ∙ map_each _ (view_count j) (run_counts j) i
