-- A commit by gaps is one list of entries filled in one go, and then cut up.
-- Assumes nothing.
use Prim.Native.Nat.{◌+◌}
use native.Mathlib.Omega.{arith}
use mathlib.Core.Path.{◌≡◌, refl, sym, ap, ◌∙◌}
use mathlib.Core.Bool.{Bool, true, false, ◌||◌}
use mathlib.Core.List.{List, [], ◌∷◌, ◌++◌, flat_map}
use lib.Dec.{eqb}
use lib.ListN.{length, take, drop}
use lib.Seq.{take_at, drop_at}
use Rattle.base.specs.Pick.{pick}
use Rattle.records.specs.Values.{View, Run, Image, Part, Job}
use Rattle.manifest.specs.Checks.{has}
use Rattle.incremental_progress.specs.Parts.{durable}
use Rattle.incremental_progress.specs.Draws.{Ten, Drawn, used_up, got, next, fill_all}
use Rattle.incremental_progress.specs.Entries.{Entry, part_entries}
use Rattle.incremental_progress.specs.Gaps.{gap_entries, by_gap, run_gaps, placed, of_interval, fill_parts, gap_views, gap_runs, gap_commit}
use Rattle.incremental_progress.specs.Plans.{job_gaps, run_draws, draw_entries, outputs_of, new_views, new_runs, new_image, views_length, runs_length}
use Rattle.incremental_progress.proofs.FilledViews.{filled_length, next_next, fill_append}

-- alike for what was drawn
next_alike : {A B : Type 0} (d : Drawn A) (f g : A → List Ten → Drawn B) → ((a : A) (s : List Ten) → d ≡ got a s → f a s ≡ g a s) → next d f ≡ next d g
next_alike used_up f g h = refl
next_alike (got a s) f g h = h a s refl

next_got : {A : Type 0} (d : Drawn A) → next d (λ a s. got a s) ≡ d
next_got used_up = refl
next_got (got a s) = refl

-- Two lists of entries filled one after the other, or as one list that is cut up again.
fill_split :
    {B : Type 0} (es fs : List Entry) (s : List Ten) (f : List View → List View → List Ten → Drawn B)
    → next (fill_all es s) (λ vs s. next (fill_all fs s) (λ ws s. f vs ws s))
    ≡ next (fill_all (es ++ fs) s) (λ vs s. f (take (length es) vs) (drop (length es) vs) s)
fill_split es fs s f =
    sym
    (ap (λ d. next d (λ vs s. f (take (length es) vs) (drop (length es) vs) s)) (fill_append es fs s)
    ∙ next_next (fill_all es s) _ _
    ∙ next_alike (fill_all es s) _ _ (λ vs t e. next_next (fill_all fs t) _ _ ∙ next_alike (fill_all fs t) _ _ (λ ws u g. cut vs ws u (filled_length es s vs t e))))
  where
    cut : (vs ws : List View) (u : List Ten) → length vs ≡ length es → f (take (length es) (vs ++ ws)) (drop (length es) (vs ++ ws)) u ≡ f vs ws u
    cut vs ws u e = rw (take_at vs ws (length es) e, drop_at vs ws (length es) e)

-- ---- the outputs
parts_as_one : (ps : List Part) (s : List Ten) → fill_parts ps s ≡ next (fill_all (flat_map part_entries ps) s) (λ vs s. got (outputs_of ps vs) s)
unfolding fill_parts flat_map fill_all outputs_of
parts_as_one [] s = refl
parts_as_one (p ∷ ps) s =
    next_alike (fill_all (part_entries p) s) _ _
    (λ vs t e. ap (λ d. next d (λ outs s. got (of_interval (durable p) vs ++ outs) s)) (parts_as_one ps t) ∙ next_next (fill_all (flat_map part_entries ps) t) _ _)
    ∙ fill_split (part_entries p) (flat_map part_entries ps) s (λ vs ws s. got (of_interval (durable p) vs ++ outputs_of ps ws) s)

-- ---- the runs
views_as_one : (j : Job) (outs : List (List View)) (r : Run) (s : List Ten)
    → gap_views j outs r.id r.views s ≡ next (fill_all (run_draws j r) s) (λ vs s. got (new_views j outs r vs) s)
unfolding gap_views run_draws new_views fill_all
views_as_one j outs r s = go (eqb r.id j.destination) (has r.id j.sources)
  where
    es : List Entry
    es = flat_map (gap_entries (job_gaps j)) r.views

    new : List View → List View
    new ws = by_gap 0 outs (placed (run_gaps (job_gaps j) r.views) ws)

    go : (d m : Bool)
        → pick d (next (fill_all es s) (λ ws s. got (new ws) s)) (pick m (fill_all es s) (got r.views s))
        ≡ next (fill_all (pick (d || m) es []) s) (λ vs s. got (pick d (new vs) (pick m vs r.views)) s)
    go true m = refl
    go false true = sym (next_got (fill_all es s))
    go false false = refl

runs_as_one : (j : Job) (outs : List (List View)) (rs : List Run) (s : List Ten)
    → gap_runs j outs rs s ≡ next (fill_all (flat_map (run_draws j) rs) s) (λ vs s. got (new_runs j outs rs vs) s)
unfolding gap_runs flat_map fill_all new_runs
runs_as_one j outs [] s = refl
runs_as_one j outs (r ∷ rs) s =
    ap (λ d. next d (λ vs s. next (gap_runs j outs rs s) (λ new s. got (record { id = r.id; views = vs } ∷ new) s))) (views_as_one j outs r s)
    ∙ next_next (fill_all (run_draws j r) s) _ _
    ∙ next_alike (fill_all (run_draws j r) s) _ _
    (λ vs t e.
    ap (λ d. next d (λ new s. got (record { id = r.id; views = new_views j outs r vs } ∷ new) s)) (runs_as_one j outs rs t)
    ∙ next_next (fill_all (flat_map (run_draws j) rs) t) _ _)
    ∙ fill_split (run_draws j r) (flat_map (run_draws j) rs) s (λ vs ws s. got (record { id = r.id; views = new_views j outs r vs } ∷ new_runs j outs rs ws) s)

-- ---- the commit
pub commit_planned : (j : Job) (i : Image) (s : List Ten) → gap_commit j i s ≡ next (fill_all (draw_entries j i) s) (λ vs s. got (new_image j i vs) s)
unfolding gap_commit draw_entries new_image
commit_planned j i s =
    ap (λ d. next d (λ outs s. gap_runs j outs i s)) (parts_as_one j.parts s)
    ∙ next_next (fill_all (flat_map part_entries j.parts) s) _ _
    ∙ next_alike (fill_all (flat_map part_entries j.parts) s) _ _ (λ vs t e. runs_as_one j (outputs_of j.parts vs) i t)
    ∙ fill_split (flat_map part_entries j.parts) (flat_map (run_draws j) i) s (λ vs ws s. got (new_runs j (outputs_of j.parts vs) i ws) s)

pub commit_as_one : (j : Job) (i : Image) (s : List Ten) (vs : List View) (t : List Ten)
    → fill_all (draw_entries j i) s ≡ got vs t → gap_commit j i s ≡ got (new_image j i vs) t
commit_as_one j i s vs t e = commit_planned j i s ∙ ap (λ d. next d (λ vs s. got (new_image j i vs) s)) e

pub commit_used_up : (j : Job) (i : Image) (s : List Ten) → fill_all (draw_entries j i) s ≡ used_up → gap_commit j i s ≡ used_up
commit_used_up j i s e = commit_planned j i s ∙ ap (λ d. next d (λ vs s. got (new_image j i vs) s)) e

-- ---- one run more
pub length_more : (j : Job) (rs : List Run) (r : Run) → runs_length j (rs ++ (r ∷ [])) ≡ runs_length j rs + (6 + views_length j r)
unfolding runs_length
length_more j [] r = omega arith
length_more j (q ∷ rs) r = omega (arith, length_more j rs r)
