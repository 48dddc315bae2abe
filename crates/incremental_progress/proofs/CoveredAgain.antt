-- Check 12 as a statement gives check 12 as a test, and a commit's own views pass it.
-- Assumes nothing.
use mathlib.Core.Path.{◌≡◌, refl, ap, ◌∙◌}
use mathlib.Core.Bool.{Bool, true, false, not, ◌||◌}
use mathlib.Core.List.{List, [], ◌∷◌, flat_map}
use lib.Dec.{eqb}
use Rattle.base.specs.Pick.{pick}
use Rattle.records.specs.Values.{View, Run, Image, Part, Job}
use Rattle.manifest.specs.Ranges.{effective}
use Rattle.manifest.specs.Checks.{all, has}
use Rattle.incremental_progress.specs.Intervals.{cut_out}
use Rattle.incremental_progress.specs.Views.{start}
use Rattle.incremental_progress.proofs.Marked.{piece, retained, cut_run, cut_destination, published, marked_views, marked_runs}
use Rattle.incremental_progress.specs.Parts.{intervals}
use Rattle.incremental_progress.specs.Jobs.{is_output, others}
use Rattle.incremental_progress.specs.Checks.{covered, output_views_covered}
use Rattle.base.specs.Lists.{All, All-map, All-of, All-both, All-append, All-flatMap, All-mapped}
use Rattle.base.proofs.SortLaws.{All-sort}
use Rattle.comparable_range.specs.Cut.{cut_at_most}
use Rattle.incremental_progress.proofs.Views.{piece_table}
use Rattle.incremental_progress.proofs.Publish.{good_job}
use Rattle.incremental_progress.proofs.Commit.{Parts, sound, Passes}
use Rattle.incremental_progress.proofs.Checks.{under_covered}
use Rattle.incremental_progress.proofs.NewImages.{true_all}

-- a view of an output table is covered
abbrev IsCovered : Job → View → Bool
IsCovered j v = not (is_output j.parts v.table) || covered (intervals j.parts) v

where_so : (a b : Bool) → (a ≡ true → b ≡ true) → (not a || b) ≡ true
where_so true b f = f refl
where_so false b f = refl

where_not : (a b : Bool) → a ≡ false → (not a || b) ≡ true
where_not true b e = cc
where_not false b e = refl

-- ---- from the statement
pub passes_covered : (j : Job) (runs : Image) → Passes j runs → output_views_covered runs j ≡ true
unfolding output_views_covered
passes_covered j runs p =
    true_all _ runs
    (All-both (λ r o c. where_so (eqb r.id j.destination) _
    (λ d. true_all (IsCovered j) r.views
    (All-both (λ v s u. where_so (is_output j.parts v.table) _ (λ e. under_covered (intervals j.parts) (sound p.parts) v s (u e))) r.views o.sane (c d))))
    runs p.ordered p.replaced)

-- ---- after a commit
-- what is left in the destination is of other tables
other_tables : (ps : List Part) (vs : List View) → All (λ v. is_output ps v.table ≡ false) (others ps vs)
unfolding others
other_tables ps [] = tt
other_tables ps (v ∷ vs) = go (is_output ps v.table) refl (other_tables ps vs)
  where
    go : (b : Bool) → is_output ps v.table ≡ b → All (λ v. is_output ps v.table ≡ false) (others ps vs)
        → All (λ v. is_output ps v.table ≡ false) (pick b (others ps vs) (v ∷ others ps vs))
    go true e a = a
    go false e a = (e, a)

pieces_covered : (j : Job) (v : View) → is_output j.parts v.table ≡ false → All (λ w. IsCovered j w ≡ true) (retained (intervals j.parts) v)
unfolding retained
pieces_covered j v e =
    All-mapped (λ w. IsCovered j w ≡ true) (piece v) (cut_out (intervals j.parts) (effective v ∷ []))
    (All-of (λ r. where_not _ _ (ap (is_output j.parts) (piece_table v r) ∙ e)) (cut_out (intervals j.parts) (effective v ∷ [])))

outs_covered : (j : Job) → Parts j → All (λ v. IsCovered j v ≡ true) (flat_map published j.parts)
outs_covered j a =
    All-map (λ v g. where_so (is_output j.parts v.table) _ (λ e. under_covered (intervals j.parts) (sound a) v g.0 g.1))
    (flat_map published j.parts) (good_job a)

destination_covered : (j : Job) → Parts j → (vs : List View)
    → All (λ v. IsCovered j v ≡ true) (cut_destination (intervals j.parts) (flat_map published j.parts) (others j.parts vs))
unfolding cut_destination cut_run
destination_covered j a vs =
    All-sort cut_at_most start (λ v. IsCovered j v ≡ true) _
    (All-append (λ v. IsCovered j v ≡ true) (flat_map (retained (intervals j.parts)) (others j.parts vs)) (flat_map published j.parts)
    (All-flatMap (λ v. is_output j.parts v.table ≡ false) (λ v. IsCovered j v ≡ true) (retained (intervals j.parts)) (λ v e. pieces_covered j v e) (others j.parts vs) (other_tables j.parts vs))
    (outs_covered j a))

pub covered_again : (j : Job) → Parts j → (i : Image) → output_views_covered (marked_runs j i) j ≡ true
unfolding output_views_covered marked_runs marked_views
covered_again j a i = true_all _ (marked_runs j i) (All-mapped _ _ i (All-of one i))
  where
    one : (r : Run) → (not (eqb r.id j.destination) || all (IsCovered j) (marked_views j r.id r.views)) ≡ true
    one r = go (eqb r.id j.destination)
      where
        go : (d : Bool) → (not d || all (IsCovered j) (pick d (cut_destination (intervals j.parts) (flat_map published j.parts) (others j.parts r.views)) (pick (has r.id j.sources) (cut_run (intervals j.parts) r.views) r.views))) ≡ true
        go true = true_all (IsCovered j) _ (destination_covered j a r.views)
        go false = refl
