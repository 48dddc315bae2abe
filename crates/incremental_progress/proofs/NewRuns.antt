-- A run of the new image, by the kind of the run: the destination, another source, and a run that is no source.
-- Assumes nothing.
use Prim.Native.Nat.{ℕ}
use mathlib.Core.Path.{◌≡◌, refl, ◌∙◌}
use mathlib.Core.Bool.{Bool, true, false}
use mathlib.Core.List.{List, [], ◌∷◌, ◌++◌, map}
use lib.Dec.{eqb}
use Rattle.base.specs.Pick.{pick}
use Rattle.base.specs.Sort.{sort}
use Rattle.comparable_range.specs.Cut.{cut_at_most}
use Rattle.records.specs.Values.{View, Job}
use Rattle.manifest.specs.Checks.{has}
use Rattle.incremental_progress.specs.Views.{start}
use Rattle.incremental_progress.specs.Parts.{intervals}
use Rattle.incremental_progress.specs.Entries.{Entry, whole, run_entries}
use Rattle.incremental_progress.specs.Jobs.{others, left_entries, with_outputs}
use Rattle.incremental_progress.specs.Draws.{Ten, Drawn, used_up, got, next, fill_all, fill_views}

pub next_got : {A : Type 0} (d : Drawn A) → next d (λ a s. got a s) ≡ d
next_got used_up = refl
next_got (got a s) = refl

-- nothing is drawn for views that stay as they are
pub fill_whole_views : (vs : List View) (s : List Ten) → fill_all (map whole vs) s ≡ got vs s
unfolding fill_all
fill_whole_views [] s = refl
fill_whole_views (v ∷ vs) s = rw (fill_whole_views vs s)

pub fill_by_kind :
    (j : Job) (outs : List View) (n : ℕ) (vs : List View) (s : List Ten)
    → fill_views j outs n vs s
    ≡ pick (eqb n j.destination)
    (next (fill_all (run_entries (intervals j.parts) (others j.parts vs)) s) (λ ws s. got (sort cut_at_most start (ws ++ outs)) s))
    (pick (has n j.sources) (fill_all (run_entries (intervals j.parts) vs) s) (got vs s))
unfolding fill_views left_entries with_outputs
fill_by_kind j outs n vs s =
    go (eqb n j.destination) (has n j.sources) (run_entries (intervals j.parts) (others j.parts vs)) (run_entries (intervals j.parts) vs)
  where
    go :
        (d m : Bool) (a b : List Entry)
        → next (fill_all (pick d a (pick m b (map whole vs))) s) (λ ws s. got (pick d (sort cut_at_most start (ws ++ outs)) ws) s)
        ≡ pick d (next (fill_all a s) (λ ws s. got (sort cut_at_most start (ws ++ outs)) s)) (pick m (fill_all b s) (got vs s))
    go true m a b = refl
    go false true a b = next_got (fill_all b s)
    go false false a b = next_got (fill_all (map whole vs) s) ∙ fill_whole_views vs s
