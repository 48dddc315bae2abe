-- An output table is known by its id.
-- Assumes nothing.
use mathlib.Core.Path.{◌≡◌, refl, ap₂}
use mathlib.Core.Bool.{Bool, ◌||◌}
use mathlib.Core.List.{List, [], ◌∷◌}
use Rattle.key.specs.Order.{cmp_key, is_equal}
use Rattle.records.specs.Values.{Table}
use Rattle.records.specs.declared.ids.TableId.{TableId}
use Rattle.incremental_progress.specs.Jobs.{among, outputs, is_output}
use Rattle.incremental_progress.specs.Laws.{OutputsGoById}

among_by_id : (t u : Table) → t.id ≡ u.id → (us : List Table) → among t us ≡ among u us
unfolding among
among_by_id t u e [] = refl
among_by_id t u e (w ∷ us) = ap₂ (λ (x : TableId) (b : Bool). is_equal (cmp_key x.0 w.id.0) || b) e (among_by_id t u e us)

pub outputs_go_by_id : OutputsGoById
unfolding is_output
outputs_go_by_id ps t u e = among_by_id t u e (outputs ps)
