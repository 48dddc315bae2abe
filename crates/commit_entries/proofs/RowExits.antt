-- The exits of the functions that measure and keep a row, draw for it, and count it.
-- Assumes nothing.
use Prim.Native.Nat.{ℕ, ◌+◌, ◌*◌, ◌≤◌}
use mathlib.Core.Path.{◌≡◌, refl, sym, subst}
use mathlib.Core.Bool.{Bool, true, false}
use mathlib.Core.List.{List}
use lib.ListN.{drop}
use Rattle.records.specs.declared.ids.ViewId.{ViewId}
use Rattle.incremental_progress.specs.Draws.{supply, draw}
use Rattle.std.specs.Prelude.{Option, None, Some}
use Rattle.commit_ids.specs.Supply.{DrawFound}
use Rattle.commit_entries.specs.Planned.{PlanReady, TenFound, drawn_at, none_left, none_before, drew}
use Rattle.commit_entries.specs.declared.Plan.{Plan}
use Rattle.commit_entries.specs.declared.Ten.{Ten}

-- ---- next_ten
module _ (old : ViewId) (ids : List ℕ) (p : Plan) where
  module _ (h : p.enough ≡ true) {d : Option ℕ} (f : DrawFound ids (draw old (supply (drop p.drawn ids))) d) where
    pub ten_used : d ≡ None → TenFound old ids p (record { at = 0; plan = drew p p.drawn false })
    ten_used e = none_left h (sym (rw e at f.meaning))

    pub ten_found : {at : ℕ} → d ≡ Some at → TenFound old ids p (record { at = at; plan = drew p (at + 10) p.enough })
    ten_found {at} e = subst (λ (b : Bool). TenFound old ids p (record { at = at; plan = drew p (at + 10) b })) (sym h) (drawn_at h (sym (rw e at f.meaning)) (rw e at f.inside))

  pub ten_before : p.enough ≡ false → TenFound old ids p (record { at = 0; plan = drew p p.drawn false })
  ten_before h = none_before h

pub ruleset ten_exits = (ten_used, ten_found, ten_before)

-- ---- add_cut
drew_rows : {old : ViewId} {ids : List ℕ} {p : Plan} {x : Ten} → TenFound old ids p x → x.plan.rows ≡ p.rows
drew_rows (drawn_at a b c) = refl
drew_rows (none_left a b) = refl
drew_rows (none_before a) = refl

drew_bytes : {old : ViewId} {ids : List ℕ} {p : Plan} {x : Ten} → TenFound old ids p x → x.plan.bytes ≡ p.bytes
drew_bytes (drawn_at a b c) = refl
drew_bytes (none_left a b) = refl
drew_bytes (none_before a) = refl

pub cut_short : {old : ViewId} {ids : List ℕ} {p : Plan} {x : Ten} → PlanReady ids 1099511627776 p → TenFound old ids p x → x.plan.bytes ≤ x.plan.rows * 1048576
cut_short y f = rw (drew_rows f, drew_bytes f) y.short
