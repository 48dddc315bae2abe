-- A drawn id keeps the time of the old one and differs from it.
-- Assumes nothing.
use Prim.Native.Nat.{ℕ}
use native.Mathlib.Omega.{arith}
use mathlib.Core.Path.{◌≡◌, refl, sym, ap, ◌∙◌}
use mathlib.Core.Bool.{Bool, true, false, true≢false}
use mathlib.Core.List.{List, [], ◌∷◌}
use Rattle.key.specs.Order.{cmp_key, is_equal}
use Rattle.key.proofs.Linear.{key_self}
use Rattle.comparable_range.proofs.Keyless.{equal_keys}
use Rattle.records.specs.declared.ids.ViewId.{ViewId}
use Rattle.incremental_progress.specs.Draws.{Ten, got, new_id, is_old, draw}
use Rattle.incremental_progress.specs.Members.{In, here, further}
use Rattle.incremental_progress.specs.DrawnIds.{DrawnFor, DrawnIdIsNew}
use Rattle.base.specs.Lists.{take_front}

-- ten bytes make the old id exactly if the test says so
pub old_is : (id : ViewId) (ten : Ten) → is_old id ten ≡ true → new_id id ten ≡ id
old_is id ten e = ap (λ (l : List ℕ). record { 0 = l }) (equal_keys (new_id id ten).0 id.0 e)

is_old_lem : (id : ViewId) (ten : Ten) → new_id id ten ≡ id → is_old id ten ≡ true
is_old_lem id ten e = ap (λ (i : ViewId). is_equal (cmp_key i.0 id.0)) e ∙ rw (key_self id.0)

one_more : {id : ViewId} {s rest : List Ten} {ten : Ten} (t : Ten) → new_id id t ≡ id → DrawnFor id s ten rest → DrawnFor id (t ∷ s) ten rest
one_more {id} t e d =
    record { time = d.time; differs = d.differs; passed = t ∷ d.passed; lent = ap (λ (l : List Ten). t ∷ l) d.lent; again = each }
  where
    each : (u : Ten) → In u (t ∷ d.passed) → new_id id u ≡ id
    each u (here f) = ap (new_id id) f ∙ e
    each u (further m) = d.again u m

pub drawn_id_is_new : DrawnIdIsNew
unfolding draw
drawn_id_is_new id [] ten rest h e = absurd (let z : ◌≡◌ {A = ℕ} 0 1 = cc in omega arith)
drawn_id_is_new id (t ∷ s) ten rest h e = go (is_old id t) refl (λ k. drawn_id_is_new id s ten rest h k)
  where
    none : (u : Ten) → In u [] → new_id id u ≡ id
    none u m = elim m [ ]

    go : (b : Bool) → is_old id t ≡ b → (draw id s ≡ got ten rest → DrawnFor id s ten rest) → DrawnFor id (t ∷ s) ten rest
    go true o ih = one_more t (old_is id t o) (ih (rw o at e))
    go false o ih =
        let f = rw o at e in
        let p : t ≡ ten = cc in
        let q : s ≡ rest = cc in
        record {
          time = take_front 6 id.0 ten (omega arith);
          differs = λ f. true≢false (sym (is_old_lem id t (ap (new_id id) p ∙ f)) ∙ o);
          passed = [];
          lent = cc;
          again = none;
        }
