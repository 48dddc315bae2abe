-- What the loop over a job's sources keeps.
-- Assumes nothing.
use Prim.Native.Nat.{ℕ, zero, suc, ◌+◌, ◌*◌, ◌-◌, ◌≤◌, ◌<◌}
use native.Mathlib.Omega.{arith}
use mathlib.Core.Path.{◌≡◌, sym, ◌∙◌}
use mathlib.Core.Bool.{true, false}
use mathlib.Core.List.{List, ◌∷◌}
use lib.ListN.{length, take, drop}
use lib.Seq.{drop-drop}
use borrow.Author.Tests.{eq-eqb, ne_eqb}
use Rattle.key.specs.Word.{digits}
use Rattle.format.specs.Got.{got}
use Rattle.format.specs.Number.{read_number}
use Rattle.records.specs.Spans.{ids_in}
use Rattle.records.proofs.FieldExits.{number_is}
use Rattle.manifest.specs.Checks.{has}

ids_step : (n : ℕ) (l : List ℕ) → 0 < n → ids_in n l ≡ digits 0 (take 4 l) ∷ ids_in (n - 1) (drop 4 l)
unfolding ids_in
ids_step zero l h = absurd (omega arith)
ids_step (suc n) l h = let z : suc n - 1 ≡ n = omega arith in rw z

number_value : (s : List ℕ) (at : ℕ) {v : ℕ} → at + 4 ≤ length s → read_number 4 (drop at s) ≡ got v (drop (at + 4) s) → digits 0 (take 4 (drop at s)) ≡ v
number_value s at h e = let g = number_is s at 4 h in cc

-- of n ids from a place on, the first i are others than the id
pub record IdsLeft (s : List ℕ) (from n id i : ℕ) : Type 0 where
  pub rest : has id (ids_in n (drop from s)) ≡ has id (ids_in (n - i) (drop (from + 4 * i) s))

module _ {s : List ℕ} {from n id i : ℕ} (p : IdsLeft s from n id i) where
  pub no_source : n ≤ i → false ≡ has id (ids_in n (drop from s))
  unfolding has ids_in
  no_source h =
      let z : n - i ≡ 0 = omega arith in
      sym (p.rest ∙ rw z)

  module _ (r : from + 4 * n ≤ length s) (h : i < n) {v : ℕ} (e : read_number 4 (drop (from + 4 * i) s) ≡ got v (drop (from + 4 * i + 4) s)) where
    here : has id (ids_in n (drop from s)) ≡ has id (v ∷ ids_in (n - i - 1) (drop (from + 4 * i + 4) s))
    here = p.rest ∙ rw (ids_step (n - i) (drop (from + 4 * i) s) (omega arith), number_value s (from + 4 * i) (omega arith) e, drop-drop)

    pub a_source : v ≡ id → true ≡ has id (ids_in n (drop from s))
    unfolding has
    a_source q = sym (here ∙ rw (eq-eqb id v (sym q)))

    pub not_this : (v ≡ id → ⊥) → IdsLeft s from n id (i + 1)
    unfolding has
    not_this q =
        let l : n - i - 1 ≡ n - (i + 1) = omega arith in
        let k : from + 4 * i + 4 ≡ from + 4 * (i + 1) = omega arith in
        record { rest = here ∙ rw (ne_eqb id v (λ x. q (sym x)), l, k) }

pub ruleset source_exits = (no_source, a_source, not_this)
