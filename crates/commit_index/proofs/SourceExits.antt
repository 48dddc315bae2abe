-- What the loop over a job's sources keeps.
-- Assumes nothing.
use Prim.Native.Nat.{ℕ, zero, suc, ◌+◌, ◌*◌, ◌-◌, ◌≤◌, ◌<◌}
use native.Mathlib.Omega.{arith}
use mathlib.Core.Path.{◌≡◌, sym, ◌∙◌}
use mathlib.Core.Bool.{Bool, true, false, not}
use mathlib.Core.List.{List, ◌∷◌}
use lib.ListN.{length, take, drop}
use lib.Seq.{drop-drop}
use borrow.Author.Tests.{not-true, not-false}
use Rattle.key.specs.Word.{digits}
use Rattle.format.specs.Got.{got}
use Rattle.format.specs.Number.{read_number}
use Rattle.records.specs.Spans.{ids_in}
use Rattle.records.proofs.FieldExits.{number_is}
use Rattle.manifest.specs.Checks.{all, has}
use Rattle.commit_index.specs.Index.{image_ids}

ids_step : (n : ℕ) (l : List ℕ) → 0 < n → ids_in n l ≡ digits 0 (take 4 l) ∷ ids_in (n - 1) (drop 4 l)
unfolding ids_in
ids_step zero l h = absurd (omega arith)
ids_step (suc n) l h = let z : suc n - 1 ≡ n = omega arith in rw z

number_value : (s : List ℕ) (at : ℕ) {v : ℕ} → at + 4 ≤ length s → read_number 4 (drop at s) ≡ got v (drop (at + 4) s) → digits 0 (take 4 (drop at s)) ≡ v
number_value s at h e = let g = number_is s at 4 h in cc

-- of m ids from a place of the job s on, the first i are runs of the image
pub record SourcesLeft (given s : List ℕ) (from m i : ℕ) : Type 0 where
  pub rest : all (λ k. has k (image_ids given)) (ids_in m (drop from s)) ≡ all (λ k. has k (image_ids given)) (ids_in (m - i) (drop (from + 4 * i) s))

module _ {given s : List ℕ} {from m i : ℕ} (p : SourcesLeft given s from m i) where
  pub all_there : m ≤ i → true ≡ all (λ k. has k (image_ids given)) (ids_in m (drop from s))
  unfolding all ids_in
  all_there h =
      let z : m - i ≡ 0 = omega arith in
      sym (p.rest ∙ rw z)

  module _ (r : from + 4 * m ≤ length s) (h : i < m) where
    module _ {v : ℕ} (e : read_number 4 (drop (from + 4 * i) s) ≡ got v (drop (from + 4 * i + 4) s)) {b : Bool} (q : b ≡ has v (image_ids given)) where
      here : all (λ k. has k (image_ids given)) (ids_in m (drop from s)) ≡ all (λ k. has k (image_ids given)) (v ∷ ids_in (m - i - 1) (drop (from + 4 * i + 4) s))
      here = p.rest ∙ rw (ids_step (m - i) (drop (from + 4 * i) s) (omega arith), number_value s (from + 4 * i) (omega arith) e, drop-drop)

      pub one_is_not : not b ≡ true → false ≡ all (λ k. has k (image_ids given)) (ids_in m (drop from s))
      unfolding all
      one_is_not z = let y = not-true b z in sym (here ∙ rw (← q, y))

      pub one_is : not b ≡ false → SourcesLeft given s from m (i + 1)
      unfolding all
      one_is z =
          let y = not-false b z in
          let l : m - i - 1 ≡ m - (i + 1) = omega arith in
          let k : from + 4 * i + 4 ≡ from + 4 * (i + 1) = omega arith in
          record { rest = here ∙ rw (← q, y, l, k) }

pub ruleset source_exits = (all_there, one_is_not, one_is)
