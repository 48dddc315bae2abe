-- Row numbers that are counted, and tables with one row more.
-- Assumes nothing.
use Prim.Native.Nat.{ℕ, zero, suc, ◌+◌, ◌<◌, ◌≤◌}
use native.Mathlib.Omega.{arith}
use native.Mathlib.Numerals.{add-one}
use native.Mathlib.Nat.{eq-or-lt_of_le}
use mathlib.Core.Path.{◌≡◌, refl, ap}
use mathlib.Core.Logic.{inl, inr}
use mathlib.Core.List.{List, [], ◌∷◌, ◌++◌}
use lib.ListN.{length, drop, set, length-set}
use lib.Seq.{get_or-set_same, get_or-set_other}
use lib.Dec.{T}
use Rattle.base.specs.Lists.{All}
use Rattle.format.specs.Got.{is_got}
use Rattle.format.specs.Key.{read_key}
use Rattle.key_rows.specs.Rows.{IsRow, Rows, count_from}

-- ---- counted numbers
pub length_count : (i n : ℕ) → length (count_from i n) ≡ n
unfolding count_from
length_count i zero = refl
length_count i (suc n) = ap suc (length_count (i + 1) n)

count_on : (i n : ℕ) → count_from i (suc n) ≡ count_from i n ++ ((i + n) ∷ [])
unfolding count_from
count_on i zero = let z : i + 0 ≡ i = omega arith in rw z
count_on i (suc n) = let z : i + suc n ≡ i + 1 + n = omega arith in rw (count_on (i + 1) n, z)

pub count_more : (n : ℕ) → count_from 0 (n + 1) ≡ count_from 0 n ++ (n ∷ [])
count_more n = let z : 0 + n ≡ n = omega arith in rw (add-one, count_on 0 n, z)

below_from : (i n m : ℕ) → i + m ≤ n → All (λ r. r < n) (count_from i m)
unfolding count_from
below_from i n zero h = tt
below_from i n (suc m) h = (omega arith, below_from (i + 1) n m (omega arith))

pub all_below : (n : ℕ) → All (λ r. r < n) (count_from 0 n)
all_below n = below_from 0 n n (omega arith)

-- ---- rows
pub rows_none : (s keys : List ℕ) → Rows s keys 0
rows_none s keys = record { row = λ r h. absurd (omega arith) }

module _ {s keys : List ℕ} {n : ℕ} (p : Rows s keys n) (at : ℕ) (t : T (is_got (read_key (drop at s)))) (h : n < length keys) where
  row_more : (r : ℕ) → r < n + 1 → IsRow s (set keys n at) r
  row_more r l = let u : r ≤ n = omega arith in elim (eq-or-lt_of_le u) [
    | inl z ↦ rw z (record { inside = rw length-set h; there = rw (get_or-set_same keys n at 0 h) t })
    | inr z ↦
        record {
          inside = rw length-set (p.row r z).inside;
          there = rw (get_or-set_other keys n r at 0 (λ w. absurd (omega arith))) (p.row r z).there;
        }
  ]

  pub rows_more : Rows s (set keys n at) (n + 1)
  rows_more = record { row = row_more }
