-- The anchors of tables with one row more.
-- Assumes nothing.
use Prim.Native.Nat.{ℕ, zero, suc, ◌+◌, ◌<◌, ◌≤◌}
use native.Mathlib.Omega.{arith}
use mathlib.Core.Path.{◌≡◌, refl}
use mathlib.Core.List.{List, [], ◌∷◌, ◌++◌, map, map-append}
use lib.ListN.{length, set}
use lib.Seq.{get_or-set_same, get_or-set_other}
use Rattle.key_rows.specs.Rows.{key_there, count_from}
use Rattle.key_rows.proofs.RowLaws.{count_more}
use Rattle.subcompaction.specs.Tables.{anchor_at, anchors_in}

-- no row is an anchor yet
pub anchors_none : (s keys bytes : List ℕ) → anchors_in s keys bytes 0 ≡ []
unfolding anchors_in count_from
anchors_none s keys bytes = refl

module _ (s keys bytes : List ℕ) (n at v : ℕ) where
  rows_kept : (i m : ℕ) → i + m ≤ n → map (anchor_at s (set keys n at) (set bytes n v)) (count_from i m) ≡ map (anchor_at s keys bytes) (count_from i m)
  unfolding count_from
  rows_kept i zero h = refl
  rows_kept i (suc m) h =
      rw (get_or-set_other keys n i at 0 (λ w. absurd (omega arith)), get_or-set_other bytes n i v 0 (λ w. absurd (omega arith)), rows_kept (i + 1) m (omega arith))

  pub anchors_more : n < length keys → n < length bytes → anchors_in s (set keys n at) (set bytes n v) (n + 1) ≡ anchors_in s keys bytes n ++ (record { key = key_there s at; bytes = v } ∷ [])
  unfolding anchors_in
  anchors_more h k =
      rw (count_more n, map-append, rows_kept 0 n (omega arith), get_or-set_same keys n at 0 h, get_or-set_same bytes n v 0 k)
