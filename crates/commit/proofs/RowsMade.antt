-- Rows that stand for views in buckets.
-- Assumes nothing.
use Prim.Native.Nat.{ℕ, ◌<◌}
use native.Mathlib.Omega.{arith}
use mathlib.Core.Path.{◌≡◌, refl, sym}
use mathlib.Core.List.{List, [], ◌∷◌, flat_map}
use lib.ListN.{length}
use Rattle.base.specs.Lists.{All, All-of}
use Rattle.base.specs.Rows.{Each}
use Rattle.records.specs.Form.{write_many}
use Rattle.records.specs.Values.{View}
use Rattle.records.specs.Layouts.{view}
use Rattle.incremental_progress.specs.Gaps.{Placed, placed}
use Rattle.commit_rows.specs.Numbers.{row_of}
use Rattle.commit_rows.specs.Bytes.{RowInside, row_bytes}
use Rattle.commit_rows.specs.declared.rows.Row.{Row}
use Rattle.commit_entries.specs.Planned.{RowIs}
use Rattle.commit_write.specs.Rows.{view_bytes}
use Rattle.commit_write.specs.Runs.{Bucketed}
use Rattle.commit_write.proofs.Placed.{RowFor}
use Rattle.commit.proofs.EachLaws.{each_all}

module _ (given job ids : List ℕ) where
  pub record RowMade (p : Placed View) (r : Row) : Type 0 where
    pub inside : RowInside given job ids r
    pub bytes : row_bytes given job ids r ≡ view.write p.item
    pub bucket : r.bucket ≡ p.gap

  pub row_made : (p : Placed View) (row : List ℕ) → RowIs given job ids p row → RowMade p (row_of row)
  row_made p row h = record { inside = h.inside; bytes = h.bytes; bucket = h.bucket }

  pub row_for : (p : Placed View) (r : Row) → RowMade p r → RowFor view.write given job ids p r
  row_for p r h = record { bucket_is = sym h.bucket; bytes_are = sym h.bytes }

  pub rows_inside : (ps : List (Placed View)) (rs : List Row) → Each RowMade ps rs → All (RowInside given job ids) rs
  rows_inside ps rs e = each_all RowMade (λ p. Unit {0}) (RowInside given job ids) (λ p r h u. h.inside) ps rs e (All-of (λ p. tt) ps)

  pub rows_bucketed : (ps : List (Placed View)) (rs : List Row) → Each RowMade ps rs → All (λ p. p.gap < 131) ps → Bucketed rs
  rows_bucketed ps rs e a = each_all RowMade (λ p. p.gap < 131) (λ r. r.bucket < 131) small ps rs e a
    where
      small : (p : Placed View) (r : Row) → RowMade p r → p.gap < 131 → r.bucket < 131
      small p r h k = omega (arith, h.bucket, k)

  -- their bytes are the views'
  pub rows_bytes : (bs : List ℕ) (vs : List View) (rs : List Row) → length bs ≡ length vs → Each RowMade (placed bs vs) rs → view_bytes given job ids rs ≡ write_many view.write vs
  unfolding placed write_many flat_map
  rows_bytes [] [] [] n e = refl
  rows_bytes [] [] (r ∷ rs) n e = absurd e
  rows_bytes [] (v ∷ vs) rs n e = absurd (omega arith)
  rows_bytes (b ∷ bs) [] rs n e = absurd (omega arith)
  rows_bytes (b ∷ bs) (v ∷ vs) [] n e = absurd e
  rows_bytes (b ∷ bs) (v ∷ vs) (r ∷ rs) n e = rw (e.0.bytes, rows_bytes bs vs rs (omega arith) e.1)
