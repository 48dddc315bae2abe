-- The rows of a table t by their numbers, and their bytes.
use Rattle.std.specs.Prelude.{ℕ, zero, suc, ◌+◌, ◌*◌, ◌≤◌, length}
use mathlib.Core.List.{List, [], ◌∷◌, map, flat_map}
use Rattle.base.specs.Lists.{All}
use Rattle.base.specs.Rows.{row_at}
use Rattle.comparable_range.specs.Range.{Range, of}
use Rattle.comparable_range.specs.declared.Side.{Side}
use Rattle.format.specs.Range.{bound_in}
use Rattle.commit_rows.specs.Numbers.{row_of}
use Rattle.commit_rows.specs.Bytes.{RowInside, row_bytes}
use Rattle.commit_rows.specs.declared.rows.Row.{Row}

-- row k
abbrev pub row_in : List ℕ → ℕ → Row
row_in t k = row_of (row_at 11 k t)

-- n numbers from a number on
unfoldable pub count_from : ℕ → ℕ → List ℕ
count_from k zero = []
count_from k (suc n) = k ∷ count_from (k + 1) n

-- the n rows from a row on
abbrev pub view_rows : ℕ → ℕ → List ℕ → List Row
view_rows from n t = map (row_in t) (count_from from n)

-- the bytes of rows, one after another
abbrev pub view_bytes : List ℕ → List ℕ → List ℕ → List Row → List ℕ
view_bytes image job ids rs = flat_map (row_bytes image job ids) rs

-- row k is there, and its fields stand within the inputs
pub record RowThere (image job ids t : List ℕ) (k : ℕ) : Type 0 where
  pub long : k * 11 + 11 ≤ length t
  pub inside : RowInside image job ids (row_in t k)

-- the same of n rows from a row on
abbrev pub RowsThere : List ℕ → List ℕ → List ℕ → List ℕ → ℕ → ℕ → Type 0
RowsThere image job ids t from n = All (RowThere image job ids t) (count_from from n)

-- the bytes of the rows with the numbers ks
abbrev pub numbered_bytes : List ℕ → List ℕ → List ℕ → List ℕ → List ℕ → List ℕ
numbered_bytes image job ids t ks = flat_map (λ k. row_bytes image job ids (row_in t k)) ks

-- the range of a row, each bound out of the image (first) or out of the job (second)
abbrev pub sided_range : Side → Side → List ℕ → List ℕ → Row → Range
sided_range a b image job r = record { start = bound_in (of a image job) r.start; end = bound_in (of b image job) r.end }
