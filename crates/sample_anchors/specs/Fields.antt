-- How long anchors are that stand in tables.
use Rattle.std.specs.Prelude.{ℕ, ◌+◌, List, [], ◌∷◌, map, length}
use Rattle.key.specs.Order.{Key}
use Rattle.key_rows.specs.Rows.{key_at, count_from}

-- how long the fields of n rows are, beside a count: each key, its length and eight bytes
unfoldable pub fields_of : List Key → ℕ
fields_of [] = 0
fields_of (k ∷ ks) = length k + 10 + fields_of ks

abbrev pub fields_in : List ℕ → List ℕ → ℕ → ℕ
fields_in s keys n = fields_of (map (key_at s keys) (count_from 0 n))
