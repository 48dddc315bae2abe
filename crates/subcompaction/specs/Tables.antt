-- What the code's tables say: a row has the place of an anchor's key in the bytes s, and the anchor's bytes.
use Rattle.std.specs.Prelude.{ℕ, min, ◌≡◌, List, ◌++◌, map, length, get_or, take, drop}
use Rattle.records.specs.Found.{values_of}
use Rattle.records.specs.Values.{Index, Anchor, Anchors}
use Rattle.records.specs.Layouts.{index}
use Rattle.key_rows.specs.Rows.{key_at, Rows, count_from}

abbrev pub anchor_at : List ℕ → List ℕ → List ℕ → ℕ → Anchor
anchor_at s keys bytes r = record { key = key_at s keys r; bytes = get_or bytes r 0 }

-- the anchors of the first n rows
unfoldable pub anchors_in : List ℕ → List ℕ → List ℕ → ℕ → Anchors
anchors_in s keys bytes n = map (anchor_at s keys bytes) (count_from 0 n)

-- n anchors were found, and the tables hold as many of them as they have rows for
pub record Held (s keys bytes : List ℕ) (n : ℕ) (as' : Anchors) : Type 0 where
  pub count : n ≡ length as'
  pub wide : length bytes ≡ length keys
  pub rows : anchors_in s keys bytes (min n (length keys)) ≡ take (length keys) as'
  pub there : Rows s keys (min n (length keys))

-- what held some anchors holds more after them
abbrev pub HeldThen : List ℕ → List ℕ → List ℕ → ℕ → List ℕ → List ℕ → ℕ → Anchors → Type 0
HeldThen s keys bytes n keys' bytes' n' more = (as' : Anchors) → Held s keys bytes n as' → Held s keys' bytes' n' (as' ++ more)

-- the index at a place
abbrev pub index_there : List ℕ → ℕ → Index
index_there s at = values_of (index.read (drop at s))
