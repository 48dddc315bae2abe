-- What the code's answers say of a group of blocks, of a row more, and of what is sampled.
use Rattle.std.specs.Prelude.{ℕ, ◌+◌, ◌-◌, ◌^◌, ◌<◌, ◌≤◌, ◌≡◌, Bool, List, ◌∷◌, length, drop, set, T}
use Rattle.base.specs.Pick.{pick}
use Rattle.comparable_range.specs.Range.{holds}
use Rattle.format.specs.Got.{got, is_got}
use Rattle.format.specs.Key.{read_key}
use Rattle.format.specs.Range.{range_in}
use Rattle.format.specs.declared.span.RangeSpan.{RangeSpan}
use Rattle.records.specs.Form.{read_many}
use Rattle.records.specs.Found.{values_of}
use Rattle.records.specs.Values.{Block, Index, Anchors}
use Rattle.records.specs.Layouts.{block}
use Rattle.manifest.specs.Faults.{least}
use Rattle.key_rows.specs.Rows.{key_there}
use Rattle.subcompaction.specs.Anchors.{beginning, sample_anchors}
use Rattle.subcompaction.specs.Tables.{index_there}
use Rattle.sampled.specs.declared.GroupSpan.{GroupSpan}
use Rattle.sampled.specs.declared.Kept.{Kept}
use Rattle.sampled.specs.declared.Sampling.{Sampling}

-- the group of n blocks at the front of those that are left at a place; after it, the others are
pub record GroupThere (s : List ℕ) (at left n data_end : ℕ) (r : GroupSpan) : Type 0 where
  pub first : Block
  pub others : Index
  pub rest : List ℕ
  pub values : values_of (read_many block.read left (drop at s)) ≡ first ∷ others
  pub there : T (is_got (read_key (drop r.key s)))
  pub key : key_there s r.key ≡ first.first
  pub bytes : r.bytes ≡ beginning data_end (drop n (first ∷ others)) - first.offset
  pub after : read_many block.read r.left (drop r.past s) ≡ got (drop n (first ∷ others)) rest
  pub fewer : r.left < left
  pub further : at + 10 ≤ r.past
  pub inside : r.past ≤ length s

-- with a row of so many bytes more
abbrev pub row_added : ℕ → Kept → Kept
row_added size k = record { rows = k.rows + 1; total = least (k.total + size) (2 ^ 63) }

-- whether a range that stands within holds the key at a place of s
abbrev pub held_there : List ℕ → ℕ → List ℕ → RangeSpan → Bool
held_there s at within range = holds (range_in within range.start range.end) (key_there s at)

-- the tables and the count after a group whose row is added if a test passes
pub record RowIf (t : Bool) (g : GroupSpan) (k : Kept) (keys bytes : List ℕ) (k' : Kept) (keys' bytes' : List ℕ) : Type 0 where
  pub kept : k' ≡ pick t (row_added g.bytes k) k
  pub keys_are : keys' ≡ pick t (set keys k.rows g.key) keys
  pub bytes_are : bytes' ≡ pick t (set bytes k.rows g.bytes) bytes

-- the anchors that are asked for, of an index and by a range that stand in s and within
abbrev pub sampled_there : List ℕ → Sampling → List ℕ → RangeSpan → Anchors
sampled_there s ask within range = sample_anchors ask.most ask.data_end (index_there s ask.at) (range_in within range.start range.end)
