-- The anchors of a table, as `sample_anchors` has them: its blocks in groups, each with its first key and its bytes.
use Rattle.std.specs.Prelude.{ℕ, zero, suc, ◌+◌, ◌-◌, ◌/◌, max, List, [], ◌∷◌, length, drop}
use Rattle.base.specs.Pick.{pick}
use Rattle.comparable_range.specs.Range.{Range, holds}
use Rattle.records.specs.Values.{Block, Index, Anchor, Anchors}

-- how many blocks a group has, for at most that many groups; "0 acts as 1"
unfoldable pub stride : ℕ → ℕ → ℕ
stride most blocks = (blocks + (max 1 most - 1)) / max 1 most

-- where what comes after some blocks begins: with the next block, or where the data end
abbrev pub beginning : ℕ → Index → ℕ
beginning data_end [] = data_end
beginning data_end (b ∷ bs) = b.offset

-- Groups of n blocks, after the rest of the group before. A group has the bytes from its first block's offset to where what
-- comes after it begins; none if offsets fall.
unfoldable pub groups : ℕ → ℕ → ℕ → Index → Anchors
groups data_end n rest [] = []
groups data_end n (suc rest) (b ∷ bs) = groups data_end n rest bs
groups data_end n zero (b ∷ bs) =
    record { key = b.first; bytes = beginning data_end (drop (n - 1) bs) - b.offset } ∷ groups data_end n (n - 1) bs

-- those whose key a range holds
unfoldable pub held_by : Range → Anchors → Anchors
held_by r [] = []
held_by r (a ∷ as') = pick (holds r a.key) (a ∷ held_by r as') (held_by r as')

unfoldable pub sample_anchors : ℕ → ℕ → Index → Range → Anchors
sample_anchors most data_end x r = held_by r (groups data_end (stride most (length x)) 0 x)
