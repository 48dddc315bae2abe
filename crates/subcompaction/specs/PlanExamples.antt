-- Plans and sampled anchors, computed; two plans are of document 01, "Edges to try". Letters are ASCII.
use Rattle.std.specs.Prelude.{ℕ, ◌≡◌, [], ◌∷◌}
use Rattle.key.specs.Order.{Key}
use Rattle.comparable_range.specs.Range.{Bound, unbounded, included, excluded, Range}
use Rattle.records.specs.Values.{Block, Index, Anchor, Anchors, Plan}
use Rattle.subcompaction.specs.Anchors.{sample_anchors}
use Rattle.subcompaction.specs.Boundaries.{select_boundaries}

abbrev a : Key
a = 97 ∷ []

abbrev b : Key
b = 98 ∷ []

abbrev c : Key
c = 99 ∷ []

abbrev d : Key
d = 100 ∷ []

abbrev e : Key
e = 101 ∷ []

abbrev anchor : Key → ℕ → Anchor
anchor k n = record { key = k; bytes = n }

abbrev block : Key → ℕ → Block
block k n = record { first = k; offset = n }

abbrev range : Bound → Bound → Range
range s t = record { start = s; end = t }

-- ---- plans
abbrev one_range : Plan
one_range = range unbounded unbounded ∷ []

abbrev split_at : Key → Plan
split_at k = range unbounded (excluded k) ∷ range (included k) unbounded ∷ []

abbrev abcd : Anchors
abcd = anchor a 10 ∷ anchor b 10 ∷ anchor c 10 ∷ anchor d 10 ∷ []

-- anchors a, b, c, d of 10 each, 2 parts, least 0; in another order too
pub record FourAnchorsTwoParts : Type 0 where
  pub in_order : select_boundaries 2 0 abcd ≡ split_at c
  pub in_another : select_boundaries 2 0 (anchor d 10 ∷ anchor b 10 ∷ anchor a 10 ∷ anchor c 10 ∷ []) ≡ split_at c

-- The same, 4 parts, least 40: the target is the total. With least 31 no key has as many bytes before it. A target that is
-- the total leaves one range too where the last key has all bytes before it.
pub record TooSmallToSplit : Type 0 where
  pub least_40 : select_boundaries 4 40 abcd ≡ one_range
  pub least_31 : select_boundaries 4 31 abcd ≡ one_range
  pub least_30 : select_boundaries 4 30 abcd ≡ split_at d
  pub all_before_lem : select_boundaries 2 10 (anchor a 10 ∷ anchor b 0 ∷ []) ≡ one_range

-- of equal keys the given order decides: total 50, target 25
pub record EqualKeysInBothOrders : Type 0 where
  pub larger_first : select_boundaries 2 0 (anchor a 5 ∷ anchor b 30 ∷ anchor b 10 ∷ anchor c 5 ∷ []) ≡ split_at b
  pub smaller_first : select_boundaries 2 0 (anchor a 5 ∷ anchor b 10 ∷ anchor b 30 ∷ anchor c 5 ∷ []) ≡ split_at c

abbrev pub AllAnchorsOnOneKey : Type 0
AllAnchorsOnOneKey = select_boundaries 4 0 (anchor b 10 ∷ anchor b 10 ∷ anchor b 10 ∷ anchor b 10 ∷ []) ≡ one_range

-- the smallest key is no boundary, nor is it once its own bytes were reached
pub record HeavySmallestKey : Type 0 where
  pub once : select_boundaries 2 0 (anchor a 100 ∷ anchor b 1 ∷ anchor c 1 ∷ []) ≡ split_at b
  pub again : select_boundaries 2 0 (anchor a 100 ∷ anchor a 1 ∷ anchor b 1 ∷ []) ≡ split_at b

-- bytes before a to e: 0, 10, 35, 45, 55; target 20. The second threshold is 40 and not 20 past the 35 that were reached.
abbrev pub ThresholdIsNotReset : Type 0
ThresholdIsNotReset =
    select_boundaries 3 0 (anchor a 10 ∷ anchor b 25 ∷ anchor c 10 ∷ anchor d 10 ∷ anchor e 5 ∷ [])
    ≡ range unbounded (excluded c) ∷ range (included c) (excluded d) ∷ range (included d) unbounded ∷ []

-- target 1: c reaches the second threshold, 2
abbrev pub NoMoreRangesThanParts : Type 0
NoMoreRangesThanParts = select_boundaries 2 0 (anchor a 1 ∷ anchor b 1 ∷ anchor c 1 ∷ []) ≡ split_at b

pub record NoPartsActAsOne : Type 0 where
  pub none : select_boundaries 0 0 abcd ≡ one_range
  pub one : select_boundaries 1 0 abcd ≡ one_range

pub record NothingToSplit : Type 0 where
  pub no_anchors_lem : select_boundaries 4 0 [] ≡ one_range
  pub no_bytes : select_boundaries 4 0 (anchor a 0 ∷ anchor b 0 ∷ []) ≡ one_range
  pub target_0 : select_boundaries 4 0 (anchor a 1 ∷ anchor b 1 ∷ anchor c 1 ∷ []) ≡ one_range

-- ---- sampled anchors
abbrev every_key : Range
every_key = range unbounded unbounded

abbrev five_blocks : Index
five_blocks = block a 0 ∷ block b 10 ∷ block c 20 ∷ block d 30 ∷ block e 40 ∷ []

-- a group has three blocks; the last group ends where the data end
abbrev pub FiveBlocksTwoAnchors : Type 0
FiveBlocksTwoAnchors = sample_anchors 2 100 five_blocks every_key ≡ anchor a 30 ∷ anchor d 70 ∷ []

abbrev pub FallingOffsetsHaveNoBytes : Type 0
FallingOffsetsHaveNoBytes =
    sample_anchors 4 10 (block a 50 ∷ block b 20 ∷ block c 20 ∷ block d 30 ∷ []) every_key
    ≡ anchor a 0 ∷ anchor b 0 ∷ anchor c 10 ∷ anchor d 0 ∷ []

-- an anchor is kept by its own key, with all bytes of its group
pub record HeldAnchorsAreKept : Type 0 where
  pub from_b_to_d : sample_anchors 5 100 five_blocks (range (included b) (excluded d)) ≡ anchor b 10 ∷ anchor c 10 ∷ []
  pub of_two_groups : sample_anchors 2 100 five_blocks (range (included b) unbounded) ≡ anchor d 70 ∷ []
  pub none : sample_anchors 2 100 five_blocks (range (included b) (excluded d)) ≡ []

pub record NoAnchorsActAsOne : Type 0 where
  pub none : sample_anchors 0 100 five_blocks every_key ≡ anchor a 100 ∷ []
  pub one : sample_anchors 1 100 five_blocks every_key ≡ anchor a 100 ∷ []

abbrev pub NoBlocksNoAnchors : Type 0
NoBlocksNoAnchors = sample_anchors 4096 100 [] every_key ≡ []
