-- Check 6 of an index and check 7 of anchors, on bytes.
use Rattle.std.specs.Prelude.{ℕ, ◌^◌, ◌-◌, ◌≡◌, List, [], ◌∷◌, ◌++◌}
use Rattle.base.specs.Outcome.{Outcome, stop, answer, and_then}
use Rattle.format.specs.Whole.{whole}
use Rattle.records.specs.Values.{Index, Anchors}
use Rattle.records.specs.Layouts.{index, anchors}
use Rattle.manifest.specs.Checks.{checked, index_checks, anchors_checks}

-- the index image, and the anchors, that are the whole of a buffer
abbrev pub index_given : List ℕ → Outcome Index
index_given l = and_then (whole index.read l) (λ x. checked (index_checks x) (answer x))

abbrev pub anchors_given : List ℕ → Outcome Anchors
anchors_given l = and_then (whole anchors.read l) (λ a. checked (anchors_checks a) (answer a))

-- two blocks, at 5 and at 0, with first keys of one byte
abbrev blocks : ℕ → ℕ → List ℕ
blocks first second =
    0 ∷ 2 ∷ 0 ∷ 0 ∷ 0 ∷ 0 ∷ 0 ∷ 0 ∷ 0 ∷ 5 ∷ 0 ∷ 1 ∷ first ∷ 0 ∷ 0 ∷ 0 ∷ 0 ∷ 0 ∷ 0 ∷ 0 ∷ 0 ∷ 0 ∷ 1 ∷ second ∷ []

abbrev the_index : ℕ → ℕ → Index
the_index first second = record { offset = 5; first = first ∷ [] } ∷ record { offset = 0; first = second ∷ [] } ∷ []

-- first keys b, a descend; a, b and b, b do not, whatever the offsets
pub record FirstKeysAscend : Type 0 where
  pub descending : index_given (blocks 98 97) ≡ stop 6
  pub ascending : index_given (blocks 97 98) ≡ answer (the_index 97 98)
  pub equal : index_given (blocks 98 98) ≡ answer (the_index 98 98)

-- anchors b and a, of so many bytes each
abbrev two_anchors : List ℕ → List ℕ → List ℕ
two_anchors first second = 0 ∷ 2 ∷ 0 ∷ 1 ∷ 98 ∷ first ++ (0 ∷ 1 ∷ 97 ∷ second)

-- 2^63 - 1, 2^63 - 2, 1, 2^64 - 1
abbrev most : List ℕ
most = 127 ∷ 255 ∷ 255 ∷ 255 ∷ 255 ∷ 255 ∷ 255 ∷ 255 ∷ []

abbrev one_less : List ℕ
one_less = 127 ∷ 255 ∷ 255 ∷ 255 ∷ 255 ∷ 255 ∷ 255 ∷ 254 ∷ []

abbrev one : List ℕ
one = 0 ∷ 0 ∷ 0 ∷ 0 ∷ 0 ∷ 0 ∷ 0 ∷ 1 ∷ []

abbrev all_ones : List ℕ
all_ones = 255 ∷ 255 ∷ 255 ∷ 255 ∷ 255 ∷ 255 ∷ 255 ∷ 255 ∷ []

-- a total of 2^63 - 1 passes, 2^63 does not, and 2^64, which 64 bits would hold as 0, does not
pub record AnchorTotals : Type 0 where
  pub below :
      anchors_given (two_anchors one_less one)
      ≡ answer (record { key = 98 ∷ []; bytes = 2 ^ 63 - 2 } ∷ record { key = 97 ∷ []; bytes = 1 } ∷ [])
  pub reached : anchors_given (two_anchors most one) ≡ stop 7
  pub past : anchors_given (two_anchors all_ones one) ≡ stop 7
