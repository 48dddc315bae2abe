-- What joins the public calls to the laws on ranges. The proofs are in proofs/Answered.antt and proofs/PointPlace.antt.
use Rattle.std.specs.Prelude.{ℕ, zero, suc, ◌+◌, ◌≤◌, ◌≡◌, true, List, [], ◌∷◌, length, take, drop}
use Rattle.std.proofs.Math.Option.{Option, some, map}
use Rattle.base.specs.Bytes.{Bytes}
use Rattle.base.specs.Outcome.{answer, reported}
use Rattle.base.specs.declared.Written.TheVariants.{Wrote, Stop}
use Rattle.key.specs.Order.{Key}
use Rattle.comparable_range.specs.Range.{Range, intersect_sides, union_sides, intersect, union}
use Rattle.format.specs.Range.{read_range, write_range}
use Rattle.format.specs.Whole.{whole}
use Rattle.format.specs.Joint.{Joint, range}
use Rattle.bytes_range.specs.Prefix.{from_prefix, from_prefix_and_subrange}
use Rattle.bytes_range.specs.Writing.{range_joins}
use Rattle.bilqarush.specs.Calls.{as_point_outcome, Pair, joint, from_prefix_outcome, from_prefix_and_subrange_outcome}

-- an answered range without its suppliers
abbrev pub bare : Option Joint → Option Range
bare o = map range o

-- what `intersect` answers is the intersection, and what `union` answers the union
abbrev pub IntersectAnswersTheIntersection : Type 0
IntersectAnswersTheIntersection =
    (p : Pair)
    → bare (joint p (intersect_sides p.first p.second)) ≡ intersect p.first p.second

abbrev pub UnionAnswersTheUnion : Type 0
UnionAnswersTheUnion = (p : Pair) → bare (joint p (union_sides p.first p.second)) ≡ union p.first p.second

-- the key of a point stands where `as_point` says: behind the head byte and the 2 bytes of its length
abbrev pub PointIsThere : Type 0
PointIsThere =
    (l : List ℕ) (k : Key)
    → Bytes l
    → as_point_outcome l ≡ answer (some k)
    → (3 + length k ≤ length l) × (take (length k) (drop 3 l) ≡ k)

-- what the calls on prefixes write is a range image that every call reads back
abbrev pub WrittenPrefixReadsBack : Type 0
WrittenPrefixReadsBack = (p : Key) → length p ≤ 1024 → whole read_range (write_range (from_prefix p)) ≡ answer (from_prefix p)

abbrev pub WrittenSubrangeReadsBack : Type 0
WrittenSubrangeReadsBack =
    (p : Key) (r : Range)
    → length p ≤ 1024
    → range_joins p r ≡ true
    → whole read_range (write_range (from_prefix_and_subrange p r)) ≡ answer (from_prefix_and_subrange p r)

-- It is at most 2,053 bytes: the head byte, and two keys of 1,024 bytes with their lengths.
abbrev pub WrittenPrefixIsShort : Type 0
WrittenPrefixIsShort = (prefix : List ℕ) (room : ℕ) (b : List ℕ) → from_prefix_outcome prefix room ≡ answer b → length b ≤ 2053

abbrev pub WrittenSubrangeIsShort : Type 0
WrittenSubrangeIsShort =
    (prefix subrange : List ℕ) (room : ℕ) (b : List ℕ) → from_prefix_and_subrange_outcome prefix subrange room ≡ answer b → length b ≤ 2053

-- A prefix of 1,024 letters a takes that many: alone, and with the unbounded subrange.
abbrev pub letters : ℕ → List ℕ
letters zero = []
letters (suc n) = 97 ∷ letters n

pub record LongestIsWritten : Type 0 where
  pub prefix : reported (from_prefix_outcome (letters 1024) 2053) ≡ Wrote 2053
  pub prefix_short : reported (from_prefix_outcome (letters 1024) 2052) ≡ Stop 16
  pub subrange : reported (from_prefix_and_subrange_outcome (letters 1024) (0 ∷ []) 2053) ≡ Wrote 2053
