-- The promises on lookups among partitions. Their proofs are in proofs/.
use Rattle.std.specs.Prelude.{ℕ, ◌≤◌, ◌<◌, ◌^◌, ◌≡◌, Bool, true, false, ◌&&◌, List, [], ◌∷◌, length, get_or, drop, leb, ltb}
use Rattle.std.proofs.Math.Option.{Option, none, some}
use Rattle.key.specs.Order.{Key, key_at_most}
use Rattle.comparable_range.specs.Range.{included, Range, holds}
use Rattle.records.specs.Values.{Index}
use Rattle.manifest.specs.Checks.{index_checks}
use Rattle.partitioned_keyspace.specs.Partitions.{Places, first_keys, ascends, passes_test, partition_point, first_partition_including_key, first_partition_including_or_after_key, last_partition_including_key, partitions_covering_key, partitions_covering_bounds, partitions_covering_range}
use Rattle.partitioned_keyspace.specs.Halving.{by_halving}
use Rattle.partitioned_keyspace.specs.declared.Test.{Test}

-- check 6 asks of an index that its first keys do not descend
abbrev pub AcceptedFirstKeysAscend : Type 0
AcceptedFirstKeysAscend = (x : Index) → (index_checks x).order ≡ ascends (first_keys x)

-- ---- the partition point
-- the first n first keys satisfy a test, and the next, if there is one, does not
pub record Leading (pred : Key → Bool) (ks : List Key) (n : ℕ) : Type 0 where
  pub within : n ≤ length ks
  pub satisfy : (i : ℕ) → i < n → pred (get_or ks i []) ≡ true
  pub next : n < length ks → pred (get_or ks n []) ≡ false

abbrev pub PartitionPointIsTheLeadingCount : Type 0
PartitionPointIsTheLeadingCount = (pred : Key → Bool) (ks : List Key) → Leading pred ks (partition_point pred ks)

-- The Rust's loop finds it where the first keys do not descend: n partitions take t turns at most where n < 2^t.
abbrev pub HalvingFindsThePartitionPoint : Type 0
HalvingFindsThePartitionPoint =
    (test : Test) (key : Key) (ks : List Key) (turns : ℕ)
    → ascends ks ≡ true
    → length ks < 2 ^ turns
    → by_halving (passes_test test key) ks turns ≡ some (partition_point (passes_test test key) ks)

-- ---- no partitions: none, 0 and 0..0, where the Rust reads key 0 in some lookups
pub record WithNoPartitions : Type 0 where
  pub point : (pred : Key → Bool) → partition_point pred [] ≡ 0
  pub first : (k : Key) → first_partition_including_key [] k ≡ none
  pub or_after : (k : Key) → first_partition_including_or_after_key [] k ≡ 0
  pub last : (k : Key) → last_partition_including_key [] k ≡ none
  pub covering : (r : Range) → partitions_covering_range [] r ≡ record { start = 0; end = 0 }

-- ---- the partitions that may hold a key
-- of the partitions from one on, the first may hold x: its first key is not above x, and the next first key, if there is
-- one, is not below x
abbrev pub first_may_hold : List Key → Key → Bool
first_may_hold [] x = false
first_may_hold (k ∷ []) x = key_at_most k x
first_may_hold (k ∷ (l ∷ ks)) x = key_at_most k x && key_at_most x l

abbrev pub may_hold : List Key → ℕ → Key → Bool
may_hold ks p x = first_may_hold (drop p ks) x

-- from one partition to another, both included, if both are found
abbrev pub is_from_to : Option ℕ → Option ℕ → ℕ → Bool
is_from_to none l p = false
is_from_to (some f) none p = false
is_from_to (some f) (some l) p = leb f p && leb p l

-- the partitions that may hold a key are those from the first that includes it to the last
abbrev pub HoldersAreFromFirstToLast : Type 0
HoldersAreFromFirstToLast =
    (ks : List Key) (x : Key) (p : ℕ)
    → ascends ks ≡ true
    → may_hold ks p x ≡ is_from_to (first_partition_including_key ks x) (last_partition_including_key ks x) p

abbrev pub is_none : Option ℕ → Bool
is_none none = true
is_none (some p) = false

-- where one of the two answers none, so does the other ..
abbrev pub FirstAndLastAreNoneTogether : Type 0
FirstAndLastAreNoneTogether =
    (ks : List Key) (x : Key) → is_none (first_partition_including_key ks x) ≡ is_none (last_partition_including_key ks x)

-- .. and no partition may hold the key
abbrev pub NoneMeansNoHolder : Type 0
NoneMeansNoHolder =
    (ks : List Key) (x : Key) (p : ℕ) → ascends ks ≡ true → first_partition_including_key ks x ≡ none → may_hold ks p x ≡ false

-- ---- coverings
abbrev pub is_among : Places → ℕ → Bool
is_among c p = leb c.start p && ltb p c.end

-- every partition that may hold a key of a range is in the range's covering
abbrev pub CoveringHasEveryHolder : Type 0
CoveringHasEveryHolder =
    (ks : List Key) (r : Range) (x : Key) (p : ℕ)
    → ascends ks ≡ true
    → holds r x ≡ true
    → may_hold ks p x ≡ true
    → is_among (partitions_covering_range ks r) p ≡ true

-- a point's covering has no others
abbrev pub PointIsCoveredByItsHolders : Type 0
PointIsCoveredByItsHolders =
    (ks : List Key) (k : Key) (p : ℕ)
    → ascends ks ≡ true
    → is_among (partitions_covering_range ks (record { start = included k; end = included k })) p ≡ may_hold ks p k

-- one lookup of a point finds what the two lookups of its bounds find
abbrev pub PointIsCoveredEitherWay : Type 0
PointIsCoveredEitherWay =
    (ks : List Key) (k : Key) → ascends ks ≡ true → partitions_covering_key ks k ≡ partitions_covering_bounds ks (included k) (included k)
