-- The lookups of partitioned_keyspace.rs, each over the first keys of the partitions, in order.
use Rattle.std.specs.Prelude.{ℕ, zero, suc, ◌+◌, ◌-◌, Bool, false, List, [], ◌∷◌, map, length}
use Rattle.std.proofs.Math.Option.{Option, none, some}
use Rattle.base.specs.Pick.{pick}
use Rattle.key.specs.Order.{Key, cmp_key, is_equal, key_at_most, key_below}
use Rattle.comparable_range.specs.Range.{Bound, unbounded, included, excluded, Range}
use Rattle.records.specs.Values.{Index}
use Rattle.manifest.specs.Checks.{ascend}
use Rattle.partitioned_keyspace.specs.declared.Test.{Test}
use Rattle.partitioned_keyspace.specs.declared.Test.TheVariants.{Below, AtOrBelow}

-- the partitions from one place up to, without, another
pub record Places : Type 0 where
  pub start : ℕ
  pub end : ℕ

-- each block of an index is a partition
abbrev pub first_keys : Index → List Key
first_keys x = map (λ b. b.first) x

-- the first keys do not descend
abbrev pub ascends : List Key → Bool
ascends ks = ascend (map (λ k. included k) ks)

abbrev pub key_equal : Key → Key → Bool
key_equal a b = is_equal (cmp_key a b)

-- ---- partition_point
-- the tests: a first key is below a key, or at or below it
abbrev pub passes_test : Test → Key → Key → Bool
passes_test Below key first = key_below first key
passes_test AtOrBelow key first = key_at_most first key

-- how many first keys, from the first on, satisfy the test
unfoldable pub partition_point : (Key → Bool) → List Key → ℕ
partition_point pred [] = 0
partition_point pred (k ∷ ks) = pick (pred k) (suc (partition_point pred ks)) 0

-- ---- the lookups of a key
-- whether the partition at a place starts with a key; where there is no partition, none does
unfoldable pub starts_with : List Key → ℕ → Key → Bool
starts_with [] p key = false
starts_with (k ∷ ks) zero key = key_equal k key
starts_with (k ∷ ks) (suc p) key = starts_with ks p key

-- the partition before the partition point; at 0, the first if it starts with the key
abbrev pub first_before : List Key → Key → ℕ → Option ℕ
first_before ks key zero = pick (starts_with ks 0 key) (some 0) none
first_before ks key (suc p) = some p

unfoldable pub first_partition_including_key : List Key → Key → Option ℕ
first_partition_including_key ks key = first_before ks key (partition_point (passes_test Below key) ks)

-- the Rust's `unwrap_or`
abbrev pub unwrap_or : ℕ → Option ℕ → ℕ
unwrap_or d none = d
unwrap_or d (some p) = p

unfoldable pub first_partition_including_or_after_key : List Key → Key → ℕ
first_partition_including_or_after_key ks key = unwrap_or 0 (first_partition_including_key ks key)

abbrev pub last_before : ℕ → Option ℕ
last_before zero = none
last_before (suc p) = some p

unfoldable pub last_partition_including_key : List Key → Key → Option ℕ
last_partition_including_key ks key = last_before (partition_point (passes_test AtOrBelow key) ks)

-- ---- partitions_covering_range
-- back from a place over the partitions that start with the key
unfoldable pub step_back : List Key → Key → ℕ → ℕ
step_back ks key zero = zero
step_back ks key (suc p) = pick (starts_with ks p key) (step_back ks key p) (suc p)

-- the partition before the first that starts with the key may still end with it
abbrev pub places_before : List Key → Key → ℕ → Places
places_before ks key end = record { start = step_back ks key end - 1; end = end }

unfoldable pub partitions_covering_key : List Key → Key → Places
partitions_covering_key ks key = places_before ks key (partition_point (passes_test AtOrBelow key) ks)

abbrev pub start_place : List Key → Bound → ℕ
start_place ks unbounded = 0
start_place ks (included k) = first_partition_including_or_after_key ks k
start_place ks (excluded k) = first_partition_including_or_after_key ks k

-- past the last partition that includes the end key, or where the covering starts if there is none
abbrev pub past_included : ℕ → Option ℕ → ℕ
past_included start none = start
past_included start (some p) = p + 1

-- a partition that starts with an excluded end key is left out
abbrev pub past_excluded : List Key → Key → ℕ → Option ℕ → ℕ
past_excluded ks k start none = start
past_excluded ks k start (some p) = pick (starts_with ks p k) p (p + 1)

abbrev pub end_place : List Key → ℕ → Bound → ℕ
end_place ks start unbounded = length ks
end_place ks start (included k) = past_included start (last_partition_including_key ks k)
end_place ks start (excluded k) = past_excluded ks k start (last_partition_including_key ks k)

unfoldable pub partitions_covering_bounds : List Key → Bound → Bound → Places
partitions_covering_bounds ks s e = record { start = start_place ks s; end = end_place ks (start_place ks s) e }

-- a point is looked up once
abbrev pub covering : List Key → Bound → Bound → Places
covering ks unbounded e = partitions_covering_bounds ks unbounded e
covering ks (included s) unbounded = partitions_covering_bounds ks (included s) unbounded
covering ks (included s) (included e) =
    pick (key_equal s e) (partitions_covering_key ks s) (partitions_covering_bounds ks (included s) (included e))
covering ks (included s) (excluded e) = partitions_covering_bounds ks (included s) (excluded e)
covering ks (excluded s) e = partitions_covering_bounds ks (excluded s) e

unfoldable pub partitions_covering_range : List Key → Range → Places
partitions_covering_range ks r = covering ks r.start r.end
