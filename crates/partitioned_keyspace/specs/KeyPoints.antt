-- The two numbers that the code finds for a key in one pass over the first keys, and each lookup reckoned from them alone.
use Rattle.std.specs.Prelude.{ℕ, ◌+◌, ◌-◌, ◌≡◌, Bool, true, false, ◌&&◌, List, length, ltb}
use Rattle.std.proofs.Math.Option.{Option, none, some}
use Rattle.base.specs.Pick.{pick}
use Rattle.base.specs.Outcome.{Outcome, stop, answer, and_then}
use Rattle.key.specs.Order.{Key, cmp_key, key_at_most, key_below}
use Rattle.std.specs.declared.cmp.Ordering.{Ordering}
use Rattle.std.specs.declared.cmp.Ordering.TheVariants.{Less, Equal, Greater}
use Rattle.comparable_range.specs.declared.Kind.{Kind}
use Rattle.comparable_range.specs.declared.Kind.TheVariants.{Unbounded, Included, Excluded}
use Rattle.format.specs.declared.range.BoundSpan.{BoundSpan}
use Rattle.records.specs.Values.{Index}
use Rattle.partitioned_keyspace.specs.Partitions.{Places, first_keys, ascends, key_equal, passes_test, partition_point}
use Rattle.partitioned_keyspace.specs.declared.Test.{Test}
use Rattle.partitioned_keyspace.specs.declared.Test.TheVariants.{Below, AtOrBelow}
use Rattle.partitioned_keyspace.specs.declared.point.KeyPoint.{KeyPoint}
use Rattle.partitioned_keyspace.specs.declared.point.Pointed.{Pointed}
use Rattle.partitioned_keyspace.specs.declared.point.Pointed.TheVariants.{At as PointAt, Stop as PointStop}
use Rattle.partitioned_keyspace.specs.declared.blocks.IndexPoints.{IndexPoints}
use Rattle.partitioned_keyspace.specs.declared.blocks.Reading.{Reading}
use Rattle.partitioned_keyspace.specs.declared.blocks.Reading.TheVariants.{At, Stop}

-- ---- one pass
-- the partition points of both tests
abbrev pub point_of : List Key → Key → KeyPoint
point_of ks x =
    record { below = partition_point (passes_test Below x) ks; at_most = partition_point (passes_test AtOrBelow x) ks }

-- with one more first key, by its order to the key, where all that were seen before are at or below it
abbrev pub grown_by : KeyPoint → ℕ → Ordering → KeyPoint
grown_by p seen Less = record { below = pick (ltb p.below seen) p.below (seen + 1); at_most = seen + 1 }
grown_by p seen Equal = record { below = p.below; at_most = seen + 1 }
grown_by p seen Greater = p

-- .. or where one was above it
unfoldable pub with_first : KeyPoint → ℕ → Key → Key → KeyPoint
with_first p seen first x = pick (ltb p.at_most seen) p (grown_by p seen (cmp_key first x))

-- its order to the key as far as it counts
abbrev pub led_order : KeyPoint → ℕ → Key → Key → Ordering
led_order p seen first x = pick (ltb p.at_most seen) Greater (cmp_key first x)

-- a flag that is set only if a first key is below a key
pub record KnownBelow (flag : Bool) (first x : Key) : Type 0 where
  pub tells : flag ≡ true → key_below first x ≡ true

-- one more first key, after another, in what the pass has found
unfoldable pub with_block : IndexPoints → Key → Key → Key → Key → IndexPoints
with_block x before first s e =
    record {
      partitions = x.partitions + 1;
      start = with_first x.start x.partitions first s;
      end = with_first x.end x.partitions first e;
      ascends = x.ascends && key_at_most before first;
    }

-- before the first block
abbrev pub nothing_seen : IndexPoints
nothing_seen =
    record { partitions = 0; start = record { below = 0; at_most = 0 }; end = record { below = 0; at_most = 0 }; ascends = true }

-- a key that stands at a place
abbrev pub key_span : ℕ → ℕ → BoundSpan
key_span at len = record { kind = Included; at = at; len = len }

-- what the pass finds for two keys
abbrev pub index_points : Key → Key → List Key → IndexPoints
index_points s e ks = record { partitions = length ks; start = point_of ks s; end = point_of ks e; ascends = ascends ks }

abbrev pub points_in : Key → Key → Outcome Index → Outcome IndexPoints
points_in s e o = and_then o (λ x. answer (index_points s e (first_keys x)))

abbrev pub reading_of : Reading → Outcome IndexPoints
reading_of (At x) = answer x
reading_of (Stop n) = stop n

abbrev pub pointed_of : Pointed → Outcome KeyPoint
pointed_of (PointAt p) = answer p
pointed_of (PointStop n) = stop n

-- ---- the lookups
abbrev pub count_for : Test → KeyPoint → ℕ
count_for Below p = p.below
count_for AtOrBelow p = p.at_most

abbrev pub first_of : KeyPoint → Option ℕ
first_of p = pick (ltb 0 p.below) (some (p.below - 1)) (pick (ltb 0 p.at_most) (some 0) none)

abbrev pub or_after_of : KeyPoint → ℕ
or_after_of p = p.below - 1

abbrev pub last_of : KeyPoint → Option ℕ
last_of p = pick (ltb 0 p.at_most) (some (p.at_most - 1)) none

abbrev pub start_of : Kind → KeyPoint → ℕ
start_of Unbounded p = 0
start_of Included p = or_after_of p
start_of Excluded p = or_after_of p

-- first keys that equal the key stand from the one number to the other
abbrev pub up_to_excluded : KeyPoint → ℕ
up_to_excluded p = pick (ltb p.below p.at_most) (p.at_most - 1) p.at_most

abbrev pub end_of : Kind → ℕ → ℕ → KeyPoint → ℕ
end_of Unbounded start partitions p = partitions
end_of Included start partitions p = pick (ltb 0 p.at_most) p.at_most start
end_of Excluded start partitions p = pick (ltb 0 p.at_most) (up_to_excluded p) start

-- of a range that is a point, or of its two bounds
abbrev pub covering_of : Bool → Kind → Kind → IndexPoints → Places
covering_of true ks ke x = record { start = or_after_of x.start; end = x.start.at_most }
covering_of false ks ke x =
    record { start = start_of ks x.start; end = end_of ke (start_of ks x.start) x.partitions x.end }

-- two included bounds of equal keys
abbrev pub is_point : Kind → Key → Kind → Key → Bool
is_point Unbounded s ke e = false
is_point Included s Unbounded e = false
is_point Included s Included e = key_equal s e
is_point Included s Excluded e = false
is_point Excluded s ke e = false

-- the end whose key is looked up: of a point no byte of it, since its start's key is the same
abbrev pub looked_up : Bool → BoundSpan → BoundSpan
looked_up t b = pick t (record { kind = Included; at = b.at; len = 0 }) b
