-- Each lookup is what its key's two numbers give: one before a point is the partition sought, and where first keys do not
-- descend, those equal to the key stand from the one point to the other, so that the step back over them ends at the first.
-- Assumes nothing.
use Prim.Native.Nat.{ℕ, zero, suc, ◌-◌, ◌≤◌, ◌<◌}
use native.Mathlib.Omega.{arith}
use native.Mathlib.Numerals.{add-one}
use native.Mathlib.Nat.{le_refl}
use mathlib.Core.Path.{◌≡◌, refl, sym, ap, ◌∙◌}
use mathlib.Core.Bool.{Bool, true, false, and-true}
use mathlib.Core.Option.{Option, none, some}
use mathlib.Core.List.{List, [], ◌∷◌}
use lib.ListN.{length}
use lib.Dec.{leb, ltb, leb-suc-suc}
use borrow.Author.Tests.{lt-ltb, leb-true, leb-false}
use Rattle.base.specs.Pick.{pick}
use Rattle.key.specs.Order.{Key, cmp_key}
use Rattle.std.specs.declared.cmp.Ordering.{Ordering}
use Rattle.std.specs.declared.cmp.Ordering.TheVariants.{Less, Equal, Greater}
use Rattle.comparable_range.specs.Range.{included, bound_of}
use Rattle.comparable_range.specs.declared.Kind.{Kind}
use Rattle.comparable_range.specs.declared.Kind.TheVariants.{Unbounded, Included, Excluded}
use Rattle.partitioned_keyspace.specs.Partitions.{ascends, passes_test, partition_point, starts_with, first_partition_including_key, first_partition_including_or_after_key, last_before, last_partition_including_key, unwrap_or, step_back, partitions_covering_key, start_place, past_included, past_excluded, end_place, partitions_covering_bounds}
use Rattle.partitioned_keyspace.specs.Laws.{PointIsCoveredEitherWay}
use Rattle.partitioned_keyspace.specs.KeyPoints.{point_of, count_for, first_of, or_after_of, last_of, start_of, end_of}
use Rattle.partitioned_keyspace.specs.declared.Test.{Test}
use Rattle.partitioned_keyspace.specs.declared.Test.TheVariants.{Below, AtOrBelow}
use Rattle.partitioned_keyspace.proofs.Points.{point_below, point_at_most, points_ordered, starts_between}

-- ---- the lookups of a key
pub count_is : (test : Test) (ks : List Key) (x : Key) → count_for test (point_of ks x) ≡ partition_point (passes_test test x) ks
count_is Below ks x = refl
count_is AtOrBelow ks x = refl

some_before : (n : ℕ) (o : Option ℕ) → pick (ltb 0 (suc n)) (some (suc n - 1)) o ≡ some n
some_before n o =
    let z : suc n - 1 ≡ n = omega arith in
    rw (lt-ltb 0 (suc n) (omega arith), z)

first_by_order :
    (k : Key) (ks : List Key) (x : Key) (o : Ordering)
    → cmp_key k x ≡ o
    → first_of (point_of (k ∷ ks) x) ≡ first_partition_including_key (k ∷ ks) x
unfolding first_partition_including_key partition_point starts_with
first_by_order k ks x Less e = rw e (some_before (point_below ks x) _)
first_by_order k ks x Equal e = rw (e, e, lt-ltb 0 (suc (point_at_most ks x)) (omega arith))
first_by_order k ks x Greater e = rw (e, e)

pub first_is : (ks : List Key) (x : Key) → first_of (point_of ks x) ≡ first_partition_including_key ks x
unfolding first_partition_including_key partition_point starts_with
first_is [] x = refl
first_is (k ∷ ks) x = first_by_order k ks x (cmp_key k x) refl

pub last_is : (ks : List Key) (x : Key) → last_of (point_of ks x) ≡ last_partition_including_key ks x
unfolding last_partition_including_key
last_is ks x = go (point_at_most ks x)
  where
    go : (n : ℕ) → pick (ltb 0 n) (some (n - 1)) none ≡ last_before n
    go zero = refl
    go (suc n) = some_before n none

less_one : (b a : ℕ) → unwrap_or 0 (pick (ltb 0 b) (some (b - 1)) (pick (ltb 0 a) (some 0) none)) ≡ b - 1
less_one zero zero = refl
less_one zero (suc a) = rw (lt-ltb 0 (suc a) (omega arith))
less_one (suc b) a = rw (some_before b (pick (ltb 0 a) (some 0) none)) (omega arith)

pub or_after_is : (ks : List Key) (x : Key) → or_after_of (point_of ks x) ≡ first_partition_including_or_after_key ks x
unfolding first_partition_including_or_after_key
or_after_is ks x = rw (← first_is ks x) (sym (less_one (point_below ks x) (point_at_most ks x)))

-- ---- the bounds of a covering
pub start_is : (kind : Kind) (ks : List Key) (x : Key) → start_of kind (point_of ks x) ≡ start_place ks (bound_of kind x)
start_is Unbounded ks x = refl
start_is Included ks x = or_after_is ks x
start_is Excluded ks x = or_after_is ks x

past_included_lem : (start n : ℕ) → pick (ltb 0 n) n start ≡ past_included start (last_before n)
past_included_lem start zero = refl
past_included_lem start (suc n) = rw (lt-ltb 0 (suc n) (omega arith)) (sym (add-one n))

module _ (ks : List Key) (x : Key) (h : ascends ks ≡ true) where
  last_starts : (n : ℕ) → point_at_most ks x ≡ suc n → starts_with ks n x ≡ leb (point_below ks x) n
  last_starts n e =
      starts_between ks x h n ∙ rw (e, lt-ltb n (suc n) (omega arith)) (and-true (leb (point_below ks x) n))

  past_excluded_lem :
      (start n : ℕ)
      → point_at_most ks x ≡ n
      → pick (ltb 0 n) (pick (ltb (point_below ks x) n) (n - 1) n) start ≡ past_excluded ks x start (last_before n)
  past_excluded_lem start zero e = refl
  past_excluded_lem start (suc n) e =
      let z : suc n - 1 ≡ n = omega arith in
      rw (lt-ltb 0 (suc n) (omega arith), leb-suc-suc, last_starts n e, z, add-one)

  pub end_is : (kind : Kind) (start : ℕ) → end_of kind start (length ks) (point_of ks x) ≡ end_place ks start (bound_of kind x)
  unfolding last_partition_including_key
  end_is Unbounded start = refl
  end_is Included start = past_included_lem start (point_at_most ks x)
  end_is Excluded start = past_excluded_lem start (point_at_most ks x) refl

  -- ---- the step back
  back : (p : ℕ) → point_below ks x ≤ p → p ≤ point_at_most ks x → step_back ks x p ≡ point_below ks x
  unfolding step_back
  back zero l m = omega arith
  back (suc p) l m =
      let z : starts_with ks p x ≡ leb (point_below ks x) p
      = starts_between ks x h p ∙ rw (lt-ltb p (point_at_most ks x) (omega arith)) (and-true (leb (point_below ks x) p)) in
      rw z (ends (leb (point_below ks x) p) refl (back p))
    where
      ends :
          (t : Bool)
          → leb (point_below ks x) p ≡ t
          → (point_below ks x ≤ p → p ≤ point_at_most ks x → step_back ks x p ≡ point_below ks x)
          → pick t (step_back ks x p) (suc p) ≡ point_below ks x
      ends true e f = f (leb-true _ _ e) (omega arith)
      ends false e f = let k : p < point_below ks x = leb-false _ _ e in omega arith

  pub step_back_is : step_back ks x (point_at_most ks x) ≡ point_below ks x
  step_back_is = back (point_at_most ks x) (points_ordered ks x) (le_refl (point_at_most ks x))

  -- ---- a point
  none_before : (a b : ℕ) → b ≤ a → a ≡ pick (ltb 0 a) a (b - 1)
  none_before zero b l = omega arith
  none_before (suc a) b l = rw (lt-ltb 0 (suc a) (omega arith))

  covered_alike : partitions_covering_key ks x ≡ partitions_covering_bounds ks (included x) (included x)
  unfolding partitions_covering_key partitions_covering_bounds
  covered_alike =
      rw (step_back_is, ← or_after_is ks x, ← end_is Included (point_below ks x - 1))
      (ap (λ n. record { start = point_below ks x - 1; end = n }) (none_before (point_at_most ks x) (point_below ks x) (points_ordered ks x)))

pub point_is_covered_either_way : PointIsCoveredEitherWay
point_is_covered_either_way ks k h = covered_alike ks k h
