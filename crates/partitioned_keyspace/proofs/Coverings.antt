-- A covering by numbers, which starts at or before every partition that may hold a key of the range and ends past it: a
-- greater key has no lesser points.
-- Assumes nothing.
use Prim.Native.Nat.{ℕ, ◌+◌, ◌-◌, ◌≤◌, ◌<◌}
use native.Mathlib.Omega.{arith}
use mathlib.Core.Path.{◌≡◌, refl, sym, ◌∙◌}
use mathlib.Core.Bool.{Bool, true, false, ◌&&◌, and_comm, true≢false}
use mathlib.Core.List.{List, []}
use lib.Dec.{leb, ltb}
use borrow.Author.Tests.{lt-ltb, le-leb, lt-leb, leb-true, leb-false, ltb-true}
use Rattle.base.specs.Pick.{pick, and_first, and_second}
use Rattle.key.specs.Order.{Key, key_at_most}
use Rattle.key.proofs.Linear.{key_self}
use Rattle.comparable_range.specs.Range.{Bound, unbounded, included, excluded, bound_of, start_holds, end_holds, holds}
use Rattle.comparable_range.specs.declared.Kind.{Kind}
use Rattle.comparable_range.specs.declared.Kind.TheVariants.{Unbounded, Included, Excluded}
use Rattle.partitioned_keyspace.specs.Partitions.{ascends, key_equal, passes_test, partition_point, starts_with, first_partition_including_key, first_partition_including_or_after_key, last_partition_including_key, partitions_covering_key, start_place, end_place, partitions_covering_bounds, covering, partitions_covering_range}
use Rattle.partitioned_keyspace.specs.Laws.{may_hold, is_among, WithNoPartitions, CoveringHasEveryHolder, PointIsCoveredByItsHolders}
use Rattle.partitioned_keyspace.specs.KeyPoints.{index_points, is_point, covering_of}
use Rattle.partitioned_keyspace.specs.declared.Test.TheVariants.{Below, AtOrBelow}
use Rattle.partitioned_keyspace.proofs.KeyTests.{below_at_most, at_most_trans, at_most_below, below_below, equal_same}
use Rattle.partitioned_keyspace.proofs.Points.{point_below, point_at_most, point_within, points_ordered, more_satisfy}
use Rattle.partitioned_keyspace.proofs.Holders.{held_between}
use Rattle.partitioned_keyspace.proofs.Reckoned.{or_after_is, start_is, end_is, step_back_is, point_is_covered_either_way}

-- ---- a covering by numbers
module _ (ks : List Key) (h : ascends ks ≡ true) where
  bounds_are :
      (kj ke : Kind) (s e : Key)
      → partitions_covering_bounds ks (bound_of kj s) (bound_of ke e) ≡ covering_of false kj ke (index_points s e ks)
  unfolding partitions_covering_bounds
  bounds_are kj ke s e = rw (start_is kj ks s, end_is ks e h ke (start_place ks (bound_of kj s)))

  pub by_bounds : (a b : Bound) → covering ks a b ≡ partitions_covering_bounds ks a b
  by_bounds unbounded b = refl
  by_bounds (included s) unbounded = refl
  by_bounds (included s) (excluded e) = refl
  by_bounds (excluded s) b = refl
  by_bounds (included s) (included e) = go (key_equal s e) refl
    where
      go : (t : Bool) → key_equal s e ≡ t → pick t (partitions_covering_key ks s) (partitions_covering_bounds ks (included s) (included e)) ≡ partitions_covering_bounds ks (included s) (included e)
      go false q = refl
      go true q = point_is_covered_either_way ks s h ∙ rw (equal_same s e q)

  of_point : (s e : Key) → key_equal s e ≡ true → covering ks (included s) (included e) ≡ covering_of true Included Included (index_points s [] ks)
  unfolding partitions_covering_key
  of_point s e q = rw (q, step_back_is ks s h)

  pub covering_is :
      (kj ke : Kind) (s e : Key) (t : Bool)
      → t ≡ is_point kj s ke e
      → partitions_covering_range ks (record { start = bound_of kj s; end = bound_of ke e })
      ≡ covering_of t kj ke (index_points s (pick t [] e) ks)
  unfolding partitions_covering_range
  covering_is kj ke s e false q = by_bounds (bound_of kj s) (bound_of ke e) ∙ bounds_are kj ke s e
  covering_is Unbounded ke s e true q = absurd (true≢false q)
  covering_is Included Unbounded s e true q = absurd (true≢false q)
  covering_is Included Included s e true q = of_point s e (sym q)
  covering_is Included Excluded s e true q = absurd (true≢false q)
  covering_is Excluded ke s e true q = absurd (true≢false q)

-- ---- every holder
module _ (ks : List Key) (x : Key) (p : ℕ) where
  lesser_start : (k : Key) → key_at_most k x ≡ true → point_below ks x ≤ p + 1 → first_partition_including_or_after_key ks k ≤ p
  lesser_start k l m =
      let n : point_below ks k ≤ point_below ks x
      = more_satisfy (passes_test Below k) (passes_test Below x) (λ f g. below_below f k x g l) ks in
      rw (← or_after_is ks k) (omega arith)

  starts_before : (a : Bound) → start_holds a x ≡ true → point_below ks x ≤ p + 1 → start_place ks a ≤ p
  unfolding start_holds
  starts_before unbounded l m = omega arith
  starts_before (included k) l m = lesser_start k l m
  starts_before (excluded k) l m = lesser_start k (below_at_most k x l) m

  past_point : (n start : ℕ) → p < n → p < pick (ltb 0 n) n start
  past_point n start l = rw (lt-ltb 0 n (omega arith)) l

  past_equal : (a b : ℕ) (t : Bool) → ltb b a ≡ t → p < b → b ≤ a → p < pick t (a - 1) a
  past_equal a b true e l m = let z : b < a = ltb-true b a e in omega arith
  past_equal a b false e l m = omega arith

  past_excluded_lem : (a b start : ℕ) → p < b → b ≤ a → p < pick (ltb 0 a) (pick (ltb b a) (a - 1) a) start
  past_excluded_lem a b start l m = rw (lt-ltb 0 a (omega arith)) (past_equal a b (ltb b a) refl l m)

  module _ (h : ascends ks ≡ true) where
    ends_past : (b : Bound) (start : ℕ) → end_holds b x ≡ true → p < point_at_most ks x → p < end_place ks start b
    unfolding end_holds
    ends_past unbounded start l m = omega (arith, point_within (passes_test AtOrBelow x) ks)
    ends_past (included k) start l m =
        let n : point_at_most ks x ≤ point_at_most ks k
        = more_satisfy (passes_test AtOrBelow x) (passes_test AtOrBelow k) (λ f g. at_most_trans f x k g l) ks in
        rw (← end_is ks k h Included start) (past_point (point_at_most ks k) start (omega arith))
    ends_past (excluded k) start l m =
        let n : point_at_most ks x ≤ point_below ks k
        = more_satisfy (passes_test AtOrBelow x) (passes_test Below k) (λ f g. at_most_below f x k g l) ks in
        rw (← end_is ks k h Excluded start) (past_excluded_lem (point_at_most ks k) (point_below ks k) start (omega arith) (points_ordered ks k))

    among : (a b : Bound) → start_holds a x ≡ true → end_holds b x ≡ true → may_hold ks p x ≡ true → is_among (partitions_covering_bounds ks a b) p ≡ true
    unfolding partitions_covering_bounds
    among a b l m q =
        let w : (ltb p (point_at_most ks x) && leb (point_below ks x) (p + 1)) ≡ true = sym (held_between ks x h p) ∙ q in
        let u : p < point_at_most ks x = ltb-true _ _ (and_first (ltb p (point_at_most ks x)) _ w) in
        let v : point_below ks x ≤ p + 1 = leb-true _ _ (and_second (ltb p (point_at_most ks x)) _ w) in
        rw (le-leb (start_place ks a) p (starts_before a l v)) (lt-ltb p _ (ends_past b (start_place ks a) m u))

pub covering_has_every_holder : CoveringHasEveryHolder
unfolding partitions_covering_range holds
covering_has_every_holder ks r x p h l q =
    rw (by_bounds ks h r.start r.end)
    (among ks x p h r.start r.end (and_first (start_holds r.start x) _ l) (and_second (start_holds r.start x) _ l) q)

-- ---- a point
less_one : (b p : ℕ) → leb (b - 1) p ≡ leb b (p + 1)
less_one b p = go (leb b (p + 1)) refl
  where
    go : (t : Bool) → leb b (p + 1) ≡ t → leb (b - 1) p ≡ t
    go true e = let l : b ≤ p + 1 = leb-true b (p + 1) e in le-leb (b - 1) p (omega arith)
    go false e = let l : p + 1 < b = leb-false b (p + 1) e in lt-leb (b - 1) p (omega arith)

pub point_is_covered_by_its_holders : PointIsCoveredByItsHolders
unfolding partitions_covering_range partitions_covering_key
point_is_covered_by_its_holders ks k p h =
    rw (key_self k, step_back_is ks k h, less_one (point_below ks k) p, held_between ks k h p) (and_comm (leb (point_below ks k) (p + 1)) _)

-- ---- no partitions
no_start : (a : Bound) → start_place [] a ≡ 0
unfolding first_partition_including_or_after_key first_partition_including_key partition_point starts_with
no_start unbounded = refl
no_start (included k) = refl
no_start (excluded k) = refl

no_end : (b : Bound) → end_place [] 0 b ≡ 0
unfolding last_partition_including_key partition_point
no_end unbounded = refl
no_end (included k) = refl
no_end (excluded k) = refl

no_covering : (a b : Bound) → covering [] a b ≡ record { start = 0; end = 0 }
unfolding partitions_covering_bounds
no_covering a b = by_bounds [] refl a b ∙ rw (no_start a, no_end b)

pub with_no_partitions : WithNoPartitions
unfolding partition_point first_partition_including_key first_partition_including_or_after_key last_partition_including_key starts_with partitions_covering_range
with_no_partitions =
    record { point = λ t. refl; first = λ k. refl; or_after = λ k. refl; last = λ k. refl; covering = λ r. no_covering r.start r.end }
