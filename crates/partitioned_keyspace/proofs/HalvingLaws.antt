-- The Rust's loop keeps the partition point between low and high, and each turn halves what lies between.
-- Assumes nothing.
use Prim.Native.Nat.{ℕ, zero, suc, ◌+◌, ◌*◌, ◌-◌, ◌≤◌, ◌<◌, ◌^◌}
use native.Mathlib.Omega.{arith}
use native.Mathlib.Nat.{pow-succ'}
use mathlib.Core.Path.{◌≡◌, refl, ap}
use mathlib.Core.Bool.{Bool, true, false}
use mathlib.Core.Option.{Option, some}
use mathlib.Core.List.{List, [], ◌∷◌}
use lib.ListN.{length, get_or}
use lib.Dec.{leb, ltb}
use borrow.Author.Tests.{lt-leb, leb-true, leb-false, ltb-true, ltb-false}
use Rattle.base.specs.Pick.{pick}
use Rattle.key.specs.Order.{Key}
use Rattle.partitioned_keyspace.specs.Partitions.{passes_test, partition_point}
use Rattle.partitioned_keyspace.specs.Halving.{middle, halving}
use Rattle.partitioned_keyspace.specs.Laws.{HalvingFindsThePartitionPoint}
use Rattle.partitioned_keyspace.proofs.KeyTests.{test_falls}
use Rattle.partitioned_keyspace.proofs.Points.{tested, point_within}

-- one turn, with what the two turns after it answer
module _ (n low high : ℕ) (l : low ≤ n) (m : n ≤ high + 1) (o p : Option ℕ) where
  by_start : (t : Bool) → ltb low (middle low high) ≡ t → n ≤ middle low high → (low < middle low high → p ≡ some n) → pick t p (some low) ≡ some n
  by_start true e h f = f (ltb-true _ _ e)
  by_start false e h f =
      let k : middle low high ≤ low = ltb-false _ _ e in
      let z : low ≡ n = omega arith in
      ap some z

  by_test :
      (t : Bool)
      → ltb (middle low high) n ≡ t
      → (middle low high < n → o ≡ some n)
      → (n ≤ middle low high → low < middle low high → p ≡ some n)
      → pick t o (pick (ltb low (middle low high)) p (some low)) ≡ some n
  by_test true e f g = f (ltb-true _ _ e)
  by_test false e f g = by_start (ltb low (middle low high)) refl (ltb-false _ _ e) (g (ltb-false _ _ e))

  by_end :
      (t u : Bool)
      → leb low high ≡ t
      → (low ≤ high → u ≡ ltb (middle low high) n)
      → (low ≤ high → middle low high < n → o ≡ some n)
      → (low ≤ high → n ≤ middle low high → low < middle low high → p ≡ some n)
      → pick t (pick u o (pick (ltb low (middle low high)) p (some low))) (some low) ≡ some n
  by_end true u e q f g =
      let k = leb-true low high e in
      rw (q k) (by_test (ltb (middle low high) n) refl (f k) (g k))
  by_end false u e q f g =
      let k : high < low = leb-false low high e in
      let z : low ≡ n = omega arith in
      ap some z

module _ (pred : Key → Bool) (ks : List Key) (n : ℕ) (at : (i : ℕ) → i < length ks → pred (get_or ks i []) ≡ ltb i n) where
  halves :
      (turns low high : ℕ)
      → low ≤ n
      → n ≤ high + 1
      → high < length ks
      → high + 1 - low < 2 ^ turns
      → halving pred ks turns low high low ≡ some n
  unfolding halving
  halves zero low high l m k w =
      let e : low ≡ n = omega arith in
      rw (lt-leb low high (omega arith)) (ap some e)
  halves (suc turns) low high l m k w =
      let v : high + 1 - low < 2 * 2 ^ turns = rw pow-succ' at w in
      by_end n low high l m
      (halving pred ks turns (middle low high + 1) high (middle low high + 1))
      (halving pred ks turns low (middle low high - 1) low)
      (leb low high)
      (pred (get_or ks (middle low high) []))
      refl
      (λ a. at (middle low high) (omega arith))
      (λ a b. halves turns (middle low high + 1) high (omega arith) m k (omega arith))
      (λ a b c. halves turns low (middle low high - 1) l (omega arith) (omega arith) (omega arith))

pub halving_finds_the_partition_point : HalvingFindsThePartitionPoint
unfolding partition_point
halving_finds_the_partition_point test key [] turns h w = refl
halving_finds_the_partition_point test key (k ∷ ks) turns h w =
    halves (passes_test test key) (k ∷ ks) (partition_point (passes_test test key) (k ∷ ks))
    (tested (passes_test test key) (test_falls test key) (k ∷ ks) h)
    turns
    0
    (length ks)
    (omega arith)
    (omega (arith, point_within (passes_test test key) (k ∷ ks)))
    (omega arith)
    (omega arith)
