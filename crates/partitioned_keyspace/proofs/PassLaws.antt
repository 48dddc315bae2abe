-- One more first key in what the pass has found: a count grows where it counts all that were seen before, and the keys
-- still do not descend if the new one is not below the last.
-- Assumes nothing.
use Prim.Native.Nat.{ℕ, suc, ◌+◌, ◌≤◌, ◌<◌}
use native.Mathlib.Omega.{arith}
use mathlib.Core.Path.{◌≡◌, refl, sym, ap, ◌∙◌}
use mathlib.Core.Bool.{Bool, true, false, ◌&&◌, and-true, and_assoc}
use mathlib.Core.List.{List, [], ◌∷◌, ◌++◌, map}
use lib.ListN.{length, length-append}
use lib.Dec.{ltb, leb-suc-suc}
use borrow.Author.Tests.{lt-ltb, le-ltb, ltb-true, ltb-false}
use Rattle.base.specs.Pick.{pick}
use Rattle.key.specs.Order.{Key, cmp_key, is_less, at_most, key_at_most}
use Rattle.std.specs.declared.cmp.Ordering.{Ordering}
use Rattle.std.specs.declared.cmp.Ordering.TheVariants.{Less, Equal, Greater}
use Rattle.comparable_range.specs.Range.{included, cmp_bound}
use Rattle.manifest.specs.Checks.{ascend_from}
use Rattle.partitioned_keyspace.specs.Partitions.{ascends, passes_test, partition_point}
use Rattle.partitioned_keyspace.specs.KeyPoints.{point_of, grown_by, with_first, with_block, index_points}
use Rattle.partitioned_keyspace.specs.declared.Test.TheVariants.{Below, AtOrBelow}
use Rattle.partitioned_keyspace.specs.declared.point.KeyPoint.{KeyPoint}
use Rattle.partitioned_keyspace.proofs.Points.{point_below, point_at_most, point_within, points_ordered}

-- ---- counts
-- a count that has n first keys of l seen, and one more that satisfies its test or not
abbrev counted : ℕ → ℕ → Bool → ℕ
counted n l t = pick (ltb n l) n (pick t (l + 1) l)

counted_tail : (n l : ℕ) (t : Bool) → suc (counted n l t) ≡ counted (suc n) (suc l) t
counted_tail n l t = rw leb-suc-suc (go (ltb n l) t)
  where
    go : (s t : Bool) → suc (pick s n (pick t (l + 1) l)) ≡ pick s (suc n) (pick t (suc l + 1) (suc l))
    go true t = refl
    go false true = omega arith
    go false false = refl

counted_none : (l : ℕ) (t : Bool) → 0 ≡ counted 0 (suc l) t
counted_none l t = rw (lt-ltb 0 (suc l) (omega arith))

counted_first : (t : Bool) → pick t 1 0 ≡ counted 0 0 t
counted_first true = refl
counted_first false = refl

point_more : (pred : Key → Bool) (ks : List Key) (k : Key) → partition_point pred (ks ++ (k ∷ [])) ≡ counted (partition_point pred ks) (length ks) (pred k)
unfolding partition_point
point_more pred [] k = counted_first (pred k)
point_more pred (m ∷ ks) k = go (pred m) (partition_point pred ks) (point_more pred ks k)
  where
    go :
        (s : Bool) (j : ℕ) {n : ℕ}
        → n ≡ counted j (length ks) (pred k)
        → pick s (suc n) 0 ≡ counted (pick s (suc j) 0) (suc (length ks)) (pred k)
    go true j e = ap suc e ∙ counted_tail j (length ks) (pred k)
    go false j e = counted_none (length ks) (pred k)

-- ---- both counts of a key
abbrev both : ℕ → ℕ → KeyPoint
both b a = record { below = b; at_most = a }

module _ (b a l : ℕ) (h : b ≤ a) (k : a ≤ l) where
  still : (o : Ordering) → a < l → both b a ≡ both (counted b l (is_less o)) (counted a l (at_most o))
  still o m = rw (lt-ltb b l (omega arith), lt-ltb a l m)

  unseen : b ≡ counted b l false
  unseen = go (ltb b l) refl
    where
      go : (t : Bool) → ltb b l ≡ t → b ≡ pick t b l
      go true e = refl
      go false e = let z : l ≤ b = ltb-false b l e in omega arith

  grows : (o : Ordering) → l ≤ a → grown_by (both b a) l o ≡ both (counted b l (is_less o)) (counted a l (at_most o))
  grows Less m = rw (le-ltb a l m)
  grows Equal m = rw (le-ltb a l m) (ap (λ n. both n (l + 1)) unseen)
  grows Greater m =
      let z : a ≡ l = omega arith in
      rw (le-ltb a l m) (ap (λ n. both n a) unseen ∙ ap (both (counted b l false)) z)

  by_seen : (o : Ordering) (t : Bool) → ltb a l ≡ t → pick t (both b a) (grown_by (both b a) l o) ≡ both (counted b l (is_less o)) (counted a l (at_most o))
  by_seen o true e = still o (ltb-true a l e)
  by_seen o false e = grows o (ltb-false a l e)

pub with_first_is : (ks : List Key) (k x : Key) → with_first (point_of ks x) (length ks) k x ≡ point_of (ks ++ (k ∷ [])) x
unfolding with_first
with_first_is ks k x =
    by_seen (point_below ks x) (point_at_most ks x) (length ks) (points_ordered ks x) (point_within (passes_test AtOrBelow x) ks) (cmp_key k x) (ltb (point_at_most ks x) (length ks)) refl
    ∙ rw (point_more (passes_test Below x) ks k, point_more (passes_test AtOrBelow x) ks k)

-- ---- the order
-- the last of some keys, or the one given
abbrev pub last_from : Key → List Key → Key
last_from k [] = k
last_from k (m ∷ ks) = last_from m ks

pub last_more : (k : Key) (ks : List Key) (l : Key) → last_from k (ks ++ (l ∷ [])) ≡ l
last_more k [] l = refl
last_more k (m ∷ ks) l = last_more m ks l

from_more :
    (k : Key) (ks : List Key) (l : Key)
    → ascend_from (included k) (map (λ m. included m) (ks ++ (l ∷ []))) ≡ (ascend_from (included k) (map (λ m. included m) ks) && key_at_most (last_from k ks) l)
unfolding ascend_from cmp_bound
from_more k [] l = and-true (key_at_most k l)
from_more k (m ∷ ks) l = rw (from_more m ks l) (sym (and_assoc (key_at_most k m) _ (key_at_most (last_from m ks) l)))

least_empty : (k : Key) → key_at_most [] k ≡ true
unfolding cmp_key
least_empty [] = refl
least_empty (x ∷ k) = refl

from_empty : (ks : List Key) → ascends ks ≡ ascend_from (included []) (map (λ m. included m) ks)
unfolding ascend_from cmp_bound
from_empty [] = refl
from_empty (k ∷ ks) = rw (least_empty k)

pub ascends_more : (ks : List Key) (l : Key) → ascends (ks ++ (l ∷ [])) ≡ (ascends ks && key_at_most (last_from [] ks) l)
ascends_more ks l = rw (from_empty (ks ++ (l ∷ [])), from_empty ks) (from_more [] ks l)

-- ---- all of it
pub with_block_is :
    (s e : Key) (ks : List Key) (k : Key)
    → with_block (index_points s e ks) (last_from [] ks) k s e ≡ index_points s e (ks ++ (k ∷ []))
unfolding with_block
with_block_is s e ks k = rw (with_first_is ks k s, with_first_is ks k e, ascends_more ks k, length-append)
