-- A partition may hold a key exactly if it stands before the one point and not before the other less one; so do those
-- from the first that includes the key to the last.
-- Assumes nothing.
use Prim.Native.Nat.{ℕ, zero, suc, ◌+◌, ◌≤◌, ◌<◌}
use native.Mathlib.Omega.{arith}
use native.Mathlib.Numerals.{add-one}
use native.Mathlib.Nat.{not-suc-le-zero}
use mathlib.Core.Path.{◌≡◌, refl, sym, ap, ◌∙◌}
use mathlib.Core.Bool.{Bool, true, false, ◌&&◌, and-true, and_comm}
use mathlib.Core.Option.{Option, none, some}
use mathlib.Core.List.{List, [], ◌∷◌}
use lib.ListN.{length, get_or, drop, drop_of_length-le}
use lib.Seq.{drop-cons}
use lib.Dec.{leb, ltb, leb-zero, leb-suc-suc}
use borrow.Author.Tests.{le-ltb, le-leb, ltb-true, ltb-false}
use Rattle.key.specs.Order.{Key, cmp_key}
use Rattle.std.specs.declared.cmp.Ordering.{Ordering}
use Rattle.std.specs.declared.cmp.Ordering.TheVariants.{Less, Equal, Greater}
use Rattle.partitioned_keyspace.specs.Partitions.{ascends, passes_test, partition_point, starts_with, first_before, last_before, first_partition_including_key, last_partition_including_key}
use Rattle.partitioned_keyspace.specs.Laws.{may_hold, is_from_to, is_none, HoldersAreFromFirstToLast, FirstAndLastAreNoneTogether, NoneMeansNoHolder}
use Rattle.partitioned_keyspace.specs.declared.Test.TheVariants.{Below, AtOrBelow}
use Rattle.partitioned_keyspace.proofs.Points.{point_below, point_at_most, point_within, points_ordered, is_at_most, is_reached, starts_between}

next_key : (ks : List Key) (p : ℕ) → p < length ks → drop p ks ≡ get_or ks p [] ∷ drop (p + 1) ks
next_key ks p l = drop-cons ks p [] l ∙ ap (λ n. get_or ks p [] ∷ drop n ks) (sym (add-one p))

-- ---- may hold, by the two points
module _ (ks : List Key) (x : Key) (h : ascends ks ≡ true) where
  abbrev Held : ℕ → Bool
  Held p = ltb p (point_at_most ks x) && leb (point_below ks x) (p + 1)

  past_all : (p : ℕ) → length ks ≤ p → may_hold ks p x ≡ Held p
  past_all p l =
      rw (drop_of_length-le ks {i = p} l, le-ltb p (point_at_most ks x) (omega (arith, point_within (passes_test AtOrBelow x) ks)))

  at_last : (p : ℕ) → p < length ks → length ks ≤ p + 1 → may_hold ks p x ≡ Held p
  at_last p l m =
      let z : leb (point_below ks x) (p + 1) ≡ true = le-leb (point_below ks x) (p + 1) (omega (arith, point_within (passes_test Below x) ks)) in
      rw (next_key ks p l, drop_of_length-le ks {i = p + 1} m, is_at_most ks x h p l, z) (sym (and-true (ltb p (point_at_most ks x))))

  in_front : (p : ℕ) → p < length ks → p + 1 < length ks → may_hold ks p x ≡ Held p
  in_front p l m =
      rw (next_key ks p l, next_key ks (p + 1) m, is_at_most ks x h p l, is_reached ks x h (p + 1) m)

  pub held_between : (p : ℕ) → may_hold ks p x ≡ Held p
  held_between p = go (ltb p (length ks)) (ltb (p + 1) (length ks)) refl refl
    where
      go : (s t : Bool) → ltb p (length ks) ≡ s → ltb (p + 1) (length ks) ≡ t → may_hold ks p x ≡ Held p
      go false t e f = past_all p (ltb-false _ _ e)
      go true false e f = at_last p (ltb-true _ _ e) (ltb-false _ _ f)
      go true true e f = in_front p (ltb-true _ _ e) (ltb-true _ _ f)

-- ---- from the first to the last
no_last : (o : Option ℕ) (p : ℕ) → is_from_to o none p ≡ false
no_last none p = refl
no_last (some f) p = refl

shifted : (b a p : ℕ) → (ltb p (suc a) && leb (suc b) (p + 1)) ≡ (leb b p && leb p a)
shifted b a p = rw (add-one, leb-suc-suc, leb-suc-suc) (and_comm (leb p a) (leb b p))

from_zero : (a p : ℕ) → (ltb p (suc a) && leb 0 (p + 1)) ≡ (leb 0 p && leb p a)
from_zero a p = rw (leb-suc-suc, leb-zero, leb-zero) (and-true (leb p a))

module _ (ks : List Key) (x : Key) (p : ℕ) (q : starts_with ks 0 x ≡ (leb (point_below ks x) 0 && ltb 0 (point_at_most ks x))) where
  by_points :
      (b a : ℕ)
      → point_below ks x ≡ b
      → point_at_most ks x ≡ a
      → b ≤ a
      → (ltb p a && leb b (p + 1)) ≡ is_from_to (first_before ks x b) (last_before a) p
  by_points zero zero e f l = rw (le-ltb p 0 (omega arith)) (sym (no_last (first_before ks x zero) p))
  by_points zero (suc a) e f l =
      let z : starts_with ks 0 x ≡ true = q ∙ rw (e, f, leb-suc-suc, leb-zero) in
      rw z (from_zero a p)
  by_points (suc b) zero e f l = absurd (not-suc-le-zero l)
  by_points (suc b) (suc a) e f l = shifted b a p

pub holders_are_from_first_to_last : HoldersAreFromFirstToLast
unfolding first_partition_including_key last_partition_including_key
holders_are_from_first_to_last ks x p h =
    held_between ks x h p ∙ by_points ks x p (starts_between ks x h 0) (point_below ks x) (point_at_most ks x) refl refl (points_ordered ks x)

pub none_means_no_holder : NoneMeansNoHolder
none_means_no_holder ks x p h e = holders_are_from_first_to_last ks x p h ∙ rw e

none_by_order :
    (k : Key) (ks : List Key) (x : Key) (o : Ordering)
    → cmp_key k x ≡ o
    → is_none (first_partition_including_key (k ∷ ks) x) ≡ is_none (last_partition_including_key (k ∷ ks) x)
unfolding first_partition_including_key last_partition_including_key partition_point starts_with
none_by_order k ks x Less e = rw e
none_by_order k ks x Equal e = rw (e, e)
none_by_order k ks x Greater e = rw (e, e)

pub first_and_last_are_none_together : FirstAndLastAreNoneTogether
unfolding first_partition_including_key last_partition_including_key partition_point starts_with
first_and_last_are_none_together [] x = refl
first_and_last_are_none_together (k ∷ ks) x = none_by_order k ks x (cmp_key k x) refl
