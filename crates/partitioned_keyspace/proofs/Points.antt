-- The partition point is the number of leading first keys; where they do not descend, a first key satisfies the test
-- exactly if it stands before the point. So a lookup is reckoning with two numbers.
-- Assumes nothing.
use Prim.Native.Nat.{ℕ, zero, suc, ◌≤◌, ◌<◌, suc-le-suc}
use native.Mathlib.Omega.{arith}
use native.Mathlib.Nat.{le_of_suc-le-suc, not-suc-le-zero, eq-or-lt_of_le}
use mathlib.Core.Path.{◌≡◌, refl, sym, ap, ◌∙◌}
use mathlib.Core.Logic.{inl, inr}
use mathlib.Core.Bool.{Bool, true, false, not, ◌&&◌, and-false, true≢false}
use mathlib.Core.List.{List, [], ◌∷◌, map-map}
use lib.ListN.{length, get_or}
use lib.Dec.{leb, ltb}
use borrow.Author.Tests.{le-ltb, le-leb, lt-leb, ltb-true, ltb-false}
use Rattle.base.specs.Pick.{pick}
use Rattle.key.specs.Order.{Key, key_at_most, key_below}
use Rattle.comparable_range.specs.Range.{included}
use Rattle.manifest.specs.Checks.{ascend, index_checks}
use Rattle.partitioned_keyspace.specs.Partitions.{ascends, key_equal, passes_test, partition_point, starts_with}
use Rattle.partitioned_keyspace.specs.Laws.{AcceptedFirstKeysAscend, Leading, PartitionPointIsTheLeadingCount}
use Rattle.partitioned_keyspace.specs.declared.Test.TheVariants.{Below, AtOrBelow}
use Rattle.partitioned_keyspace.proofs.KeyTests.{Falls, test_falls, ascending_at, below_at_most, not_below_lem, equal_is}

pub accepted_first_keys_ascend : AcceptedFirstKeysAscend
unfolding index_checks
accepted_first_keys_ascend x = ap ascend (sym (map-map (λ k. included k) (λ b. b.first) x))

-- ---- the leading first keys
leading_head : (pred : Key → Bool) (k : Key) (ks : List Key) (t : Bool) {n : ℕ} → pred k ≡ t → Leading pred ks n → Leading pred (k ∷ ks) (pick t (suc n) 0)
leading_head pred k ks false e p =
    record { within = omega arith; satisfy = λ i h. absurd (not-suc-le-zero h); next = λ h. e }
leading_head pred k ks true {n} e p =
    record { within = suc-le-suc p.within; satisfy = at; next = λ h. p.next (le_of_suc-le-suc h) }
  where
    at : (i : ℕ) → i < suc n → pred (get_or (k ∷ ks) i []) ≡ true
    at zero h = e
    at (suc i) h = p.satisfy i (le_of_suc-le-suc h)

pub partition_point_is_the_leading_count : PartitionPointIsTheLeadingCount
unfolding partition_point
partition_point_is_the_leading_count pred [] =
    record { within = omega arith; satisfy = λ i h. absurd (not-suc-le-zero h); next = λ h. absurd (not-suc-le-zero h) }
partition_point_is_the_leading_count pred (k ∷ ks) =
    leading_head pred k ks (pred k) refl (partition_point_is_the_leading_count pred ks)

-- a test that more keys satisfy has no fewer
pub more_satisfy : (p q : Key → Bool) → ((k : Key) → p k ≡ true → q k ≡ true) → (ks : List Key) → partition_point p ks ≤ partition_point q ks
unfolding partition_point
more_satisfy p q f [] = omega arith
more_satisfy p q f (k ∷ ks) = go (p k) (q k) (f k) (more_satisfy p q f ks)
  where
    go : (s t : Bool) {m n : ℕ} → (s ≡ true → t ≡ true) → m ≤ n → pick s (suc m) 0 ≤ pick t (suc n) 0
    go false t f l = omega arith
    go true false f l = absurd (true≢false (sym (f refl)))
    go true true f l = suc-le-suc l

-- ---- where they do not descend
module _ (pred : Key → Bool) (f : Falls pred) (ks : List Key) (h : ascends ks ≡ true) where
  behind : (n i : ℕ) → Leading pred ks n → n ≤ i → i < length ks → pred (get_or ks i []) ≡ false
  behind n i p l m = elim (eq-or-lt_of_le l) [ inl e ↦ rw (← e) (p.next (omega arith)) | inr k ↦ go (pred (get_or ks i [])) refl k ]
    where
      go : (t : Bool) → pred (get_or ks i []) ≡ t → n < i → t ≡ false
      go false e k = refl
      go true e k = sym (f _ _ (ascending_at ks h n i k m) e) ∙ p.next (omega arith)

  -- a first key satisfies the test exactly if it stands before the point
  pub tested : (i : ℕ) → i < length ks → pred (get_or ks i []) ≡ ltb i (partition_point pred ks)
  tested i l = go (ltb i (partition_point pred ks)) refl
    where
      p : Leading pred ks (partition_point pred ks)
      p = partition_point_is_the_leading_count pred ks

      go : (t : Bool) → ltb i (partition_point pred ks) ≡ t → pred (get_or ks i []) ≡ t
      go true e = p.satisfy i (ltb-true _ _ e)
      go false e = behind (partition_point pred ks) i p (ltb-false _ _ e) l

-- ---- the two points of a key
abbrev pub point_below : List Key → Key → ℕ
point_below ks x = partition_point (passes_test Below x) ks

abbrev pub point_at_most : List Key → Key → ℕ
point_at_most ks x = partition_point (passes_test AtOrBelow x) ks

pub point_within : (pred : Key → Bool) (ks : List Key) → partition_point pred ks ≤ length ks
point_within pred ks = (partition_point_is_the_leading_count pred ks).within

pub points_ordered : (ks : List Key) (x : Key) → point_below ks x ≤ point_at_most ks x
points_ordered ks x = more_satisfy (passes_test Below x) (passes_test AtOrBelow x) (λ k. below_at_most k x) ks

starts_at : (ks : List Key) (p : ℕ) (x : Key) → p < length ks → starts_with ks p x ≡ key_equal (get_or ks p []) x
unfolding starts_with
starts_at [] p x h = absurd (not-suc-le-zero h)
starts_at (k ∷ ks) zero x h = refl
starts_at (k ∷ ks) (suc p) x h = starts_at ks p x (le_of_suc-le-suc h)

starts_none : (ks : List Key) (p : ℕ) (x : Key) → length ks ≤ p → starts_with ks p x ≡ false
unfolding starts_with
starts_none [] p x h = refl
starts_none (k ∷ ks) zero x h = absurd (not-suc-le-zero h)
starts_none (k ∷ ks) (suc p) x h = starts_none ks p x (le_of_suc-le-suc h)

not_ltb : (m n : ℕ) → not (ltb m n) ≡ leb n m
not_ltb m n = go (ltb m n) refl
  where
    go : (t : Bool) → ltb m n ≡ t → not t ≡ leb n m
    go true e = sym (lt-leb n m (ltb-true m n e))
    go false e = sym (le-leb n m (ltb-false m n e))

module _ (ks : List Key) (x : Key) (h : ascends ks ≡ true) where
  is_below : (i : ℕ) → i < length ks → key_below (get_or ks i []) x ≡ ltb i (point_below ks x)
  is_below i l = tested (passes_test Below x) (test_falls Below x) ks h i l

  pub is_at_most : (i : ℕ) → i < length ks → key_at_most (get_or ks i []) x ≡ ltb i (point_at_most ks x)
  is_at_most i l = tested (passes_test AtOrBelow x) (test_falls AtOrBelow x) ks h i l

  pub is_reached : (i : ℕ) → i < length ks → key_at_most x (get_or ks i []) ≡ leb (point_below ks x) i
  is_reached i l = not_below_lem (get_or ks i []) x ∙ ap not (is_below i l) ∙ not_ltb i (point_below ks x)

  -- a partition starts with x exactly if it stands from the one point to the other
  pub starts_between : (p : ℕ) → starts_with ks p x ≡ (leb (point_below ks x) p && ltb p (point_at_most ks x))
  starts_between p = go (ltb p (length ks)) refl
    where
      go : (t : Bool) → ltb p (length ks) ≡ t → starts_with ks p x ≡ (leb (point_below ks x) p && ltb p (point_at_most ks x))
      go true e =
          let l = ltb-true p (length ks) e in
          starts_at ks p x l ∙ equal_is (get_or ks p []) x ∙ rw (is_below p l, is_at_most p l, not_ltb p (point_below ks x))
      go false e =
          let l = ltb-false p (length ks) e in
          starts_none ks p x l ∙ rw (le-ltb p (point_at_most ks x) (omega (arith, point_within (passes_test AtOrBelow x) ks))) (sym (and-false (leb (point_below ks x) p)))
