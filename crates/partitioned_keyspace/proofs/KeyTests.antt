-- The tests of two keys are transitive, so first keys that do not descend satisfy a test in front and fail it behind.
-- Assumes nothing.
use Prim.Native.Nat.{ℕ, zero, suc, ◌<◌}
use native.Mathlib.Nat.{le_of_suc-le-suc, not-suc-le-zero}
use mathlib.Core.Path.{◌≡◌, refl, sym, ap, ◌∙◌}
use mathlib.Core.Bool.{Bool, true, false, not, ◌&&◌, true≢false}
use mathlib.Core.List.{List, [], ◌∷◌, map}
use lib.ListN.{length, get_or}
use borrow.Author.Tests.{not-true}
use Rattle.base.specs.Pick.{and_first, and_second}
use Rattle.key.specs.Order.{Key, cmp_key, at_most, is_less, is_equal, key_at_most, key_below}
use Rattle.std.specs.declared.cmp.Ordering.{Ordering}
use Rattle.std.specs.declared.cmp.Ordering.TheVariants.{Less, Equal, Greater}
use Rattle.key.proofs.Linear.{key_order_is_total, below_not}
use Rattle.comparable_range.specs.Range.{included, cmp_bound}
use Rattle.manifest.specs.Checks.{ascend_from}
use Rattle.partitioned_keyspace.specs.Partitions.{ascends, key_equal, passes_test}
use Rattle.partitioned_keyspace.specs.declared.Test.{Test}
use Rattle.partitioned_keyspace.specs.declared.Test.TheVariants.{Below, AtOrBelow}

-- ---- two keys, and three
pub at_most_trans : (a b c : Key) → key_at_most a b ≡ true → key_at_most b c ≡ true → key_at_most a c ≡ true
at_most_trans a b c h k = go (cmp_key a b) (cmp_key b c) refl refl h k
  where
    go : (o p : Ordering) → cmp_key a b ≡ o → cmp_key b c ≡ p → at_most o ≡ true → at_most p ≡ true → key_at_most a c ≡ true
    go Less Less e f h k = rw (key_order_is_total.trans a b c e f)
    go Less Equal e f h k = rw (← key_order_is_total.equal b c f, e)
    go Less Greater e f h k = cc
    go Equal Less e f h k = rw (key_order_is_total.equal a b e, f)
    go Equal Equal e f h k = rw (key_order_is_total.equal a b e, f)
    go Equal Greater e f h k = cc
    go Greater Less e f h k = cc
    go Greater Equal e f h k = cc
    go Greater Greater e f h k = cc

pub below_at_most : (a b : Key) → key_below a b ≡ true → key_at_most a b ≡ true
below_at_most a b h = go (cmp_key a b) h
  where
    go : (o : Ordering) → is_less o ≡ true → at_most o ≡ true
    go Less h = refl
    go Equal h = cc
    go Greater h = cc

pub at_most_below : (a b c : Key) → key_at_most a b ≡ true → key_below b c ≡ true → key_below a c ≡ true
at_most_below a b c h k = below_not a c ∙ ap not (go (key_at_most c a) refl)
  where
    go : (t : Bool) → key_at_most c a ≡ t → t ≡ false
    go true e = absurd (true≢false (sym (at_most_trans c a b e h) ∙ not-true _ (sym (below_not b c) ∙ k)))
    go false e = refl

pub below_below : (a b c : Key) → key_below a b ≡ true → key_at_most b c ≡ true → key_below a c ≡ true
below_below a b c h k = below_not a c ∙ ap not (go (key_at_most c a) refl)
  where
    go : (t : Bool) → key_at_most c a ≡ t → t ≡ false
    go true e = absurd (true≢false (sym (at_most_trans b c a k e) ∙ not-true _ (sym (below_not a b) ∙ h)))
    go false e = refl

-- a key is not below another where the other is at most as great
pub not_below_lem : (a b : Key) → key_at_most b a ≡ not (key_below a b)
not_below_lem a b = rw (below_not a b) (go (key_at_most b a))
  where
    go : (t : Bool) → t ≡ not (not t)
    go true = refl
    go false = refl

pub equal_is : (a b : Key) → key_equal a b ≡ (not (key_below a b) && key_at_most a b)
equal_is a b = go (cmp_key a b)
  where
    go : (o : Ordering) → is_equal o ≡ (not (is_less o) && at_most o)
    go Less = refl
    go Equal = refl
    go Greater = refl

pub equal_same : (a b : Key) → key_equal a b ≡ true → a ≡ b
equal_same a b h = key_order_is_total.equal a b (go (cmp_key a b) h)
  where
    go : (o : Ordering) → is_equal o ≡ true → o ≡ Equal
    go Less h = cc
    go Equal h = refl
    go Greater h = cc

-- ---- a test that a lesser key satisfies too
abbrev pub Falls : (Key → Bool) → Type 0
Falls pred = (a b : Key) → key_at_most a b ≡ true → pred b ≡ true → pred a ≡ true

pub test_falls : (test : Test) (key : Key) → Falls (passes_test test key)
test_falls Below key a b h k = at_most_below a b key h k
test_falls AtOrBelow key a b h k = at_most_trans a b key h k

-- ---- first keys that do not descend
first_least :
    (k : Key) (ks : List Key)
    → ascend_from (included k) (map (λ l. included l) ks) ≡ true
    → (j : ℕ)
    → j < length ks
    → key_at_most k (get_or ks j []) ≡ true
unfolding ascend_from cmp_bound
first_least k [] h j l = absurd (not-suc-le-zero l)
first_least k (m ∷ ks) h zero l = and_first (key_at_most k m) _ h
first_least k (m ∷ ks) h (suc j) l =
    at_most_trans k m (get_or ks j []) (and_first (key_at_most k m) _ h) (first_least m ks (and_second (key_at_most k m) _ h) j (le_of_suc-le-suc l))

tail_ascends : (k : Key) (ks : List Key) → ascends (k ∷ ks) ≡ true → ascends ks ≡ true
unfolding ascend_from cmp_bound
tail_ascends k [] h = refl
tail_ascends k (m ∷ ks) h = and_second (key_at_most k m) _ h

pub ascending_at :
    (ks : List Key)
    → ascends ks ≡ true
    → (i j : ℕ)
    → i < j
    → j < length ks
    → key_at_most (get_or ks i []) (get_or ks j []) ≡ true
ascending_at [] h i j l m = absurd (not-suc-le-zero m)
ascending_at (k ∷ ks) h i zero l m = absurd (not-suc-le-zero l)
ascending_at (k ∷ ks) h zero (suc j) l m = first_least k ks h j (le_of_suc-le-suc m)
ascending_at (k ∷ ks) h (suc i) (suc j) l m =
    ascending_at ks (tail_ascends k ks h) i j (le_of_suc-le-suc l) (le_of_suc-le-suc m)
