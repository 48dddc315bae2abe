-- Keys by the tests `key_at_most` and `key_below`: a preorder, and what follows from one key below another.
-- Assumes nothing.
use mathlib.Core.Path.{◌≡◌, refl, sym, ap, ◌∙◌}
use mathlib.Core.Logic.{inl, inr}
use mathlib.Core.Bool.{true, false, true≢false}
use Rattle.base.specs.Sort.{Preorder}
use Rattle.base.specs.SortLaws.{decided}
use Rattle.key.specs.Order.{Key, cmp_key, swap, at_most, key_at_most, key_below}
use Rattle.std.specs.declared.cmp.Ordering.{Ordering}
use Rattle.std.specs.declared.cmp.Ordering.TheVariants.{Less, Equal, Greater}
use Rattle.key.proofs.Linear.{key_order_is_total, key_self, below_not}

at_most_total : (a b : Key) → key_at_most a b ≡ false → key_at_most b a ≡ true
at_most_total a b h = ap at_most (key_order_is_total.swaps a b) ∙ go (cmp_key a b) h
  where
    go : (o : Ordering) → at_most o ≡ false → at_most (swap o) ≡ true
    go Less e = sym e
    go Equal e = refl
    go Greater e = refl

at_most_trans : (a b c : Key) → key_at_most a b ≡ true → key_at_most b c ≡ true → key_at_most a c ≡ true
at_most_trans a b c h k = go (cmp_key a b) (cmp_key b c) refl refl h k
  where
    go : (o p : Ordering) → cmp_key a b ≡ o → cmp_key b c ≡ p → at_most o ≡ true → at_most p ≡ true → key_at_most a c ≡ true
    go Less Less e f h k = ap at_most (key_order_is_total.trans a b c e f)
    go Less Equal e f h k = rw (← key_order_is_total.equal b c f, e)
    go Less Greater e f h k = absurd (true≢false (sym k))
    go Equal Less e f h k = rw (key_order_is_total.equal a b e, f)
    go Equal Equal e f h k = rw (key_order_is_total.equal a b e, f)
    go Equal Greater e f h k = absurd (true≢false (sym k))
    go Greater p e f h k = absurd (true≢false (sym h))

pub keys_ordered : Preorder key_at_most
keys_ordered = record { total = at_most_total; trans = at_most_trans }

pub at_most_self : (a : Key) → key_at_most a a ≡ true
at_most_self a = ap at_most (key_self a)

pub at_most_both : (a b : Key) → key_at_most a b ≡ true → key_at_most b a ≡ true → a ≡ b
at_most_both a b h k = go (cmp_key a b) refl h (ap at_most (sym (key_order_is_total.swaps a b)) ∙ k)
  where
    go : (o : Ordering) → cmp_key a b ≡ o → at_most o ≡ true → at_most (swap o) ≡ true → a ≡ b
    go Less e h k = absurd (true≢false (sym k))
    go Equal e h k = key_order_is_total.equal a b e
    go Greater e h k = absurd (true≢false (sym h))

-- ---- below is not at most, the other way round
pub not_below_lem : (a b : Key) → key_at_most b a ≡ true → key_below a b ≡ false
not_below_lem a b h = rw (below_not a b, h)

pub below_of : (a b : Key) → key_at_most b a ≡ false → key_below a b ≡ true
below_of a b h = rw (below_not a b, h)

pub below_fails : (a b : Key) → key_below a b ≡ true → key_at_most b a ≡ false
below_fails a b h = elim (decided (key_at_most b a)) [ inl k ↦ absurd (true≢false (sym h ∙ not_below_lem a b k)) | inr k ↦ k ]

pub at_most_of_not : (a b : Key) → key_below a b ≡ false → key_at_most b a ≡ true
at_most_of_not a b h = elim (decided (key_at_most b a)) [ inl k ↦ k | inr k ↦ absurd (true≢false (sym (below_of a b k) ∙ h)) ]

pub below_at_most : (a b : Key) → key_below a b ≡ true → key_at_most a b ≡ true
below_at_most a b h = at_most_total b a (below_fails a b h)

-- ---- chains
pub at_most_below : (a b c : Key) → key_at_most a b ≡ true → key_below b c ≡ true → key_below a c ≡ true
at_most_below a b c h k =
    below_of a c
    (elim (decided (key_at_most c a)) [ inl m ↦ absurd (true≢false (sym (at_most_trans c a b m h) ∙ below_fails b c k)) | inr m ↦ m ])

pub below_trans : (a b c : Key) → key_below a b ≡ true → key_below b c ≡ true → key_below a c ≡ true
below_trans a b c h k = at_most_below a b c (below_at_most a b h) k
