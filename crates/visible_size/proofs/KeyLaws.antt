-- The proofs of specs/KeyLaws.antt.
-- Assumes nothing.
use Rattle.std.proofs.Common.{◌≡◌, ℕ, zero, suc, ◌≤◌, Bool, true, false, eqb, List, [], ◌∷◌, take, sym, refl, ap, true≢false, arith, eq-eqb, eqb-true}
use mathlib.Core.Option.{Option, none, some}
use Rattle.base.specs.Pick.{pick}
use Rattle.key.specs.Order.{Key, cmp_key, cmp_number, or_else, at_most, is_less, is_equal, key_at_most}
use Rattle.std.specs.declared.cmp.Ordering.{Ordering}
use Rattle.std.specs.declared.cmp.Ordering.TheVariants.{Less, Equal, Greater}
use Rattle.key.proofs.Linear.{or_else_equal, key_order_is_total, key_self, number_greater}
use Rattle.key.proofs.Digits.{Compared, below, same, above, compared, number_self}
use Rattle.comparable_range.specs.Range.{Bound, unbounded, included, excluded, Range, cmp_bound, cmp_range}
use Rattle.manifest.specs.Ranges.{own, effective}
use Rattle.visible_size.specs.Steps.{common_prefix_len, same_range, ranges_fraction}
use Rattle.visible_size.specs.Sizes.{fraction_with_last, visible_fraction}
use Rattle.visible_size.specs.KeyLaws.{SameRangeIsEquality, SameAsItself, CommonPrefixIsShared, CommonPrefixIsLongest, KeysBetweenShareThePrefix, WithoutLastKeyIsWhole, WithoutVisibleRangeIsWhole, OwnRangeIsWhole}
use Rattle.visible_size.specs.declared.VisibleFraction.TheVariants.{Whole}

-- ---- ranges that are the same
is_equal_lem : (o : Ordering) → is_equal o ≡ true → o ≡ Equal
is_equal_lem Less e = absurd (true≢false (sym e))
is_equal_lem Equal e = refl
is_equal_lem Greater e = absurd (true≢false (sym e))

unlike : {A : Type 0} (start : Bool) → pick start Less Greater ≡ Equal → A
unlike true e = absurd (true≢false (sym (ap is_equal e)))
unlike false e = absurd (true≢false (sym (ap is_equal e)))

unlike_too : {A : Type 0} (start : Bool) → pick start Greater Less ≡ Equal → A
unlike_too true e = absurd (true≢false (sym (ap is_equal e)))
unlike_too false e = absurd (true≢false (sym (ap is_equal e)))

bound_equal : (start : Bool) (a b : Bound) → cmp_bound start a b ≡ Equal → a ≡ b
unfolding cmp_bound
bound_equal start unbounded unbounded e = refl
bound_equal start unbounded (included b) e = unlike start e
bound_equal start unbounded (excluded b) e = unlike start e
bound_equal start (included a) unbounded e = unlike_too start e
bound_equal start (included a) (included b) e = ap included (key_order_is_total.equal a b e)
bound_equal start (included a) (excluded b) e = unlike start (or_else_equal (cmp_key a b) _ e).1
bound_equal start (excluded a) unbounded e = unlike_too start e
bound_equal start (excluded a) (included b) e = unlike_too start (or_else_equal (cmp_key a b) _ e).1
bound_equal start (excluded a) (excluded b) e = ap excluded (key_order_is_total.equal a b e)

bound_self : (start : Bool) (a : Bound) → cmp_bound start a a ≡ Equal
unfolding cmp_bound
bound_self start unbounded = refl
bound_self start (included a) = key_self a
bound_self start (excluded a) = key_self a

range_equal : {a b c d : Bound} → a ≡ b → c ≡ d → ◌≡◌ {A = Range} (record { start = a; end = c }) (record { start = b; end = d })
range_equal p q = rw (p, q)

pub same_range_is_equality : SameRangeIsEquality
unfolding same_range cmp_range
same_range_is_equality r q e =
    let o = or_else_equal (cmp_bound true r.start q.start) (cmp_bound false r.end q.end) (is_equal_lem _ e) in
    range_equal (bound_equal true r.start q.start o.0) (bound_equal false r.end q.end o.1)

pub same_as_itself : SameAsItself
unfolding same_range cmp_range
same_as_itself r = rw (bound_self true r.start, bound_self false r.end)

-- ---- the bytes that are skipped
pub common_prefix_is_shared : CommonPrefixIsShared
unfolding common_prefix_len
common_prefix_is_shared [] [] = refl
common_prefix_is_shared [] (y ∷ b) = refl
common_prefix_is_shared (x ∷ a) [] = refl
common_prefix_is_shared (x ∷ a) (y ∷ b) = go (common_prefix_len a b) (common_prefix_is_shared a b) (eqb x y) refl
  where
    go : (n : ℕ) → take n a ≡ take n b → (t : Bool) → eqb x y ≡ t → take (pick t (suc n) 0) (x ∷ a) ≡ take (pick t (suc n) 0) (y ∷ b)
    go n h true e = rw (eqb-true x y e, h)
    go n h false e = refl

abbrev head_or : ℕ → List ℕ → ℕ
head_or d [] = d
head_or d (x ∷ l) = x

abbrev tail_of : List ℕ → List ℕ
tail_of [] = []
tail_of (x ∷ l) = l

pub common_prefix_is_longest : CommonPrefixIsLongest
unfolding common_prefix_len
common_prefix_is_longest a b zero h k e = omega arith
common_prefix_is_longest [] b (suc n) h k e = absurd (omega arith)
common_prefix_is_longest (x ∷ a) [] (suc n) h k e = absurd (omega arith)
common_prefix_is_longest (x ∷ a) (y ∷ b) (suc n) h k e =
    let i : n ≤ common_prefix_len a b = common_prefix_is_longest a b n (omega arith) (omega arith) (ap tail_of e) in
    rw (eq-eqb x y (ap (head_or 0) e)) (omega (arith, i))

-- a byte at most z, and z at most that byte: they are the same, and what follows decides
not_greater : {A : Type 0} (o p : Ordering) → o ≡ Greater → at_most (or_else o p) ≡ true → A
not_greater Less p e h = absurd (true≢false (ap is_less e))
not_greater Equal p e h = absurd (true≢false (ap is_equal e))
not_greater Greater p e h = absurd (true≢false (sym h))

byte_between :
    (x z : ℕ) (o p : Ordering)
    → at_most (or_else (cmp_number x z) o) ≡ true
    → at_most (or_else (cmp_number z x) p) ≡ true
    → (z ≡ x) × ((at_most o ≡ true) × (at_most p ≡ true))
byte_between x z o p h i = go (compared z x)
  where
    go : Compared z x → (z ≡ x) × ((at_most o ≡ true) × (at_most p ≡ true))
    go (below l) = not_greater (cmp_number x z) o (number_greater x z l) h
    go (same e) = (e, (rw (e, number_self) at h, rw (e, number_self) at i))
    go (above l) = not_greater (cmp_number z x) p (number_greater z x l) i

pub keys_between_share_the_prefix : KeysBetweenShareThePrefix
unfolding common_prefix_len cmp_key
keys_between_share_the_prefix [] last k h i = refl
keys_between_share_the_prefix (x ∷ a) [] k h i = refl
keys_between_share_the_prefix (x ∷ a) (y ∷ b) [] h i = absurd (true≢false (sym h))
keys_between_share_the_prefix (x ∷ a) (y ∷ b) (z ∷ c) h i = go (common_prefix_len a b) (keys_between_share_the_prefix a b c) (eqb x y) refl
  where
    go :
        (n : ℕ)
        → (key_at_most a c ≡ true → key_at_most c b ≡ true → take n c ≡ take n a)
        → (t : Bool)
        → eqb x y ≡ t
        → take (pick t (suc n) 0) (z ∷ c) ≡ take (pick t (suc n) 0) (x ∷ a)
    go n rest false e = refl
    go n rest true e =
        let q = byte_between x z (cmp_key a c) (cmp_key c b) h (rw (← eqb-true x y e) at i) in
        rw (q.0, rest q.1.0 q.1.1)

-- ---- views that are whole
whole_of : (last : Option Key) (physical effective : Range) → effective ≡ physical → fraction_with_last last physical effective ≡ Whole
unfolding ranges_fraction
whole_of none physical effective e = refl
whole_of (some k) physical effective e = rw (e, same_as_itself physical)

pub without_last_key_is_whole : WithoutLastKeyIsWhole
unfolding visible_fraction
without_last_key_is_whole v e = rw e

pub own_range_is_whole : OwnRangeIsWhole
unfolding visible_fraction
own_range_is_whole v e = whole_of v.table.last (own v.table) (effective v) e

pub without_visible_range_is_whole : WithoutVisibleRangeIsWhole
unfolding effective
without_visible_range_is_whole v e = own_range_is_whole v (rw e)
