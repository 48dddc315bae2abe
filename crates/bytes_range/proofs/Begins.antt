-- Which keys a prefix and a subrange hold, by induction on the prefix: for b ∷ p and the key y ∷ x they are those of p and x
-- if b is y. If b is above y, the start is above the key; if it is below y, the end is, as no byte is above FF.
-- Assumes nothing.
use Prim.Native.Nat.{ℕ, ◌+◌, ◌<◌}
use native.Mathlib.Omega.{arith}
use mathlib.Core.Path.{◌≡◌, refl, sym, ◌∙◌}
use mathlib.Core.Bool.{Bool, true, false, ◌&&◌, and-true, and-false, and_assoc}
use mathlib.Core.Option.{Option, none, some}
use mathlib.Core.List.{[], ◌∷◌}
use lib.Dec.{eqb, ltb}
use borrow.Author.Tests.{ltb-true, ltb-false, eqb-true, eqb-false, eq-eqb, ne_eqb}
use Rattle.base.specs.Pick.{pick}
use Rattle.base.specs.Bytes.{bytes_tail}
use Rattle.key.specs.Order.{Key, cmp_key, cmp_number, is_less}
use Rattle.std.specs.declared.cmp.Ordering.{Ordering}
use Rattle.std.specs.declared.cmp.Ordering.TheVariants.{Less, Equal, Greater}
use Rattle.key.proofs.Linear.{cmp_self, number_linear, number_less, number_greater}
use Rattle.comparable_range.specs.Range.{Bound, unbounded, included, excluded, Range, start_holds, end_holds, holds}
use Rattle.bytes_range.specs.Prefix.{next_prefix, up_to, from_prefix, join_start, join_end, from_prefix_and_subrange}
use Rattle.bytes_range.specs.Laws.{begins_with, WholeSubrangeIsFromPrefix, SubrangeHoldsPrefixThenKey, FromPrefixHoldsWhatBeginsWithIt}
use Rattle.bytes_range.proofs.NextKey.{next_after, next_after_lem, no_next}

-- ---- numbers
self : (b : ℕ) → cmp_number b b ≡ Equal
self = cmp_self cmp_number number_linear

less_number : (m n : ℕ) → cmp_number m n ≡ Less → m < n
less_number m n e = go (ltb m n) (ltb n m) refl refl
  where
    go : (s t : Bool) → ltb m n ≡ s → ltb n m ≡ t → m < n
    go true t h k = ltb-true m n h
    go false true h k =
        let g = number_greater m n (ltb-true n m k) in
        let z : ◌≡◌ {A = ℕ} 0 1 = cc in
        omega arith
    go false false h k =
        let q : m ≡ n = omega (arith, ltb-false m n h, ltb-false n m k) in
        let z : ◌≡◌ {A = ℕ} 0 1 = cc (self m) in
        omega arith

-- ---- the start
pub start_none : (s : Bound) → join_start [] s ≡ s
unfolding join_start
start_none unbounded = refl
start_none (included k) = refl
start_none (excluded k) = refl

start_same :
    (b : ℕ) (p : Key) (s : Bound) (x : Key)
    → start_holds (join_start (b ∷ p) s) (b ∷ x) ≡ start_holds (join_start p s) x
unfolding start_holds join_start cmp_key
start_same b [] unbounded [] = rw (self b)
start_same b [] unbounded (y ∷ x) = rw (self b)
start_same b (c ∷ p) unbounded x = rw (self b)
start_same b p (included k) x = rw (self b)
start_same b p (excluded k) x = rw (self b)

start_above :
    (b : ℕ) (p : Key) (s : Bound) (y : ℕ) (x : Key)
    → cmp_number b y ≡ Greater
    → start_holds (join_start (b ∷ p) s) (y ∷ x) ≡ false
unfolding start_holds join_start cmp_key
start_above b p unbounded y x g = rw g
start_above b p (included k) y x g = rw g
start_above b p (excluded k) y x g = rw g

start_past : (b : ℕ) (p : Key) (s : Bound) → start_holds (join_start (b ∷ p) s) [] ≡ false
unfolding start_holds join_start cmp_key
start_past b p unbounded = refl
start_past b p (included k) = refl
start_past b p (excluded k) = refl

-- ---- the end
pub end_none : (e : Bound) → join_end [] e ≡ e
unfolding join_end
end_none unbounded = rw no_next
end_none (included k) = refl
end_none (excluded k) = refl

next_same : (b : ℕ) (o : Option Key) (x : Key) → end_holds (up_to (next_after b o)) (b ∷ x) ≡ end_holds (up_to o) x
unfolding end_holds next_after cmp_key
next_same b none x = go (eqb b 255)
  where
    go : (t : Bool) → end_holds (up_to (pick t none (some ((b + 1) ∷ [])))) (b ∷ x) ≡ true
    go true = refl
    go false = rw (number_less b (b + 1) (omega arith))
next_same b (some q) x = rw (self b)

end_same : (b : ℕ) (p : Key) (e : Bound) (x : Key) → end_holds (join_end (b ∷ p) e) (b ∷ x) ≡ end_holds (join_end p e) x
unfolding end_holds join_end cmp_key
end_same b p unbounded x = rw (next_after_lem b p) (next_same b (next_prefix p) x)
end_same b p (included k) x = rw (self b)
end_same b p (excluded k) x = rw (self b)

-- a key whose first byte is greater than b is not below b + 1
raised_below : (b y : ℕ) (x : Key) → b < y → is_less (cmp_key (y ∷ x) ((b + 1) ∷ [])) ≡ false
unfolding cmp_key
raised_below b y x h = go (eqb y (b + 1)) refl
  where
    ends : (x : Key) → is_less (cmp_key x []) ≡ false
    ends [] = refl
    ends (z ∷ x) = refl

    go : (t : Bool) → eqb y (b + 1) ≡ t → is_less (cmp_key (y ∷ x) ((b + 1) ∷ [])) ≡ false
    go true w = rw (eqb-true y (b + 1) w, self (b + 1)) (ends x)
    go false w = rw (number_greater y (b + 1) (omega (arith, eqb-false y (b + 1) w)))

next_below :
    (b : ℕ) (o : Option Key) (y : ℕ) (x : Key)
    → b < y
    → y < 256
    → end_holds (up_to (next_after b o)) (y ∷ x) ≡ false
unfolding end_holds next_after cmp_key
next_below b none y x h k = go (eqb b 255) refl
  where
    go : (t : Bool) → eqb b 255 ≡ t → end_holds (up_to (pick t none (some ((b + 1) ∷ [])))) (y ∷ x) ≡ false
    go true w = absurd (omega (arith, eqb-true b 255 w))
    go false w = raised_below b y x h
next_below b (some q) y x h k = rw (number_greater y b h)

end_below :
    (b : ℕ) (p : Key) (e : Bound) (y : ℕ) (x : Key)
    → b < y
    → y < 256
    → end_holds (join_end (b ∷ p) e) (y ∷ x) ≡ false
unfolding end_holds join_end cmp_key
end_below b p unbounded y x h k = rw (next_after_lem b p) (next_below b (next_prefix p) y x h k)
end_below b p (included j) y x h k = rw (number_greater y b h)
end_below b p (excluded j) y x h k = rw (number_greater y b h)

-- ---- the keys held
-- a byte more in front of the prefix and of the key
held_on :
    (b : ℕ) (p : Key) (r : Range) (y : ℕ) (x : Key)
    → y < 256
    → holds (from_prefix_and_subrange (b ∷ p) r) (y ∷ x) ≡ (eqb b y && holds (from_prefix_and_subrange p r) x)
unfolding holds from_prefix_and_subrange
held_on b p r y x k = go (cmp_number b y) refl
  where
    go :
        (o : Ordering)
        → cmp_number b y ≡ o
        → holds (from_prefix_and_subrange (b ∷ p) r) (y ∷ x) ≡ (eqb b y && holds (from_prefix_and_subrange p r) x)
    go Less e =
        let h = less_number b y e in
        rw (end_below b p r.end y x h k, and-false, ne_eqb b y (λ q. omega arith))
    go Equal e =
        let q = number_linear.equal b y e in
        rw (eq-eqb b y q, q, start_same y p r.start x, end_same y p r.end x)
    go Greater e =
        rw (start_above b p r.start y x e, ne_eqb b y (λ q. let z : ◌≡◌ {A = ℕ} 0 1 = cc (self b) in omega arith))

held_past : (b : ℕ) (p : Key) (r : Range) → holds (from_prefix_and_subrange (b ∷ p) r) [] ≡ false
unfolding holds from_prefix_and_subrange
held_past b p r = rw (start_past b p r.start)

-- an empty prefix changes nothing
pub no_prefix : (r : Range) → from_prefix_and_subrange [] r ≡ r
unfolding from_prefix_and_subrange
no_prefix r = rw (start_none r.start, end_none r.end)

pub subrange_holds_prefix_then_key : SubrangeHoldsPrefixThenKey
unfolding begins_with
subrange_holds_prefix_then_key [] r x h = rw (no_prefix r)
subrange_holds_prefix_then_key (b ∷ p) r [] h = held_past b p r
subrange_holds_prefix_then_key (b ∷ p) r (y ∷ x) h =
    rw (held_on b p r y x (h.below 0), subrange_holds_prefix_then_key p r x (bytes_tail h))
    (sym (and_assoc (eqb b y) (begins_with p x) _))

-- ---- the unbounded subrange
pub whole_subrange_is_from_prefix : WholeSubrangeIsFromPrefix
unfolding from_prefix_and_subrange from_prefix join_start join_end
whole_subrange_is_from_prefix [] = rw no_next
whole_subrange_is_from_prefix (b ∷ p) = refl

pub from_prefix_holds_what_begins_with_it : FromPrefixHoldsWhatBeginsWithIt
unfolding holds start_holds end_holds
from_prefix_holds_what_begins_with_it p x h =
    rw (← whole_subrange_is_from_prefix p) (subrange_holds_prefix_then_key p _ x h ∙ and-true (begins_with p x))
