-- Which ranges hold a key. None lies between k and k00, which is k with a byte 0 after it. Every other range that passes
-- holds one of its bounds' keys, the key k00 after its start's key k, or the empty key.
-- Assumes nothing.
use Prim.Native.Nat.{zero, suc}
use native.Mathlib.Omega.{arith}
use mathlib.Core.Path.{◌≡◌, refl}
use mathlib.Core.Logic.{inl, inr}
use mathlib.Core.Bool.{Bool, true, false, false≢true}
use mathlib.Core.List.{[], ◌∷◌, ◌++◌}
use Rattle.base.specs.Bytes.{Bytes, bytes_none, bytes_cons, bytes_append}
use Rattle.key.specs.Order.{Key, cmp_key, cmp_number, or_else, at_most, is_equal}
use Rattle.std.specs.declared.cmp.Ordering.{Ordering}
use Rattle.std.specs.declared.cmp.Ordering.TheVariants.{Less, Equal, Greater}
use Rattle.key.proofs.Linear.{key_order_is_total, key_self, or_else_end, number_less, proper_prefix_comes_first}
use Rattle.comparable_range.specs.Range.{Bound, unbounded, included, excluded, Range, holds}
use Rattle.comparable_range.specs.Cut.{Cut, before, after, cmp_cut, cut_at_most, ◌≼◌, ◌≺◌, start_cut, end_cut}
use Rattle.comparable_range.specs.Laws.{keyless_bounds, KeylessPassAndHoldNone, ByteBound, OthersHoldAKey, FailingHoldsNone, IncludedStartIsHeld}
use Rattle.comparable_range.proofs.Cut.{≼_refl, ≼-antisym, ≼_trans, ≺-≼, ≼-not-≺, order, below-≼, ≼-above, below-≺, before-≺-after, after-≼, ≼-before}
use Rattle.comparable_range.proofs.ByCuts.{passes-≺, ≺-passes, fails-≼, held_parts, held_by_parts}

-- ---- the key after a key
next : (k x : Key) → cmp_key k x ≡ Less → at_most (cmp_key (k ++ 0 ∷ []) x) ≡ true
unfolding cmp_key cmp_number
next [] [] e = cc
next [] (zero ∷ []) e = refl
next [] (zero ∷ b ∷ x) e = refl
next [] (suc n ∷ x) e = rw (number_less 0 (suc n) (omega arith))
next (b ∷ k) [] e = cc
next (b ∷ k) (y ∷ x) e = go (cmp_number b y) e (λ d. next k x d)
  where
    go :
        (o : Ordering)
        → or_else o (cmp_key k x) ≡ Less
        → (cmp_key k x ≡ Less → at_most (cmp_key (k ++ 0 ∷ []) x) ≡ true)
        → at_most (or_else o (cmp_key (k ++ 0 ∷ []) x)) ≡ true
    go Less e ih = refl
    go Equal e ih = ih e
    go Greater e ih = cc

-- a key after k is k00 or after it
pub next-≼ : (k x : Key) → after k ≼ before x → before (k ++ 0 ∷ []) ≼ before x
unfolding cut_at_most cmp_cut cmp_number
next-≼ k x h = record { holds = go (cmp_key k x) refl h.holds }
  where
    go :
        (o : Ordering)
        → cmp_key k x ≡ o
        → at_most (or_else o Greater) ≡ true
        → at_most (or_else (cmp_key (k ++ 0 ∷ []) x) Equal) ≡ true
    go Less e h = rw or_else_end (next k x e)
    go Equal e h = cc
    go Greater e h = cc

pub after-≺-next : (k : Key) → after k ≺ before (k ++ 0 ∷ [])
unfolding cut_at_most cmp_cut cmp_number
after-≺-next k = record { fails = rw (key_order_is_total.swaps k (k ++ 0 ∷ []), proper_prefix_comes_first k 0 []) }

-- the empty key is the first
first-≼ : (x : Key) → before [] ≼ before x
unfolding cut_at_most cmp_cut cmp_number cmp_key
first-≼ [] = record { holds = refl }
first-≼ (b ∷ x) = record { holds = refl }

pub equal_keys : (a b : Key) → is_equal (cmp_key a b) ≡ true → a ≡ b
equal_keys a b h = key_order_is_total.equal a b (go (cmp_key a b) h)
  where
    go : (o : Ordering) → is_equal o ≡ true → o ≡ Equal
    go Less h = cc
    go Equal h = refl
    go Greater h = cc

-- of two keys in order that are not equal, the first lies wholly before the second
unequal_keys : {a b : Key} → is_equal (cmp_key a b) ≡ false → before a ≼ before b → after a ≼ before b
unequal_keys {a} {b} n h =
    elim (order (before b) (before a)) [
      | inl k ↦ let e : a ≡ b = cc (≼-antisym h k) in
          let f : cmp_key a b ≡ Equal = rw e (key_self b) in
          let g : false ≡ true = cc in
          absurd (false≢true g)
      | inr k ↦ after-≼ k
    ]

-- ---- ranges that hold no key
pub not_held : (r : Range) (x : Key) → (start_cut r.start ≼ before x → after x ≼ end_cut r.end → ⊥) → holds r x ≡ false
not_held r x f = go (holds r x) refl
  where
    go : (t : Bool) → holds r x ≡ t → t ≡ false
    go true e = let h = held_parts r x e in absurd (f h.0 h.1)
    go false e = refl

-- no key lies in what ends at or before its start
crossed : {s e : Cut} (x : Key) → e ≼ s → s ≼ before x → after x ≼ e → ⊥
crossed x c h k = ≼-not-≺ (≼_trans k (≼_trans c h)) (before-≺-after x)

pub failing_holds_none : FailingHoldsNone
failing_holds_none r n x = not_held r x (crossed x (fails-≼ r.start r.end n))

no_key : (s e : Bound) → keyless_bounds s e ≡ true → (x : Key) → start_cut s ≼ before x → after x ≼ end_cut e → ⊥
unfolding keyless_bounds
no_key unbounded unbounded n x h k = false≢true n
no_key unbounded (included j) n x h k = false≢true n
no_key unbounded (excluded j) n x h k = crossed x (rw (equal_keys [] j n) at (first-≼ x)) (≼_refl (before x)) k
no_key (included i) e n x h k = false≢true n
no_key (excluded i) unbounded n x h k = false≢true n
no_key (excluded i) (included j) n x h k = false≢true n
no_key (excluded i) (excluded j) n x h k =
    crossed x (rw (equal_keys (i ++ 0 ∷ []) j n) at (next-≼ i x h)) (≼_refl (before x)) k

keyless-≺ : (s e : Bound) → keyless_bounds s e ≡ true → start_cut s ≺ end_cut e
unfolding keyless_bounds
keyless-≺ unbounded unbounded n = absurd (false≢true n)
keyless-≺ unbounded (included j) n = absurd (false≢true n)
keyless-≺ unbounded (excluded j) n = below-≺ j
keyless-≺ (included i) e n = absurd (false≢true n)
keyless-≺ (excluded i) unbounded n = absurd (false≢true n)
keyless-≺ (excluded i) (included j) n = absurd (false≢true n)
keyless-≺ (excluded i) (excluded j) n = rw (← equal_keys (i ++ 0 ∷ []) j n) (after-≺-next i)

pub keyless_pass_and_hold_none : KeylessPassAndHoldNone
keyless_pass_and_hold_none r n =
    (≺-passes r.start r.end (keyless-≺ r.start r.end n), λ x. not_held r x (no_key r.start r.end n x))

-- ---- ranges that hold a key
pub included_start_is_held : IncludedStartIsHeld
included_start_is_held r k s p =
    held_by_parts r k (rw s (≼_refl (before k))) (after-≼ (rw s at (passes-≺ r.start r.end p)))

bytes_next : (k : Key) → Bytes k → Bytes (k ++ 0 ∷ [])
bytes_next k b = bytes_append k (0 ∷ []) b (bytes_cons (omega arith) bytes_none)

-- a key of bytes between two cuts
pub record Within (s e : Cut) : Type 0 where
  pub key : Key
  pub bytes : Bytes key
  pub from : s ≼ before key
  pub to : after key ≼ e

pub key_within :
    (s e : Bound)
    → ByteBound s
    → ByteBound e
    → start_cut s ≺ end_cut e
    → keyless_bounds s e ≡ false
    → Within (start_cut s) (end_cut e)
unfolding keyless_bounds
key_within unbounded unbounded b c p n = record { key = []; bytes = bytes_none; from = below-≼ _; to = ≼-above _ }
key_within unbounded (included j) b c p n = record { key = j; bytes = c; from = below-≼ _; to = ≼_refl _ }
key_within unbounded (excluded j) b c p n =
    record { key = []; bytes = bytes_none; from = below-≼ _; to = unequal_keys n (first-≼ j) }
key_within (included i) e b c p n = record { key = i; bytes = b; from = ≼_refl _; to = after-≼ p }
key_within (excluded i) unbounded b c p n =
    record { key = i ++ 0 ∷ []; bytes = bytes_next i b; from = ≺-≼ (after-≺-next i); to = ≼-above _ }
key_within (excluded i) (included j) b c p n = record { key = j; bytes = c; from = ≼-before p; to = ≼_refl _ }
key_within (excluded i) (excluded j) b c p n =
    record {
      key = i ++ 0 ∷ [];
      bytes = bytes_next i b;
      from = ≺-≼ (after-≺-next i);
      to = unequal_keys n (next-≼ i j (≺-≼ p));
    }

pub others_hold_a_key : OthersHoldAKey
others_hold_a_key r b p n =
    let w = key_within r.start r.end b.start b.end (passes-≺ r.start r.end p) n in
    record { key = w.key; bytes = w.bytes; held = held_by_parts r w.key w.from w.to }
