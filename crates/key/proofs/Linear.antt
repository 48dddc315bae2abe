-- Numbers and keys are totally ordered: `or_else` carries the laws from numbers to lists of them.
-- Assumes nothing.
use Prim.Native.Nat.compare
use Prim.Native.Nat.{ℕ, zero, suc, ◌<◌}
use native.Mathlib.Nat.{le_of_suc-le-suc, not-suc-le-zero}
use mathlib.Core.Path.{◌≡◌, refl, ap, ◌∙◌}
use mathlib.Core.Bool.{not}
use mathlib.Core.List.{[], ◌∷◌, ◌++◌}
use lib.IntN.{neg_ℤ}
use Rattle.key.specs.Order.{Key, swap, or_else, at_most, is_less, sign, cmp_number, cmp_key, key_below, key_at_most}
use Rattle.key.specs.Laws.{Linear, KeyOrderIsTotal, FirstUnequalByteDecides, ProperPrefixComesFirst}
use Rattle.std.specs.declared.cmp.Ordering.{Ordering}
use Rattle.std.specs.declared.cmp.Ordering.TheVariants.{Less, Equal, Greater}

own_swap : (o : Ordering) → o ≡ swap o → o ≡ Equal
own_swap Less e = cc
own_swap Equal e = refl
own_swap Greater e = cc

pub swap_or_else : (o p : Ordering) → swap (or_else o p) ≡ or_else (swap o) (swap p)
swap_or_else Less p = refl
swap_or_else Equal p = refl
swap_or_else Greater p = refl

pub or_else_equal : (o p : Ordering) → or_else o p ≡ Equal → (o ≡ Equal) × (p ≡ Equal)
or_else_equal Less p e = (cc, cc)
or_else_equal Equal p e = (refl, e)
or_else_equal Greater p e = (cc, cc)

pub or_else_end : (o : Ordering) → or_else o Equal ≡ o
or_else_end Less = refl
or_else_end Equal = refl
or_else_end Greater = refl

-- exchange negates the number
pub sign_swap : (o : Ordering) → sign (swap o) ≡ neg_ℤ (sign o)
sign_swap Less = refl
sign_swap Equal = refl
sign_swap Greater = refl

module _ {A : Type 0} (cmp : A → A → Ordering) (L : Linear cmp) where
  pub cmp_self : (a : A) → cmp a a ≡ Equal
  cmp_self a = own_swap (cmp a a) (L.swaps a a)

  -- a second comparison after a first is transitive where both are
  pub or_else_trans :
      (a b c : A) (p q r : Ordering)
      → (p ≡ Less → q ≡ Less → r ≡ Less)
      → or_else (cmp a b) p ≡ Less
      → or_else (cmp b c) q ≡ Less
      → or_else (cmp a c) r ≡ Less
  or_else_trans a b c p q r tails h k = go (cmp a b) (cmp b c) refl refl h k
    where
      go : (o₁ o₂ : Ordering) → cmp a b ≡ o₁ → cmp b c ≡ o₂ → or_else o₁ p ≡ Less → or_else o₂ q ≡ Less → or_else (cmp a c) r ≡ Less
      go Less Less e₁ e₂ h k = rw (L.trans a b c e₁ e₂)
      go Less Equal e₁ e₂ h k = rw (← L.equal b c e₂, e₁)
      go Less Greater e₁ e₂ h k = cc
      go Equal Less e₁ e₂ h k = rw (L.equal a b e₁, e₂)
      go Equal Equal e₁ e₂ h k = rw (L.equal a b e₁, e₂) (tails h k)
      go Equal Greater e₁ e₂ h k = cc
      go Greater Less e₁ e₂ h k = cc
      go Greater Equal e₁ e₂ h k = cc
      go Greater Greater e₁ e₂ h k = cc

-- ---- numbers
number_suc : (m n : ℕ) → cmp_number (suc m) (suc n) ≡ cmp_number m n
unfolding cmp_number
number_suc m n = rw compare.suc-suc

number_zero_suc : (n : ℕ) → cmp_number zero (suc n) ≡ Less
unfolding cmp_number
number_zero_suc n = rw compare.zero-suc

number_suc_zero : (n : ℕ) → cmp_number (suc n) zero ≡ Greater
unfolding cmp_number
number_suc_zero n = rw compare.suc-zero

number_zero : cmp_number zero zero ≡ Equal
unfolding cmp_number
number_zero = refl

number_swaps : (a b : ℕ) → cmp_number b a ≡ swap (cmp_number a b)
number_swaps zero zero = rw number_zero
number_swaps zero (suc b) = rw (number_zero_suc b, number_suc_zero b)
number_swaps (suc a) zero = rw (number_zero_suc a, number_suc_zero a)
number_swaps (suc a) (suc b) = rw (number_suc b a, number_suc a b) (number_swaps a b)

number_equal : (a b : ℕ) → cmp_number a b ≡ Equal → a ≡ b
number_equal zero zero e = refl
number_equal zero (suc b) e = cc (number_zero_suc b)
number_equal (suc a) zero e = cc (number_suc_zero a)
number_equal (suc a) (suc b) e = ap suc (number_equal a b (cc (number_suc a b)))

number_trans : (a b c : ℕ) → cmp_number a b ≡ Less → cmp_number b c ≡ Less → cmp_number a c ≡ Less
number_trans zero zero c h k = k
number_trans (suc a) zero c h k = cc (number_suc_zero a)
number_trans zero (suc b) zero h k = cc (number_suc_zero b)
number_trans (suc a) (suc b) zero h k = cc (number_suc_zero b)
number_trans zero (suc b) (suc c) h k = number_zero_suc c
number_trans (suc a) (suc b) (suc c) h k =
    number_suc a c ∙ number_trans a b c (cc (number_suc a b)) (cc (number_suc b c))

pub number_linear : Linear cmp_number
number_linear = record { swaps = number_swaps; equal = number_equal; trans = number_trans }

pub number_less : (m n : ℕ) → m < n → cmp_number m n ≡ Less
number_less m zero h = absurd (not-suc-le-zero h)
number_less zero (suc n) h = number_zero_suc n
number_less (suc m) (suc n) h = number_suc m n ∙ number_less m n (le_of_suc-le-suc h)

pub number_greater : (m n : ℕ) → n < m → cmp_number m n ≡ Greater
number_greater m n h = number_swaps n m ∙ ap swap (number_less n m h)

-- ---- keys
key_swaps : (a b : Key) → cmp_key b a ≡ swap (cmp_key a b)
unfolding cmp_key
key_swaps [] [] = refl
key_swaps [] (y ∷ b) = refl
key_swaps (x ∷ a) [] = refl
key_swaps (x ∷ a) (y ∷ b) = rw (swap_or_else, number_swaps x y, key_swaps a b)

key_equal_lem : (a b : Key) → cmp_key a b ≡ Equal → a ≡ b
unfolding cmp_key
key_equal_lem [] [] e = refl
key_equal_lem [] (y ∷ b) e = cc
key_equal_lem (x ∷ a) [] e = cc
key_equal_lem (x ∷ a) (y ∷ b) e =
    let h = or_else_equal (cmp_number x y) (cmp_key a b) e in
    cc (number_equal x y h.0, key_equal_lem a b h.1)

key_trans : (a b c : Key) → cmp_key a b ≡ Less → cmp_key b c ≡ Less → cmp_key a c ≡ Less
unfolding cmp_key
key_trans [] [] c h k = k
key_trans (x ∷ a) [] c h k = cc
key_trans [] (y ∷ b) [] h k = cc
key_trans (x ∷ a) (y ∷ b) [] h k = cc
key_trans [] (y ∷ b) (z ∷ c) h k = refl
key_trans (x ∷ a) (y ∷ b) (z ∷ c) h k = or_else_trans cmp_number number_linear x y z _ _ _ (key_trans a b c) h k

pub key_order_is_total : KeyOrderIsTotal
key_order_is_total = record { swaps = key_swaps; equal = key_equal_lem; trans = key_trans }

pub key_self : (a : Key) → cmp_key a a ≡ Equal
key_self a = cmp_self cmp_key key_order_is_total a

pub proper_prefix_comes_first : ProperPrefixComesFirst
unfolding cmp_key
proper_prefix_comes_first [] x b = refl
proper_prefix_comes_first (y ∷ a) x b = rw (cmp_self cmp_number number_linear y) (proper_prefix_comes_first a x b)

-- a shared front does not matter
pub same_front : (p a b : Key) → cmp_key (p ++ a) (p ++ b) ≡ cmp_key a b
unfolding cmp_key
same_front [] a b = refl
same_front (x ∷ p) a b = rw (cmp_self cmp_number number_linear x) (same_front p a b)

pub first_unequal_byte_decides : FirstUnequalByteDecides
unfolding cmp_key
first_unequal_byte_decides front x y a b h = same_front front (x ∷ a) (y ∷ b) ∙ rw (number_less x y h)

-- below is not at most, the other way round
pub below_not : (a b : Key) → key_below a b ≡ not (key_at_most b a)
below_not a b = rw (key_swaps a b) (go (cmp_key a b))
  where
    go : (o : Ordering) → is_less o ≡ not (at_most (swap o))
    go Less = refl
    go Equal = refl
    go Greater = refl
