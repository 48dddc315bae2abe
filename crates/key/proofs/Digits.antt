-- The order of two numbers is the order of their digits.
-- Assumes nothing.
use Prim.Native.Nat.{ℕ, zero, suc, ◌+◌, ◌*◌, ◌<◌, ◌≤◌}
use native.Mathlib.Nat.{le_antisymm}
use native.Mathlib.Numerals.{add-one}
use native.Mathlib.Omega.{arith}
use mathlib.Core.Path.{◌≡◌, refl, sym, ap, ◌∙◌}
use mathlib.Core.List.{List, [], ◌∷◌}
use lib.ListN.{length, get_or, take, drop}
use lib.Seq.{drop-cons}
use Rattle.std.specs.Int.{w64, from_be_bytes, from_le_bytes}
use Rattle.base.specs.Bytes.{Bytes, bytes_tail}
use Rattle.key.specs.Order.{cmp_key, cmp_number, or_else}
use Rattle.key.specs.Word.{digits, reversed}
use Rattle.std.specs.declared.cmp.Ordering.{Ordering}
use Rattle.std.specs.declared.cmp.Ordering.TheVariants.{Less, Equal, Greater}
use Rattle.key.proofs.Linear.{cmp_self, number_linear, number_less, number_greater, or_else_end}

pub or_else_assoc : (o p q : Ordering) → or_else (or_else o p) q ≡ or_else o (or_else p q)
or_else_assoc Less p q = refl
or_else_assoc Equal p q = refl
or_else_assoc Greater p q = refl

-- two numbers are less, equal or greater
pub data Compared (x y : ℕ) : Type 0 where
  below : x < y → Compared x y
  same : x ≡ y → Compared x y
  above : y < x → Compared x y

pub compared : (x y : ℕ) → Compared x y
compared zero zero = same refl
compared zero (suc y) = below (omega arith)
compared (suc x) zero = above (omega arith)
compared (suc x) (suc y) = up (compared x y)
  where
    up : Compared x y → Compared (suc x) (suc y)
    up (below h) = below (omega arith)
    up (same e) = same (ap suc e)
    up (above h) = above (omega arith)

pub number_self : (x : ℕ) → cmp_number x x ≡ Equal
number_self x = cmp_self cmp_number number_linear x

-- the exits of `cmp_number`
module _ {x y : ℕ} where
  pub less : x < y → Less ≡ cmp_number x y
  less h = sym (number_less x y h)

  pub greater : y < x → Greater ≡ cmp_number x y
  greater h = sym (number_greater x y h)

  pub equal : y ≤ x → x ≤ y → Equal ≡ cmp_number x y
  equal h k = rw (le_antisymm k h, number_self)

-- the first digit decides, or the second
digit_step :
    (v w x y : ℕ) → x < 256 → y < 256 → cmp_number (v * 256 + x) (w * 256 + y) ≡ or_else (cmp_number v w) (cmp_number x y)
digit_step v w x y hx hy = go (compared v w) (compared x y)
  where
    go : Compared v w → Compared x y → cmp_number (v * 256 + x) (w * 256 + y) ≡ or_else (cmp_number v w) (cmp_number x y)
    go (below h) d = rw (number_less v w h) (number_less _ _ (omega arith))
    go (above h) d = rw (number_greater v w h) (number_greater _ _ (omega arith))
    go (same e) (below k) = rw (e, number_self w, number_less x y k) (number_less _ _ (omega arith))
    go (same e) (same k) = rw (e, k, number_self w, number_self y) (number_self _)
    go (same e) (above k) = rw (e, number_self w, number_greater x y k) (number_greater _ _ (omega arith))

-- the order of two numbers with equally many digits is that of their lists
pub digits_order :
    (v w : ℕ) (k l : List ℕ) → Bytes k → Bytes l → length k ≡ length l → cmp_number (digits v k) (digits w l) ≡ or_else (cmp_number v w) (cmp_key k l)
unfolding digits cmp_key
digits_order v w [] [] b c e = sym (or_else_end (cmp_number v w))
digits_order v w [] (y ∷ l) b c e = absurd (omega arith)
digits_order v w (x ∷ k) [] b c e = absurd (omega arith)
digits_order v w (x ∷ k) (y ∷ l) b c e =
    digits_order (v * 256 + x) (w * 256 + y) k l (bytes_tail b) (bytes_tail c) (omega arith)
    ∙ rw (digit_step v w x y (b.below 0) (c.below 0)) (or_else_assoc (cmp_number v w) (cmp_number x y) (cmp_key k l))

-- ---- the number of eight bytes
one_digit :
    (n v : ℕ) (a : List ℕ) (i j : ℕ)
    → j ≡ i + 1
    → i < length a
    → digits v (take (suc n) (drop i a)) ≡ digits (v * 256 + get_or a i 0) (take n (drop j a))
unfolding digits
one_digit n v a i j e h = rw (e, add-one, drop-cons a i 0)

-- what `word` makes
pub eight :
    (a : List ℕ) (i : ℕ)
    → i + 8 ≤ length a
    → from_be_bytes w64 (get_or a i 0 ∷ get_or a (i + 1) 0 ∷ get_or a (i + 2) 0 ∷ get_or a (i + 3) 0 ∷ get_or a (i + 4) 0 ∷ get_or a (i + 5) 0 ∷ get_or a (i + 6) 0 ∷ get_or a (i + 7) 0 ∷ [])
    ≡ digits 0 (take 8 (drop i a))
unfolding digits
eight a i h =
    rw (
      one_digit 7 0 a i (i + 1) refl (omega arith),
      one_digit 6 _ a (i + 1) (i + 2) (omega arith) (omega arith),
      one_digit 5 _ a (i + 2) (i + 3) (omega arith) (omega arith),
      one_digit 4 _ a (i + 3) (i + 4) (omega arith) (omega arith),
      one_digit 3 _ a (i + 4) (i + 5) (omega arith) (omega arith),
      one_digit 2 _ a (i + 5) (i + 6) (omega arith) (omega arith),
      one_digit 1 _ a (i + 6) (i + 7) (omega arith) (omega arith),
      one_digit 0 _ a (i + 7) (i + 8) (omega arith) (omega arith),
    )
    (omega arith)

-- ---- the least significant byte first
one_reversed :
    (n : ℕ) (a : List ℕ) (i j : ℕ)
    → j ≡ i + 1
    → i < length a
    → reversed (take (suc n) (drop i a)) ≡ reversed (take n (drop j a)) * 256 + get_or a i 0
unfolding reversed
one_reversed n a i j e h = rw (e, add-one, drop-cons a i 0)

-- what `reversed` makes
pub eight_reversed :
    (a : List ℕ) (i : ℕ)
    → i + 8 ≤ length a
    → from_le_bytes w64 (get_or a i 0 ∷ get_or a (i + 1) 0 ∷ get_or a (i + 2) 0 ∷ get_or a (i + 3) 0 ∷ get_or a (i + 4) 0 ∷ get_or a (i + 5) 0 ∷ get_or a (i + 6) 0 ∷ get_or a (i + 7) 0 ∷ [])
    ≡ reversed (take 8 (drop i a))
unfolding reversed
eight_reversed a i h =
    rw (
      one_reversed 7 a i (i + 1) refl (omega arith),
      one_reversed 6 a (i + 1) (i + 2) (omega arith) (omega arith),
      one_reversed 5 a (i + 2) (i + 3) (omega arith) (omega arith),
      one_reversed 4 a (i + 3) (i + 4) (omega arith) (omega arith),
      one_reversed 3 a (i + 4) (i + 5) (omega arith) (omega arith),
      one_reversed 2 a (i + 5) (i + 6) (omega arith) (omega arith),
      one_reversed 1 a (i + 6) (i + 7) (omega arith) (omega arith),
      one_reversed 0 a (i + 7) (i + 8) (omega arith) (omega arith),
    )
    (omega arith)

-- equal numbers have equal digits
pub reversed_equal : (k l : List ℕ) → Bytes k → Bytes l → length k ≡ length l → reversed k ≡ reversed l → k ≡ l
unfolding reversed
reversed_equal [] [] b c e q = refl
reversed_equal [] (y ∷ l) b c e q = absurd (omega arith)
reversed_equal (x ∷ k) [] b c e q = absurd (omega arith)
reversed_equal (x ∷ k) (y ∷ l) b c e q =
    let h : x < 256 = b.below 0 in
    let i : y < 256 = c.below 0 in
    let r : reversed k ≡ reversed l = omega arith in
    let s : x ≡ y = omega arith in
    rw (s, reversed_equal k l (bytes_tail b) (bytes_tail c) (omega arith) r)

pub ruleset number_exits = (less, greater, equal)

pub ruleset word_exits = (eight, eight_reversed)
