-- What the loop of `cmp_bytes` keeps: both keys agree up to i, so the order is that of what is left.
-- Assumes nothing.
use Prim.Native.Nat.{ℕ, ◌+◌, ◌<◌, ◌≤◌, min}
use native.Mathlib.Numerals.{add-one}
use native.Mathlib.Omega.{arith}
use mathlib.Core.Path.{◌≡◌, refl, ◌∙◌}
use mathlib.Core.Logic.{◌≢◌}
use mathlib.Core.List.{List}
use lib.ListN.{length, get_or, drop, drop_of_length-le}
use lib.Seq.{drop-cons}
use Rattle.key.specs.Order.{cmp_key, cmp_number, or_else}
use Rattle.std.specs.declared.cmp.Ordering.{Ordering}
use Rattle.std.specs.declared.cmp.Ordering.TheVariants.{Less, Equal, Greater}
use Rattle.key.proofs.Linear.{number_less, number_greater}
use Rattle.key.proofs.Digits.{Compared, compared, below, same, above, number_self}

pub record Passed (a b : List ℕ) (i : ℕ) : Type 0 where
  pub below_a : i ≤ length a
  pub below_b : i ≤ length b
  pub rest : cmp_key a b ≡ cmp_key (drop i a) (drop i b)

-- both keys have a byte at i: it decides, or the bytes after it
pub cmp_step :
    (a b : List ℕ) (i : ℕ)
    → i < length a
    → i < length b
    → cmp_key (drop i a) (drop i b) ≡ or_else (cmp_number (get_or a i 0) (get_or b i 0)) (cmp_key (drop (i + 1) a) (drop (i + 1) b))
unfolding cmp_key
cmp_step a b i ha hb = rw (drop-cons a i 0, drop-cons b i 0, add-one)

module _ {a b : List ℕ} {i : ℕ} (p : Passed a b i) where
  longer : i < length a → length b ≤ i → Greater ≡ cmp_key a b
  unfolding cmp_key
  longer h l = rw (p.rest, drop-cons a i 0, drop_of_length-le b)

  shorter : length a ≤ i → i < length b → Less ≡ cmp_key a b
  unfolding cmp_key
  shorter l h = rw (p.rest, drop-cons b i 0, drop_of_length-le a)

  ended : length a ≤ i → length b ≤ i → Equal ≡ cmp_key a b
  unfolding cmp_key
  ended l h = rw (p.rest, drop_of_length-le a, drop_of_length-le b)

  -- unequal bytes decide
  pub differ :
      {r : Ordering} → i < length a → i < length b → get_or a i 0 ≢ get_or b i 0 → r ≡ cmp_number (get_or a i 0) (get_or b i 0) → r ≡ cmp_key a b
  differ {r} ha hb d e = rw (p.rest, cmp_step a b i) (go (compared (get_or a i 0) (get_or b i 0)))
    where
      go :
          Compared (get_or a i 0) (get_or b i 0)
          → r ≡ or_else (cmp_number (get_or a i 0) (get_or b i 0)) (cmp_key (drop (i + 1) a) (drop (i + 1) b))
      go (below o) = rw (e, number_less _ _ o)
      go (same o) = absurd (d o)
      go (above o) = rw (e, number_greater _ _ o)

  pub onward : i < length a → i < length b → get_or a i 0 ≡ get_or b i 0 → Passed a b (i + 1)
  onward ha hb e =
      record {
        below_a = omega arith;
        below_b = omega arith;
        rest = p.rest ∙ (cmp_step a b i ha hb ∙ rw (e, number_self));
      }

  -- the shorter key has ended: the lengths decide
  pub lengths : {r : Ordering} → min (length a) (length b) ≤ i → r ≡ cmp_number (length a) (length b) → r ≡ cmp_key a b
  lengths {r} m e = go (compared (length a) (length b))
    where
      go : Compared (length a) (length b) → r ≡ cmp_key a b
      go (below h) = rw (e, number_less _ _ h) (shorter (omega arith) (omega arith))
      go (same h) = rw (e, h, number_self) (ended (omega arith) (omega arith))
      go (above h) = rw (e, number_greater _ _ h) (longer (omega arith) (omega arith))

pub start : (a b : List ℕ) → Passed a b 0
start a b = record { below_a = omega arith; below_b = omega arith; rest = refl }

pub ruleset kept = (start, differ, onward, lengths)
