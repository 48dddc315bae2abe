-- The code of a digit, by the two cases of its definition, and back.
-- Assumes nothing.
use Prim.Native.Nat.{ℕ, ◌+◌, ◌<◌, ◌≤◌}
use native.Mathlib.Omega.{arith}
use mathlib.Core.Path.{◌≡◌, refl}
use mathlib.Core.Bool.{Bool, true, false}
use lib.Dec.{ltb}
use borrow.Author.Tests.{lt-ltb, le-ltb, ltb-true, ltb-false}
use Rattle.text.specs.Text.{glyph}
use Rattle.text.specs.Laws.{from_glyph}

-- a number below ten, or not
pub by_ten : {C : Type 0} (n : ℕ) → (n < 10 → C) → (10 ≤ n → C) → C
by_ten {C} n f g = go (ltb n 10) refl
  where
    go : (t : Bool) → ltb n 10 ≡ t → C
    go true e = f (ltb-true n 10 e)
    go false e = g (ltb-false n 10 e)

pub low_digit : (d : ℕ) → d < 10 → 48 + d ≡ glyph d
low_digit d h = rw (lt-ltb d 10 h)

pub digit_back : (d : ℕ) → d < 16 → from_glyph (glyph d) ≡ d
digit_back d h =
    by_ten
    d
    (λ s. rw (lt-ltb d 10 s, lt-ltb (48 + d) 58 (omega arith)) (omega arith))
    (λ m. rw (le-ltb d 10 m, le-ltb (87 + d) 58 (omega arith)) (omega arith))
