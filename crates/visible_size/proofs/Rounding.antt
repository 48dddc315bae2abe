-- Rounding goes to the nearest whole number, a half to the greater. Assumes nothing.
use Rattle.std.proofs.Common.{ℕ, ◌+◌, ◌*◌, ◌/◌, ◌<◌, ◌≤◌, mul-le-mul_right, div-lt_iff_lt-mul, div-mul-le_self, arith}
use lib.Ieee.{up, down}
use lib.Ieee.Fits.{down_pos}
use Rattle.visible_size.specs.Steps.{nearest_whole}
use Rattle.visible_size.specs.SizeLaws.{RoundsToTheNearest, OnlyOneIsNearest}
use Rattle.visible_size.proofs.Twice.{most_is, answer_value}

-- q = a / d, and n = (q + 1) / 2
halves_below : (a d q n : ℕ) → q * d ≤ a → 2 * n ≤ q + 1 → 2 * n * d ≤ a + d
halves_below a d q n h k = omega (arith, mul-le-mul_right {m = 2 * n} {n = q + 1} d k)

halves_above : (a d q n : ℕ) → a < (q + 1) * d → q ≤ 2 * n → a < (2 * n + 1) * d
halves_above a d q n h k = omega (arith, mul-le-mul_right {m = q} {n = 2 * n} d k)

next_above : (a d : ℕ) → 0 < d → a < (a / d + 1) * d
next_above a d p = (div-lt_iff_lt-mul p).0 (omega arith)

pub rounds_to_the_nearest : RoundsToTheNearest
rounds_to_the_nearest m e h =
    let a = 2 * (m * up e) in
    let q = a / down e in
    record {
      below = halves_below a (down e) q (nearest_whole m e) (div-mul-le_self a (down e)) (omega arith);
      above = halves_above a (down e) q (nearest_whole m e) (next_above a (down e) (down_pos e)) (omega arith);
      exact = answer_value m e (most_is m e h);
    }

-- of two, neither is below the other
not_below_lem : (a d n n' : ℕ) → 2 * n' * d ≤ a + d → a < (2 * n + 1) * d → n < n' → ⊥
not_below_lem a d n n' h k l = omega (arith, mul-le-mul_right {m = 2 * n + 2} {n = 2 * n'} d (omega arith))

pub only_one_is_nearest : OnlyOneIsNearest
only_one_is_nearest m e n n' x y =
    let a = 2 * (m * up e) in
    let low : n < n' → ⊥ = not_below_lem a (down e) n n' y.below x.above in
    let high : n' < n → ⊥ = not_below_lem a (down e) n' n x.below y.above in
    omega arith
