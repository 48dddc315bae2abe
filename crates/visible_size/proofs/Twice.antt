-- Twice a number from 0 to 2^53, as `round_away` has it: the sum is exact, so its whole part is that of the number doubled.
-- Assumes nothing.
use Rattle.std.proofs.Common.{◌≡◌, ℕ, zero, suc, ◌+◌, ◌-◌, ◌*◌, ◌/◌, ◌^◌, ◌<◌, ◌≤◌, Bool, true, false, ◌&&◌, ◌||◌, T, eqb, ltb, ℤ, pos, negsuc, sym, refl, ap, ◌∙◌, subst, inl, inr, le_trans, le_of_eq, lt_of_lt_of_le, lt_of_le_of_lt, le_of_lt, lt_irrefl, mul-le-mul_right, div-lt_iff_lt-mul, eq-or-lt_of_le, mul-le-mul_left, mul-lt-mul_of_pos_right, mul-pos, zero-mul, mul-one, div-one, arith, lit<, lit≤, eqb→eq, ltb→lt, lt→ltb, leb→le, pow_pos, pow_mono, pow-add}
use native.Mathlib.Nat.{min-eq_left, zero-div}
use lib.Pow.{pow-lt}
use lib.Ieee.{Float, nan, inf, fin, binary64, up, down, of_bits, to_unsigned, lt, le, fits, add, sum, round}
use lib.Ieee.Exact.{HasValue, round_exact}
use lib.Ieee.Fits.{up_pos, down_pos, and_l, and_r}
use lib.Ieee.Nearest.{div_same, div_mono}
use Rattle.visible_size.specs.Steps.{zero64, most_size, nearest_whole, round_half_away}

-- ---- a value that is a / c
-- its whole part
pub whole_part : (y : Float) (a c : ℕ) → 0 < c → a < 2 ^ 64 * c → HasValue y false a c → to_unsigned 64 y ≡ a / c
unfolding to_unsigned
whole_part nan a c p h v = absurd v
whole_part (inf s) a c p h v = absurd v
whole_part (fin t m e) a c p h v =
    let d = div_same (m * up e) (down e) a c (down_pos e) p v.1 in
    let l : a / c < 2 ^ 64 = (div-lt_iff_lt-mul p).1 h in
    rw (v.0, d, min-eq_left {n = a / c} {m = 2 ^ 64 - 1} (omega arith))

-- it is in the range that the cast asks
in_range : (y : Float) (a c : ℕ) → 0 < c → a < 2 ^ 64 * c → HasValue y false a c → T (lt (fin true 1 (pos 0)) y) × T (lt y (fin false 1 (pos 64)))
unfolding lt
in_range nan a c p h v = absurd v
in_range (inf s) a c p h v = absurd v
in_range (fin t m e) a c p h v =
    let d = div_same (m * up e) (down e) a c (down_pos e) p v.1 in
    let l : a / c < 2 ^ 64 = (div-lt_iff_lt-mul p).1 h in
    let k : m * up e / down e < 2 ^ 64 = rw d l in
    rw v.0 (
      lt→ltb 0 (1 * down e + m * up e * 1) (omega (arith, down_pos e)),
      lt→ltb (m * up e * 1) (2 ^ 64 * down e) (omega (arith, (div-lt_iff_lt-mul (down_pos e)).0 k)),
    )

-- of -0 the whole part is 0, and it is in the range too
negative_part : (y : Float) (a c : ℕ) → HasValue y true a c → to_unsigned 64 y ≡ 0
unfolding to_unsigned
negative_part nan a c v = absurd v
negative_part (inf s) a c v = absurd v
negative_part (fin t m e) a c v = rw v.0

no_size : (a c : ℕ) → 0 < c → a * c ≡ 0 → a ≡ 0
no_size zero c p h = refl
no_size (suc a) c p h = absurd (omega (arith, mul-pos {m = suc a} {n = c} (omega arith) p))

negative_in_range : (y : Float) (c : ℕ) → 0 < c → HasValue y true 0 c → T (lt (fin true 1 (pos 0)) y) × T (lt y (fin false 1 (pos 64)))
unfolding lt
negative_in_range nan c p v = absurd v
negative_in_range (inf s) c p v = absurd v
negative_in_range (fin t m e) c p v =
    let z : m * up e ≡ 0 = no_size (m * up e) c p (v.1 ∙ zero-mul (down e)) in
    rw v.0 (
      lt→ltb (m * up e * 1) (1 * down e) (omega (arith, down_pos e)),
      lt→ltb 0 (m * up e * 1 + 2 ^ 64 * down e) (omega (arith, down_pos e)),
    )

-- ---- values that the format holds
-- 0 of either sign
pub zero_exact : (s : Bool) (c : ℕ) → 0 < c → HasValue (round binary64 s 0 c) s 0 c
zero_exact s c p = round_exact binary64 s 0 c 0 0 p (lit< tt) (lit< tt) (sym (zero-mul c))

scaled_by : (n l : ℕ) → n * l ≡ n * l * 1
scaled_by n l = omega arith

-- a whole number up to 2^53
pub whole_exact : (s : Bool) (n : ℕ) → n ≤ 2 ^ 53 → HasValue (round binary64 s n 1) s n 1
whole_exact s n h =
    elim (eq-or-lt_of_le h) [
      | inl e ↦ subst (λ (k : ℕ). HasValue (round binary64 s k 1) s k 1) (sym e) (round_exact binary64 s (2 ^ 53) 1 1 1127 (lit< tt) (lit< tt) (lit< tt) refl)
      | inr l ↦
          round_exact binary64 s n 1 n 1074 (lit< tt) l
          (lt_of_lt_of_le (mul-lt-mul_of_pos_right l (pow_pos 1074)) (lit≤ tt))
          (scaled_by n (2 ^ 1074))
    ]

-- ---- a number that the format holds, doubled, is exact: l stands for the number of smallest values in 1, 2 ^ 1074
eq_up : (m p l : ℕ) → (m * p + m * p) * l ≡ m * (p * (2 * l)) * 1
eq_up m p l = omega arith

le_up : (m p l : ℕ) → m * p ≤ 2 ^ 53 → m * (p * (2 * l)) ≤ 2 ^ 54 * l
le_up m p l h = omega (arith, mul-le-mul_right {m = m * p} {n = 2 ^ 53} l h)

regroup : (m p r : ℕ) → (m * p) * (r * p) ≡ m * r * (p * p)
regroup m p r = omega arith

twice_of : (m p l : ℕ) → (m * p + m * p) * l ≡ (m * p) * (2 * l)
twice_of m p l = omega arith

module _ (m : ℕ) (small : m < 2 ^ 53) where
  double_up : (k : ℕ) → m * 2 ^ k ≤ 2 ^ 53 → HasValue (round binary64 false (m * 2 ^ k + m * 2 ^ k) 1) false (m * 2 ^ k + m * 2 ^ k) 1
  double_up k h =
      let e : 2 ^ (k + 1075) ≡ 2 ^ k * (2 * 2 ^ 1074) = pow-add 2 k 1075 in
      round_exact binary64 false (m * 2 ^ k + m * 2 ^ k) 1 m (k + 1075) (lit< tt) small
      (rw e (lt_of_le_of_lt (le_up m (2 ^ k) (2 ^ 1074) h) (lit< tt)))
      (rw e (eq_up m (2 ^ k) (2 ^ 1074)))

  double_down : (k : ℕ) → k < 1074 → HasValue (round binary64 false (m * 2 ^ suc k + m * 2 ^ suc k) (2 ^ suc k * 2 ^ suc k)) false (m * 2 ^ suc k + m * 2 ^ suc k) (2 ^ suc k * 2 ^ suc k)
  double_down k h =
      let n : 1074 - k + suc k ≡ 1075 = omega arith in
      let e : 2 ^ (1074 - k) * 2 ^ suc k ≡ 2 * 2 ^ 1074 = sym (pow-add 2 (1074 - k) (suc k)) ∙ ap (λ (x : ℕ). 2 ^ x) n in
      let r : 2 ^ (1074 - k) ≤ 2 ^ 1074 = pow_mono {i = 1074 - k} {j = 1074} (omega arith) in
      round_exact binary64 false (m * 2 ^ suc k + m * 2 ^ suc k) (2 ^ suc k * 2 ^ suc k) m (1074 - k)
      (mul-pos (pow_pos (suc k)) (pow_pos (suc k)))
      small
      (lt_of_lt_of_le (mul-lt-mul_of_pos_right small (pow_pos (1074 - k))) (le_trans (mul-le-mul_left (2 ^ 53) r) (lit≤ tt)))
      (twice_of m (2 ^ suc k) (2 ^ 1074) ∙ ap (λ (x : ℕ). m * 2 ^ suc k * x) (sym e) ∙ regroup m (2 ^ suc k) (2 ^ (1074 - k)))

-- the sum x + x as a fraction, and the rounding of x by it
record Doubled (m : ℕ) (e : ℤ) : Type 0 where
  over : ℕ
  under : ℕ
  above : 0 < under
  bound : over < 2 ^ 64 * under
  value : HasValue (add binary64 (fin false m e) (fin false m e)) false over under
  rounded : nearest_whole m e ≡ (over / under + 1) / 2

halves : (a b c d : ℕ) → 0 < b → 0 < d → a * d ≡ c * b → (a / b + 1) / 2 ≡ (c / d + 1) / 2
halves a b c d p q e = ap (λ (n : ℕ). (n + 1) / 2) (div_same a b c d p q e)

-- a power of two that is at most 2 ^ 1074
exponent_le : (k : ℕ) → 2 ^ suc k ≤ 2 ^ 1074 → k < 1074
exponent_le k h =
    let n : 1074 < suc k → ⊥ = λ l. lt_irrefl (2 ^ 1074) (lt_of_lt_of_le (pow-lt {i = 1074} {j = suc k} l) h) in
    omega arith

cross : (n p : ℕ) → 2 * (n * 1) * (p * p) ≡ (n * p + n * p) * p
cross n p = omega arith

bounded : (n p : ℕ) → 0 < p → n * 1 ≤ 2 ^ 53 * p → n * p + n * p < 2 ^ 64 * (p * p)
bounded n p q h = omega (arith, mul-le-mul_right {m = n * 1} {n = 2 ^ 53 * p} p h, mul-pos q q)

none_whole : (e : ℤ) → nearest_whole 0 e ≡ 0
none_whole e = let z : 2 * (0 * up e) ≡ 0 = omega arith in rw (z, zero-div)

doubled : (m : ℕ) (e : ℤ) → T (fits binary64 (fin false m e)) → m * up e ≤ 2 ^ 53 * down e → Doubled m e
unfolding fits add sum
doubled zero e f h =
    let p = mul-pos (down_pos e) (down_pos e) in
    let z : 0 * up e * down e + 0 * up e * down e ≡ 0 = omega arith in
    record {
      over = 0;
      under = down e * down e;
      above = p;
      bound = omega (arith, p);
      value = rw z (zero_exact false (down e * down e) p);
      rounded = rw zero-div (none_whole e);
    }
doubled (suc m) (pos k) f h =
    let small : suc m < 2 ^ 53 = ltb→lt (suc m) (2 ^ 53) (search (and_l, and_r)) in
    let z : 2 * (suc m * 2 ^ k) ≡ suc m * 2 ^ k + suc m * 2 ^ k = omega arith in
    record {
      over = suc m * 2 ^ k + suc m * 2 ^ k;
      under = 1;
      above = lit< tt;
      bound = omega arith;
      value = simp mul-one (double_up (suc m) small k (omega arith));
      rounded = rw z;
    }
doubled (suc m) (negsuc k) f h =
    let small : suc m < 2 ^ 53 = ltb→lt (suc m) (2 ^ 53) (search (and_l, and_r)) in
    let low : 2 ^ suc k ≤ 2 ^ 1074 = leb→le (2 ^ suc k) (2 ^ 1074) (search (and_l, and_r)) in
    let p = pow_pos (suc k) in
    record {
      over = suc m * 2 ^ suc k + suc m * 2 ^ suc k;
      under = 2 ^ suc k * 2 ^ suc k;
      above = mul-pos p p;
      bound = bounded (suc m) (2 ^ suc k) p h;
      value = rw mul-one (double_down (suc m) small k (exponent_le k low));
      rounded = halves (2 * (suc m * 1)) (2 ^ suc k) (suc m * 2 ^ suc k + suc m * 2 ^ suc k) (2 ^ suc k * 2 ^ suc k) p (mul-pos p p) (cross (suc m) (2 ^ suc k));
    }

-- ---- what the two tests say
pub le_is : (a b : ℕ) (t : Bool) → T (ltb a b || (eqb a b && t)) → a ≤ b
le_is a b t h = go (ltb a b) (ltb→lt a b) h
  where
    go : (x : Bool) → (T x → a < b) → T (x || (eqb a b && t)) → a ≤ b
    go true k u = le_of_lt (k tt)
    go false k u = le_of_eq (eqb→eq a b (and_l (eqb a b) t u))

-- not above 2^53
pub most_is : (m : ℕ) (e : ℤ) → T (le (fin false m e) most_size) → m * up e ≤ 2 ^ 53 * down e
unfolding le of_bits
most_is m e h = omega (arith, le_is (m * up e * 1) (1 * 2 ^ 53 * down e) true h)

-- of the numbers below 0 only -0
not_below_lem : (m : ℕ) (e : ℤ) → T (le zero64 (fin true m e)) → m * up e ≡ 0
unfolding le of_bits
not_below_lem m e h = omega (arith, eqb→eq (0 * 1 * down e) (m * up e * 1) (and_l (eqb (0 * 1 * down e) (m * up e * 1)) (false || eqb (0 * 1 * down e) 0) h))

-- ---- the answer
-- the nearest whole number to a number up to a whole number is not above that
pub nearest_most : (m : ℕ) (e : ℤ) (hi : ℕ) → m * up e ≤ hi * down e → nearest_whole m e ≤ hi
nearest_most m e hi h =
    let q : 2 * (m * up e) / down e ≤ 2 * hi / 1 = div_mono (2 * (m * up e)) (down e) (2 * hi) 1 (down_pos e) (lit< tt) (omega arith) in
    omega (arith, rw div-one at q)

-- so it is what the f64 answered has for its value
pub answer_value : (m : ℕ) (e : ℤ) → m * up e ≤ 2 ^ 53 * down e → HasValue (round_half_away (fin false m e)) false (nearest_whole m e) 1
unfolding round_half_away
answer_value m e h = whole_exact false (nearest_whole m e) (nearest_most m e (2 ^ 53) h)

pub answer_is : (m : ℕ) (e : ℤ) → m * up e ≤ 2 ^ 53 * down e → to_unsigned 64 (round_half_away (fin false m e)) ≡ nearest_whole m e
answer_is m e h =
    whole_part (round_half_away (fin false m e)) (nearest_whole m e) 1 (lit< tt) (omega (arith, nearest_most m e (2 ^ 53) h)) (answer_value m e h)
    ∙ div-one (nearest_whole m e)

-- ---- what `round_away` owes the cast, and its answer
record Twice (x : Float) : Type 0 where
  asked : T (lt (fin true 1 (pos 0)) (add binary64 x x)) × T (lt (add binary64 x x) (fin false 1 (pos 64)))
  answered : (t : ℕ) → t ≡ to_unsigned 64 (add binary64 x x) → to_unsigned 64 (round_half_away x) ≡ (t + 1) / 2

not_negative : (m : ℕ) (e : ℤ) → T (fits binary64 (fin false m e)) → m * up e ≤ 2 ^ 53 * down e → Twice (fin false m e)
not_negative m e f h =
    let d = doubled m e f h in
    let y = add binary64 (fin false m e) (fin false m e) in
    record {
      asked = in_range y d.over d.under d.above d.bound d.value;
      answered =
          λ (t : ℕ) (u : t ≡ to_unsigned 64 y).
          let w : t ≡ d.over / d.under = u ∙ whole_part y d.over d.under d.above d.bound d.value in
          answer_is m e h ∙ (d.rounded ∙ ap (λ (n : ℕ). (n + 1) / 2) (sym w));
    }

-- -0
none_doubled : (e : ℤ) → HasValue (add binary64 (fin true 0 e) (fin true 0 e)) true 0 (down e * down e)
unfolding add sum
none_doubled e =
    let z : 0 * up e * down e + 0 * up e * down e ≡ 0 = omega arith in
    rw z (zero_exact true (down e * down e) (mul-pos (down_pos e) (down_pos e)))

none_answered : (e : ℤ) → to_unsigned 64 (round_half_away (fin true 0 e)) ≡ 0
unfolding round_half_away
none_answered e = rw (none_whole e) (negative_part (round binary64 true 0 1) 0 1 (zero_exact true 1 (lit< tt)))

nothing : (e : ℤ) → Twice (fin true 0 e)
nothing e =
    let p = mul-pos (down_pos e) (down_pos e) in
    let y = add binary64 (fin true 0 e) (fin true 0 e) in
    record {
      asked = negative_in_range y (down e * down e) p (none_doubled e);
      answered =
          λ (t : ℕ) (u : t ≡ to_unsigned 64 y).
          let z : t ≡ 0 = u ∙ negative_part y 0 (down e * down e) (none_doubled e) in
          none_answered e ∙ rw z refl;
    }

twice : (x : Float) → T (fits binary64 x) → T (le zero64 x) → T (le x most_size) → Twice x
unfolding le of_bits
twice nan f l h = absurd h
twice (inf true) f l h = absurd l
twice (inf false) f l h = absurd h
twice (fin true zero e) f l h = nothing e
twice (fin true (suc m) e) f l h = absurd (omega (arith, not_below_lem (suc m) e l, mul-pos {m = suc m} {n = up e} (omega arith) (up_pos e)))
twice (fin false m e) f l h = not_negative m e f (most_is m e h)

module _ (x : Float) (f : T (fits binary64 x)) (l : T (le zero64 x)) (h : T (le x most_size)) where
  pub low_enough : T (lt (add binary64 x x) (fin false 1 (pos 64)))
  low_enough = (twice x f l h).asked.1

  pub high_enough : T (lt (fin true 1 (pos 0)) (add binary64 x x))
  high_enough = (twice x f l h).asked.0

  -- a half more than the whole part of twice x
  pub answer : {t : ℕ} → t ≡ to_unsigned 64 (add binary64 x x) → to_unsigned 64 (round_half_away x) ≡ (t + 1) / 2
  answer {t} e = (twice x f l h).answered t e

pub ruleset exits = (low_enough, high_enough)
