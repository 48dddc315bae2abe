-- A raw size times a fraction from 1e-6 to 1 is a number from 0 to the raw size. Assumes nothing.
use Rattle.std.proofs.Common.{◌≡◌, ℕ, ◌*◌, ◌^◌, ◌<◌, ◌≤◌, Bool, true, false, T, ℤ, pos, sym, refl, ap, ◌∙◌, subst, true≢false, le_trans, le_of_eq, mul-le-mul_left, mul-pos, mul-one, mul_right_comm, le_of_mul-le-mul_right, arith, lit<, lit≤}
use lib.Ieee.{Float, nan, inf, fin, binary64, up, down, of_bits, of_int, le, mul, round}
use lib.Ieee.Exact.{HasValue}
use lib.Ieee.Fits.{down_pos}
use lib.Ieee.Order.{round_mono}
use lib.Ieee.Scale.{round_val, round_under, grid}
use lib.Ieee.Positive.{above, above_of_le}
use Rattle.visible_size.specs.Steps.{one64, min_visible_fraction, fraction_number}
use Rattle.visible_size.specs.Numbers.{InPart}
use Rattle.visible_size.specs.declared.VisibleFraction.{VisibleFraction}
use Rattle.visible_size.specs.declared.VisibleFraction.TheVariants.{Whole, Part}
use Rattle.visible_size.proofs.Twice.{zero_exact, whole_exact, le_is}

-- x is not negative, has a plus sign, and is at most the whole number hi
pub record Within (x : Float) (hi : ℕ) : Type 0 where
  pub size : ℕ
  pub scale : ℤ
  pub is : x ≡ fin false size scale
  pub most : size * up scale ≤ hi * down scale

-- ---- a fraction rounded lies between the roundings of 0 and of hi
cut : (a b c d hi : ℕ) → 0 < d → a * d ≤ b * c → b * 1 ≡ hi * d → a ≤ hi * c
cut a b c d hi p h e =
    le_of_mul-le-mul_right {k = d} (le_trans h (le_of_eq (ap (λ (n : ℕ). n * c) (sym (mul-one b) ∙ e) ∙ mul_right_comm hi d c))) p

under_value : (m : ℕ) (e : ℤ) (y : Float) (hi : ℕ) → HasValue y false hi 1 → T (le (fin false m e) y) → m * up e ≤ hi * down e
unfolding le
under_value m e nan hi v h = absurd v
under_value m e (inf s) hi v h = absurd v
under_value m e (fin true n d) hi v h = absurd (true≢false v.0)
under_value m e (fin false n d) hi v h = cut (m * up e) (n * up d) (down e) (down d) hi (down_pos d) (le_is (m * up e * down d) (n * up d * down e) true h) v.1

signed : (s : Bool) (m : ℕ) (e : ℤ) (a c : ℕ) → HasValue (fin s m e) false a c → s ≡ false
signed s m e a c v = v.0

between_values : (z lo y : Float) (hi : ℕ) → HasValue lo false 0 1 → HasValue y false hi 1 → T (le lo z) → T (le z y) → ((s : Bool) (m : ℕ) (e : ℤ) → z ≡ fin s m e → s ≡ false) → Within z hi
unfolding le
between_values nan nan y hi v w h k g = absurd v
between_values nan (inf t) y hi v w h k g = absurd v
between_values nan (fin t n d) y hi v w h k g = absurd h
between_values (inf true) nan y hi v w h k g = absurd v
between_values (inf true) (inf t) y hi v w h k g = absurd v
between_values (inf true) (fin t n d) y hi v w h k g = absurd h
between_values (inf false) lo nan hi v w h k g = absurd w
between_values (inf false) lo (inf t) hi v w h k g = absurd w
between_values (inf false) lo (fin t n d) hi v w h k g = absurd k
between_values (fin true m e) lo y hi v w h k g = absurd (true≢false (g true m e refl))
between_values (fin false m e) lo y hi v w h k g = record { size = m; scale = e; is = refl; most = under_value m e y hi w k }

-- a fraction that rounds to a finite number keeps its plus sign
plus : (a c : ℕ) (s : Bool) (m : ℕ) (e : ℤ) → round binary64 false a c ≡ fin s m e → s ≡ false
plus a c s m e q =
    let u = round_under binary64 a c (rw q tt) in
    signed s m e (grid binary64 a c) (2 ^ 1074) (subst (λ (x : Float). HasValue x false (grid binary64 a c) (2 ^ 1074)) q (round_val binary64 a c u))

rounded_within : (a c hi : ℕ) → 0 < c → hi ≤ 2 ^ 53 → a ≤ hi * c → Within (round binary64 false a c) hi
rounded_within a c hi p l h =
    between_values (round binary64 false a c) (round binary64 false 0 1) (round binary64 false hi 1) hi
    (zero_exact false 1 (lit< tt))
    (whole_exact false hi l)
    (round_mono binary64 0 1 a c (lit< tt) p (omega arith))
    (round_mono binary64 a c hi 1 p (lit< tt) (omega arith))
    (plus a c)

-- ---- the factors
-- a fraction is from 0 to 1
part_within : (x : Float) → T (above x) → T (le x one64) → Within x 1
unfolding le of_bits
part_within nan a h = absurd a
part_within (inf true) a h = absurd a
part_within (inf false) a h = absurd h
part_within (fin true m e) a h = absurd a
part_within (fin false m e) a h = record { size = m; scale = e; is = refl; most = omega (arith, le_is (m * up e * 1) (1 * 1 * down e) true h) }

least_above : (x : Float) → T (le min_visible_fraction x) → T (above x)
unfolding of_bits
least_above x h = above_of_le min_visible_fraction x tt h

fraction_within : (f : VisibleFraction) → InPart f → Within (fraction_number f) 1
unfolding of_bits
fraction_within Whole p = record { size = 1; scale = pos 0; is = refl; most = lit≤ tt }
fraction_within (Part x) p = part_within x (least_above x p.0) p.1

-- a raw size as an f64 is exact
pub raw_value : (raw : ℕ) → raw ≤ 2 ^ 53 → HasValue (of_int binary64 (pos raw)) false raw 1
unfolding of_int
raw_value raw h = whole_exact false raw h

-- ---- the product
share : (a b c d raw : ℕ) → a * 1 ≡ raw * c → b ≤ 1 * d → a * b ≤ raw * (c * d)
share a b c d raw e h = omega (arith, mul-le-mul_left (raw * c) h, ap (λ (n : ℕ). n * b) e)

product_is : (x : Float) (raw n : ℕ) (d : ℤ) → raw ≤ 2 ^ 53 → HasValue x false raw 1 → n * up d ≤ 1 * down d → Within (mul binary64 x (fin false n d)) raw
unfolding mul
product_is nan raw n d l v h = absurd v
product_is (inf s) raw n d l v h = absurd v
product_is (fin true m e) raw n d l v h = absurd (true≢false v.0)
product_is (fin false m e) raw n d l v h =
    rounded_within (m * up e * (n * up d)) (down e * down d) raw (mul-pos (down_pos e) (down_pos d)) l
    (share (m * up e) (n * up d) (down e) (down d) raw v.1 h)

pub product_within : (raw : ℕ) (f : VisibleFraction) → raw ≤ 2 ^ 53 → InPart f → Within (mul binary64 (of_int binary64 (pos raw)) (fraction_number f)) raw
product_within raw f l p =
    let w = fraction_within f p in
    subst (λ (x : Float). Within (mul binary64 (of_int binary64 (pos raw)) x) raw) (sym w.is)
    (product_is (of_int binary64 (pos raw)) raw w.size w.scale l (raw_value raw l) w.most)
