-- What `visible_size` owes its callees, and its answers. Assumes nothing.
use Rattle.std.proofs.Common.{◌≡◌, ℕ, zero, suc, ◌*◌, ◌^◌, ◌<◌, ◌≤◌, max, Bool, true, false, not, T, pos, sym, refl, ap, ◌∙◌, subst, true≢false, le_trans, mul-le-mul_right, div-one, arith, lit<, le→leb, ltb→lt, nltb→le}
use lib.Ieee.{Float, nan, inf, fin, binary64, up, down, of_bits, of_int, in_float, to_unsigned, le, lt, mul}
use lib.Ieee.Exact.{HasValue}
use lib.Ieee.Fits.{down_pos}
use lib.Ieee.Order.{le_of_values}
use Rattle.base.specs.Pick.{pick}
use Rattle.visible_size.specs.Steps.{zero64, one64, most_size, maximum, nearest_whole, round_half_away, fraction_number, visible_size}
use Rattle.visible_size.specs.Numbers.{InPart, SizeFound}
use Rattle.visible_size.specs.declared.VisibleFraction.{VisibleFraction}
use Rattle.visible_size.proofs.Twice.{whole_part, nearest_most, answer_value, answer_is}
use Rattle.visible_size.proofs.Products.{Within, product_within}

-- ---- the greater of a whole number and 1
above_one : (n d : ℕ) → d < n * d → 1 < n
above_one zero d h = absurd (omega arith)
above_one (suc zero) d h = absurd (omega arith)
above_one (suc (suc n)) d h = omega arith

upto_one : (n d : ℕ) → 0 < d → n * d ≤ d → n ≤ 1
upto_one zero d p h = omega arith
upto_one (suc zero) d p h = omega arith
upto_one (suc (suc n)) d p h = absurd (omega arith)

module _ (n : ℕ) where
  test_above : (y : Float) → HasValue y false n 1 → T (lt one64 y) → 1 < n
  unfolding lt of_bits
  test_above nan v h = absurd v
  test_above (inf s) v h = absurd v
  test_above (fin true m e) v h = absurd (true≢false v.0)
  test_above (fin false m e) v h = above_one n (down e) (omega (arith, v.1, ltb→lt (1 * 1 * down e) (m * up e * 1) h))

  test_upto : (y : Float) → HasValue y false n 1 → T (not (lt one64 y)) → n ≤ 1
  unfolding lt of_bits
  test_upto nan v h = absurd v
  test_upto (inf s) v h = absurd v
  test_upto (fin true m e) v h = absurd (true≢false v.0)
  test_upto (fin false m e) v h = upto_one n (down e) (down_pos e) (omega (arith, v.1, nltb→le (1 * 1 * down e) (m * up e * 1) h))

  greater : (y : Float) (b : Bool) → n ≤ 2 ^ 53 → HasValue y false n 1 → (T b → 1 < n) → (T (not b) → n ≤ 1) → to_unsigned 64 (pick b y one64) ≡ max 1 n
  unfolding to_unsigned of_bits
  greater y true l v h k =
      let z : to_unsigned 64 y ≡ n = whole_part y n 1 (lit< tt) (omega arith) v ∙ div-one n in
      omega (arith, h tt)
  greater y false l v h k = omega (arith, k tt)

  greater_is : (y : Float) → n ≤ 2 ^ 53 → HasValue y false n 1 → to_unsigned 64 (maximum y one64) ≡ max 1 n
  greater_is y l v = greater y (lt one64 y) l v (test_above y v) (test_upto y v)

-- ---- the size of a product
pub size_of : (x : Float) (hi : ℕ) → hi ≤ 2 ^ 53 → (w : Within x hi) → to_unsigned 64 (maximum (round_half_away x) one64) ≡ max 1 (nearest_whole w.size w.scale)
size_of x hi l w =
    let m = w.size in
    let e = w.scale in
    let h : m * up e ≤ 2 ^ 53 * down e = le_trans w.most (mul-le-mul_right (down e) l) in
    ap (λ (z : Float). to_unsigned 64 (maximum (round_half_away z) one64)) w.is
    ∙ greater_is (nearest_whole m e) (round_half_away (fin false m e)) (nearest_most m e (2 ^ 53) h) (answer_value m e h)

rounded_of : (x : Float) (hi : ℕ) → hi ≤ 2 ^ 53 → (w : Within x hi) → to_unsigned 64 (round_half_away x) ≡ nearest_whole w.size w.scale
rounded_of x hi l w =
    ap (λ (z : Float). to_unsigned 64 (round_half_away z)) w.is
    ∙ answer_is w.size w.scale (le_trans w.most (mul-le-mul_right (down w.scale) l))

within_least : (x : Float) (hi : ℕ) → Within x hi → T (le zero64 x)
unfolding of_bits
within_least x hi w =
    subst (λ (z : Float). T (le zero64 z)) (sym w.is)
    (le_of_values zero64 (fin false w.size w.scale) 0 1 (w.size * up w.scale) (down w.scale) (lit< tt) (down_pos w.scale) (refl, refl) (refl, refl) (omega arith))

within_most : (x : Float) (hi : ℕ) → hi ≤ 2 ^ 53 → Within x hi → T (le x most_size)
unfolding of_bits
within_most x hi l w =
    subst (λ (z : Float). T (le z most_size)) (sym w.is)
    (le_of_values (fin false w.size w.scale) most_size (w.size * up w.scale) (down w.scale) (2 ^ 53) 1 (down_pos w.scale) (lit< tt) (refl, refl) (refl, refl) (omega (arith, w.most, mul-le-mul_right (down w.scale) l)))

pub raw_fits : (raw : ℕ) → raw ≤ 2 ^ 53 → T (in_float binary64 (pos raw))
unfolding in_float
raw_fits raw h = le→leb raw (2 ^ 53) h

-- ---- the answers
module _ (raw : ℕ) (f : VisibleFraction) (l : raw ≤ 2 ^ 53) (p : InPart f) where
  product : Within (mul binary64 (of_int binary64 (pos raw)) (fraction_number f)) raw
  product = product_within raw f l p

  pub visible_is : visible_size raw f ≡ max 1 (to_unsigned 64 (round_half_away (mul binary64 (of_int binary64 (pos raw)) (fraction_number f))))
  unfolding visible_size
  visible_is = size_of _ raw l product ∙ ap (λ (n : ℕ). max 1 n) (sym (rounded_of _ raw l product))

  pub rounded_most : to_unsigned 64 (round_half_away (mul binary64 (of_int binary64 (pos raw)) (fraction_number f))) ≤ raw
  rounded_most = rw (rounded_of _ raw l product) (nearest_most product.size product.scale raw product.most)

  module _ {x : Float} (e : x ≡ fraction_number f) where
    pub least_asked : T (le zero64 (mul binary64 (of_int binary64 (pos raw)) x))
    least_asked = rw e (within_least _ raw product)

    pub most_asked : T (le (mul binary64 (of_int binary64 (pos raw)) x) most_size)
    most_asked = rw e (within_most _ raw l product)

    module _ {n : ℕ} (q : n ≡ to_unsigned 64 (round_half_away (mul binary64 (of_int binary64 (pos raw)) x))) where
      same : n ≡ to_unsigned 64 (round_half_away (mul binary64 (of_int binary64 (pos raw)) (fraction_number f)))
      same = q ∙ ap (λ (z : Float). to_unsigned 64 (round_half_away (mul binary64 (of_int binary64 (pos raw)) z))) e

      pub size_answered : {r : ℕ} → r ≡ max 1 n → SizeFound raw f r
      size_answered h = record { meaning = omega (arith, same, visible_is); most = omega (arith, same, rounded_most) }

pub ruleset size_exits = (raw_fits, least_asked, most_asked)
