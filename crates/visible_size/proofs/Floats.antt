-- Floats that are finite and not negative, the order of floats that are numbers, and sums and quotients of them.
-- Assumes nothing.
use Rattle.std.proofs.Common.{◌≡◌, ℕ, zero, suc, ◌+◌, ◌-◌, ◌*◌, ◌^◌, ◌<◌, ◌≤◌, Bool, true, false, cond, not, ◌&&◌, ◌||◌, T, eqb, ltb, ◌⊎◌, ℤ, pos, sym, refl, inl, inr, true≢false, zero-le, le_trans, le_of_eq, le_of_lt, add-le-add, mul-le-mul_right, mul_assoc, mul_comm, add-mul, mul-le-mul, eq-or-lt_of_le, mul-pos, zero-mul, mul_left_comm, arith, lit<, eqb→eq, ltb→lt, lt→ltb, nltb→le}
use mathlib.Core.Bool.{beq}
use native.Mathlib.Nat.{mul-mul-mul_comm}
use lib.Dec.{eqb_refl, eqb-suc-zero}
use lib.Ieee.{Float, nan, inf, fin, Format, binary64, prec, emax, low, up, down, odd, units, round, sum, add, sub, mul, div, neg, lt, eq, le, of_bits, of_int, is_nan, unlike, below, level}
use lib.Ieee.Fits.{down_pos, and_l, round_is}
use lib.Ieee.Exact.{HasValue}
use lib.Ieee.Order.{le_of_values, round_mono}
use lib.Ieee.Positive.{num, den, den_pos, positive, through}
use Rattle.visible_size.specs.Steps.{zero64, one64}
use Rattle.visible_size.specs.Numbers.{InUnit}

-- ---- finite, and with the sign clear
abbrev pub plain : Float → Bool
plain nan = false
plain (inf s) = false
plain (fin true m e) = false
plain (fin false m e) = true

own_value : (x : Float) → T (plain x) → HasValue x false (num x) (den x)
own_value nan p = absurd p
own_value (inf s) p = absurd p
own_value (fin true m e) p = absurd p
own_value (fin false m e) p = (refl, refl)

or_split : (a b : Bool) → T (a || b) → T a ⊎ T b
or_split true b t = inl tt
or_split false b t = inr t

lt_or_eq : (a b : ℕ) → T (ltb a b || (eqb a b && true)) → a ≤ b
lt_or_eq a b t =
    elim (or_split (ltb a b) (eqb a b && true) t) [
      | inl u ↦ le_of_lt (ltb→lt a b u)
      | inr u ↦ le_of_eq (eqb→eq a b (and_l (eqb a b) true u))
    ]

-- the order is that of the fractions
le_cross : (x y : Float) → T (plain x) → T (plain y) → T (le x y) → num x * den y ≤ num y * den x
unfolding le
le_cross nan y p q h = absurd p
le_cross (inf s) y p q h = absurd p
le_cross (fin true m e) y p q h = absurd p
le_cross (fin false m e) nan p q h = absurd q
le_cross (fin false m e) (inf t) p q h = absurd q
le_cross (fin false m e) (fin true n d) p q h = absurd q
le_cross (fin false m e) (fin false n d) p q h = lt_or_eq (m * up e * down d) (n * up d * down e) h

cross_le : (x y : Float) → T (plain x) → T (plain y) → num x * den y ≤ num y * den x → T (le x y)
cross_le x y p q h =
    le_of_values x y (num x) (den x) (num y) (den y) (den_pos x) (den_pos y) (own_value x p) (own_value y q) h

pub le_trans_plain : (x y z : Float) → T (plain x) → T (plain y) → T (plain z) → T (le x y) → T (le y z) → T (le x z)
le_trans_plain x y z p q r h k =
    cross_le x z p r
    (through (num x) (num y) (num z) (den x) (den y) (den z) (den_pos y) (le_cross x y p q h) (le_cross y z q r k))

pub le_same : (x : Float) → T (plain x) → T (le x x)
le_same x p = cross_le x x p p (le_of_eq refl)

pub zero_least : (x : Float) → T (plain x) → T (le zero64 x)
unfolding of_bits
zero_least x p = cross_le zero64 x tt p (omega arith)

-- ---- what `round` gives
-- a number, or an infinity, with the sign clear
abbrev clear : Float → Bool
clear nan = false
clear (inf s) = not s
clear (fin s m e) = not s

abbrev pub number : Float → Bool
number x = not (is_nan x)

odd_clear : (d q k l : ℕ) → T (clear (odd d false q k l))
unfolding odd
odd_clear d zero k l = tt
odd_clear d (suc q) k l = tt

cond_clear : (b : Bool) (x y : Float) → T (clear x) → T (clear y) → T (clear (cond b x y))
cond_clear true x y p q = p
cond_clear false x y p q = q

units_clear : (f : Format) (q k : ℕ) → T (clear (units f false q k))
unfolding units
units_clear f q k =
    cond_clear (ltb (q * 2 ^ k) (2 ^ (low f + suc (emax f)))) (odd (suc (prec f)) false q k (low f)) (inf false) (odd_clear (suc (prec f)) q k (low f)) tt

round_clear : (f : Format) (a c : ℕ) → T (clear (round f false a c))
round_clear f a c = rw round_is (units_clear f _ _)

-- what is at most a finite number is no infinity
under : (x y : Float) → T (clear x) → T (plain y) → T (le x y) → T (plain x)
unfolding le
under nan y c p h = absurd c
under (inf true) y c p h = absurd c
under (inf false) nan c p h = absurd p
under (inf false) (inf t) c p h = absurd p
under (inf false) (fin t n d) c p h = absurd h
under (fin true m e) y c p h = absurd c
under (fin false m e) y c p h = tt

-- ---- products and sums grow with their parts, and are finite where greater ones are
mul_is : (f : Format) (x y : Float) → T (plain x) → T (plain y) → mul f x y ≡ round f false (num x * num y) (den x * den y)
unfolding mul
mul_is f nan y p q = absurd p
mul_is f (inf s) y p q = absurd p
mul_is f (fin true m e) y p q = absurd p
mul_is f (fin false m e) nan p q = absurd q
mul_is f (fin false m e) (inf t) p q = absurd q
mul_is f (fin false m e) (fin true n d) p q = absurd q
mul_is f (fin false m e) (fin false n d) p q = refl

add_is : (f : Format) (x y : Float) → T (plain x) → T (plain y) → add f x y ≡ round f false (num x * den y + num y * den x) (den x * den y)
unfolding add sum
add_is f nan y p q = absurd p
add_is f (inf s) y p q = absurd p
add_is f (fin true m e) y p q = absurd p
add_is f (fin false m e) nan p q = absurd q
add_is f (fin false m e) (inf t) p q = absurd q
add_is f (fin false m e) (fin true n d) p q = absurd q
add_is f (fin false m e) (fin false n d) p q = refl

pub record AtMost (x y : Float) : Type 0 where
  pub plain_less : T (plain x)
  pub plain_more : T (plain y)
  pub order : T (le x y)

pub at_most_same : (x : Float) → T (plain x) → AtMost x x
at_most_same x p = record { plain_less = p; plain_more = p; order = le_same x p }

-- of two rounded fractions, the greater of which is finite
rounds : (x y : Float) (a b c d : ℕ) → x ≡ round binary64 false a b → y ≡ round binary64 false c d → 0 < b → 0 < d → a * d ≤ c * b → T (plain y) → AtMost x y
rounds x y a b c d e k B D h p =
    let o : T (le x y) = rw (e, k) (round_mono binary64 a b c d B D h) in
    record { plain_less = under x y (rw e (round_clear binary64 a b)) p o; plain_more = p; order = o }

-- a / b + c / d grows with each
cross_sum : (a b c d p q r s : ℕ) → a * q ≤ p * b → c * s ≤ r * d → (a * d + c * b) * (q * s) ≤ (p * s + r * q) * (b * d)
cross_sum a b c d p q r s h k =
    let u : a * d * (q * s) ≤ p * s * (b * d) = simp (mul_assoc, mul_comm, mul_left_comm) (simp (mul_assoc, mul_comm, mul_left_comm) at (mul-le-mul_right (d * s) h)) in
    let v : c * b * (q * s) ≤ r * q * (b * d) = simp (mul_assoc, mul_comm, mul_left_comm) (simp (mul_assoc, mul_comm, mul_left_comm) at (mul-le-mul_right (b * q) k)) in
    le_trans (le_of_eq (add-mul (a * d) (c * b) (q * s)))
    (le_trans (add-le-add u v) (le_of_eq (sym (add-mul (p * s) (r * q) (b * d)))))

module _ {x x' y y' : Float} (h : AtMost x x') (k : AtMost y y') where
  X : num x * den x' ≤ num x' * den x
  X = le_cross x x' h.plain_less h.plain_more h.order

  Y : num y * den y' ≤ num y' * den y
  Y = le_cross y y' k.plain_less k.plain_more k.order

  pub product_grows : T (plain (mul binary64 x' y')) → AtMost (mul binary64 x y) (mul binary64 x' y')
  product_grows p =
      rounds (mul binary64 x y) (mul binary64 x' y') (num x * num y) (den x * den y) (num x' * num y') (den x' * den y')
      (mul_is binary64 x y h.plain_less k.plain_less)
      (mul_is binary64 x' y' h.plain_more k.plain_more)
      (mul-pos (den_pos x) (den_pos y))
      (mul-pos (den_pos x') (den_pos y'))
      (le_trans (le_of_eq (mul-mul-mul_comm (num x) (num y) (den x') (den y')))
      (le_trans (mul-le-mul X Y) (le_of_eq (mul-mul-mul_comm (num x') (den x) (num y') (den y)))))
      p

  pub sum_grows : T (plain (add binary64 x' y')) → AtMost (add binary64 x y) (add binary64 x' y')
  sum_grows p =
      rounds (add binary64 x y) (add binary64 x' y')
      (num x * den y + num y * den x)
      (den x * den y)
      (num x' * den y' + num y' * den x')
      (den x' * den y')
      (add_is binary64 x y h.plain_less k.plain_less)
      (add_is binary64 x' y' h.plain_more k.plain_more)
      (mul-pos (den_pos x) (den_pos y))
      (mul-pos (den_pos x') (den_pos y'))
      (cross_sum (num x) (den x) (num y) (den y) (num x') (den x') (num y') (den y') X Y)
      p

-- ---- the order of two numbers
or_left : (a b : Bool) → T a → T (a || b)
or_left true b t = tt
or_left false b t = absurd t

or_right : (a b : Bool) → T b → T (a || b)
or_right true b t = tt
or_right false b t = t

of_le : (a b : ℕ) → a ≤ b → T (ltb a b || (eqb a b && true))
of_le a b h =
    elim (eq-or-lt_of_le h) [
      | inl p ↦ or_right (ltb a b) (eqb a b && true) (rw p (both (eqb b b) (eqb_refl b)))
      | inr q ↦ or_left (ltb a b) (eqb a b && true) (lt→ltb a b q)
    ]
  where
    both : (x : Bool) → T x → T (x && true)
    both true t = tt
    both false t = t

not_ltb : (a b : ℕ) → ltb a b ≡ false → b ≤ a
not_ltb a b h = nltb→le a b (rw h tt)

below_total : (s : Bool) (a : ℕ) (t : Bool) (b : ℕ) → below s a t b ≡ false → T (below t b s a || level t b s a)
below_total false a false b h = of_le b a (not_ltb a b h)
below_total false a true b h = elim (eq-or-lt_of_le (zero-le {n = b + a})) [
  | inl z ↦
      let u : a ≡ 0 = omega arith in
      let v : b ≡ 0 = omega arith in
      rw (u, v) tt
  | inr q ↦ or_left (ltb 0 (b + a)) _ (lt→ltb 0 (b + a) q)
]
below_total true a false b h =
    let z = not_ltb 0 (a + b) h in
    let u : a ≡ 0 = omega arith in
    let v : b ≡ 0 = omega arith in
    rw (u, v) tt
below_total true a true b h =
    elim (eq-or-lt_of_le (not_ltb b a h)) [
      | inl p ↦ rw p (of_le b b (le_of_eq refl))
      | inr q ↦ or_left (ltb a b) _ (lt→ltb a b q)
    ]

pub not_below_lem : (x y : Float) → T (number x) → T (number y) → lt x y ≡ false → T (le y x)
unfolding le is_nan
not_below_lem nan y p q h = absurd p
not_below_lem (inf s) nan p q h = absurd q
not_below_lem (inf false) (inf false) p q h = tt
not_below_lem (inf false) (inf true) p q h = tt
not_below_lem (inf true) (inf false) p q h = absurd (true≢false h)
not_below_lem (inf true) (inf true) p q h = tt
not_below_lem (inf false) (fin t n d) p q h = tt
not_below_lem (inf true) (fin t n d) p q h = absurd (true≢false h)
not_below_lem (fin s m e) nan p q h = absurd q
not_below_lem (fin s m e) (inf false) p q h = absurd (true≢false h)
not_below_lem (fin s m e) (inf true) p q h = tt
not_below_lem (fin s m e) (fin t n d) p q h = below_total s (m * up e * down d) t (n * up d * down e) h

pub plain_number : (x : Float) → T (plain x) → T (number x)
unfolding is_nan
plain_number nan p = absurd p
plain_number (inf s) p = absurd p
plain_number (fin true m e) p = absurd p
plain_number (fin false m e) p = tt

pub number_below : (x y : Float) → T (le x y) → T (number x)
unfolding le is_nan
number_below nan y h = absurd h
number_below (inf s) y h = tt
number_below (fin s m e) y h = tt

pub lt_le : (x y : Float) → lt x y ≡ true → T (le x y)
unfolding le
lt_le x y h = or_left (lt x y) (eq x y) (rw h tt)

-- ---- a quotient by a number above zero is a number
odd_number : (d : ℕ) (s : Bool) (q k l : ℕ) → T (number (odd d s q k l))
unfolding odd is_nan
odd_number d s zero k l = tt
odd_number d s (suc q) k l = tt

cond_number : (b : Bool) (x y : Float) → T (number x) → T (number y) → T (number (cond b x y))
cond_number true x y p q = p
cond_number false x y p q = q

units_number : (f : Format) (s : Bool) (q k : ℕ) → T (number (units f s q k))
unfolding units is_nan
units_number f s q k =
    cond_number (ltb (q * 2 ^ k) (2 ^ (low f + suc (emax f)))) (odd (suc (prec f)) s q k (low f)) (inf s) (odd_number (suc (prec f)) s q k (low f)) tt

round_number : (f : Format) (s : Bool) (a c : ℕ) → T (number (round f s a c))
round_number f s a c = rw round_is (units_number f s _ _)

above_zero : (n : ℕ) → T (ltb 0 n) → eqb n 0 ≡ false
above_zero zero h = absurd h
above_zero (suc n) h = eqb-suc-zero n

pub quotient_number : (x y : Float) → T (number x) → T (positive y) → T (number (div binary64 x y))
unfolding div is_nan
quotient_number nan y p q = absurd p
quotient_number (inf s) nan p q = absurd q
quotient_number (inf s) (inf t) p q = absurd q
quotient_number (inf s) (fin t n d) p q = tt
quotient_number (fin s m e) nan p q = absurd q
quotient_number (fin s m e) (inf t) p q = absurd q
quotient_number (fin s m e) (fin true n d) p q = absurd q
quotient_number (fin s m e) (fin false n d) p q = rw (above_zero n q) (round_number binary64 (unlike s false) (m * up e * down d) (n * up d * down e))

-- ---- a difference of two numbers from 0 to 1 is at most 1
one_rounded : one64 ≡ round binary64 false 1 1
unfolding of_bits round
one_rounded = refl

negative_below : (m : ℕ) (e : ℤ) → T (le (fin true m e) one64)
unfolding le of_bits
negative_below m e =
    or_left (ltb 0 (m * up e * 1 + 1 * 1 * down e)) _ (lt→ltb 0 (m * up e * 1 + 1 * 1 * down e) (omega (arith, down_pos e)))

odd_below : (d q k l : ℕ) → T (le (odd d true q k l) one64)
unfolding odd
odd_below d zero k l = negative_below zero (pos zero)
odd_below d (suc q) k l = negative_below _ _

cond_below : (b : Bool) (x y : Float) → T (le x one64) → T (le y one64) → T (le (cond b x y) one64)
cond_below true x y p q = p
cond_below false x y p q = q

infinity_below : T (le (inf true) one64)
unfolding le of_bits
infinity_below = tt

units_below : (f : Format) (q k : ℕ) → T (le (units f true q k) one64)
unfolding units
units_below f q k =
    cond_below (ltb (q * 2 ^ k) (2 ^ (low f + suc (emax f)))) (odd (suc (prec f)) true q k (low f)) (inf true) (odd_below (suc (prec f)) q k (low f)) infinity_below

round_most : (s : Bool) (a c : ℕ) → 0 < c → a ≤ c → T (le (round binary64 s a c) one64)
round_most false a c C h = rw one_rounded (round_mono binary64 a c 1 1 C (lit< tt) (omega arith))
round_most true a c C h = rw round_is (units_below binary64 _ _)

-- unlike signs
apart : (s t : Bool) (a b c : ℕ) → beq s t ≡ false → 0 < c → a ≤ c → b ≤ c → T (le (sum binary64 s a t b c) one64)
unfolding sum
apart s t a b c e C h k =
    rw e
    (cond_below (ltb a b) (round binary64 t (b - a) c) (round binary64 (s && ltb b a) (a - b) c)
    (round_most t (b - a) c C (omega arith))
    (round_most (s && ltb b a) (a - b) c C (omega arith)))

-- like signs
together : (s : Bool) (a b c : ℕ) → 0 < c → a + b ≤ c → T (le (sum binary64 s a s b c) one64)
unfolding sum
together true a b c C h = round_most true (a + b) c C h
together false a b c C h = round_most false (a + b) c C h

-- a / p - b / q, where a number with its sign set is zero
module _ (a p b q : ℕ) (P : 0 < p) (Q : 0 < q) (h : a ≤ p) (k : b ≤ q) where
  first_most : a * q ≤ p * q
  first_most = mul-le-mul_right q h

  second_most : b * p ≤ p * q
  second_most = le_trans (mul-le-mul_right p k) (le_of_eq (mul_comm q p))

  difference : (s t : Bool) → (s ≡ true → a ≡ 0) → (t ≡ true → b ≡ 0) → T (le (sum binary64 s (a * q) (not t) (b * p) (p * q)) one64)
  difference false false u v = apart false true (a * q) (b * p) (p * q) refl (mul-pos P Q) first_most second_most
  difference false true u v =
      let z : b * p ≡ 0 = rw (v refl) (zero-mul p) in
      together false (a * q) (b * p) (p * q) (mul-pos P Q) (omega (arith, first_most))
  difference true false u v =
      let z : a * q ≡ 0 = rw (u refl) (zero-mul q) in
      together true (a * q) (b * p) (p * q) (mul-pos P Q) (omega (arith, second_most))
  difference true true u v = apart true false (a * q) (b * p) (p * q) refl (mul-pos P Q) first_most second_most

-- a number from 0 to 1, taken apart: where its sign is set it is zero
data Fraction : Float → Type 0 where
  fraction : (s : Bool) (m : ℕ) (e : ℤ) → m * up e ≤ down e → (s ≡ true → m * up e ≡ 0) → Fraction (fin s m e)

within_fraction : (x : Float) → T (le zero64 x) → T (le x one64) → Fraction x
unfolding le of_bits
within_fraction nan h k = absurd h
within_fraction (inf false) h k = absurd k
within_fraction (inf true) h k = absurd h
within_fraction (fin false m e) h k =
    let l = lt_or_eq (m * up e * 1) (1 * 1 * down e) k in
    fraction false m e (omega arith) (λ z. absurd (true≢false (sym z)))
within_fraction (fin true m e) h k =
    let l : 0 * 1 * down e ≡ m * up e * 1 = eqb→eq (0 * 1 * down e) (m * up e * 1) (and_l (eqb (0 * 1 * down e) (m * up e * 1)) _ h) in
    let z : m * up e ≡ 0 = omega arith in
    fraction true m e (omega arith) (λ _. z)

fractions_differ : {x y : Float} → Fraction x → Fraction y → T (le (sub binary64 x y) one64)
unfolding sub add neg
fractions_differ (fraction s m e h u) (fraction t n d k v) =
    difference (m * up e) (down e) (n * up d) (down d) (down_pos e) (down_pos d) h k s t u v

pub difference_most : {x y : Float} → InUnit x → InUnit y → T (le (sub binary64 x y) one64)
difference_most {x} {y} u v =
    fractions_differ (within_fraction x u.least u.most) (within_fraction y v.least v.most)

-- ---- whole numbers
pub whole_grows : (a b : ℕ) → a ≤ b → T (plain (of_int binary64 (pos b))) → AtMost (of_int binary64 (pos a)) (of_int binary64 (pos b))
unfolding of_int
whole_grows a b h p =
    rounds (of_int binary64 (pos a)) (of_int binary64 (pos b)) a 1 b 1 refl refl (lit< tt) (lit< tt) (omega arith) p
