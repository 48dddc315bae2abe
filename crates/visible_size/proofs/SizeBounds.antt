-- A visible size is at least 1 and at most the raw size, a whole table's is its raw size, and those of a run add up. Assumes nothing.
use Rattle.std.proofs.Common.{◌≡◌, ℕ, ◌*◌, ◌/◌, ◌^◌, ◌≤◌, max, Bool, true, false, T, [], ◌∷◌, ℤ, pos, sym, refl, ap, ◌∙◌, subst, true≢false, mul-le-mul_right, le-div_iff_mul-le, zero-add, div-one, arith, lit<, lit≤, ltb→lt, leb→le}
use mathlib.Core.Option.{Option, none, some}
use lib.Ieee.{Float, nan, inf, fin, binary64, up, down, of_bits, of_int, to_unsigned, lt, mul}
use lib.Ieee.Exact.{HasValue}
use lib.Ieee.Fits.{down_pos}
use lib.Ieee.Nearest.{div_same}
use lib.Ieee.Scale.{round_same}
use Rattle.base.specs.Pick.{pick}
use Rattle.comparable_range.specs.Range.{Range}
use Rattle.records.specs.Values.{Table, View}
use Rattle.manifest.specs.Checks.{size_passes}
use Rattle.visible_size.specs.Steps.{one64, nearest_whole, round_half_away, fraction_number, visible_size}
use Rattle.visible_size.specs.Numbers.{InPart}
use Rattle.visible_size.specs.Sizes.{visible_fraction, raw_size, size_within, estimate_visible_size, estimate_run_visible_size}
use Rattle.visible_size.specs.SizeLaws.{SizeIsAtLeastOne, SizeIsAtMostRaw, WholeIsRaw, ViewSizeIsAtLeastOne, ViewSizeIsAtMostRaw, WithoutVisibleRange, RunSizeOfNoViews, RunSizeAdds}
use Rattle.visible_size.specs.declared.VisibleFraction.{VisibleFraction}
use Rattle.visible_size.specs.declared.VisibleFraction.TheVariants.{Whole}
use Rattle.visible_size.proofs.Twice.{whole_exact, answer_is}
use Rattle.visible_size.proofs.Products.{raw_value}
use Rattle.visible_size.proofs.SizeExits.{visible_is, rounded_most}

-- ---- at least 1
-- a number above 1 has a whole part of at least 1; only a nan, which is above nothing, has none
above_least : (y : Float) → T (lt one64 y) → 1 ≤ to_unsigned 64 y
unfolding lt to_unsigned of_bits
above_least nan h = absurd h
above_least (inf true) h = absurd h
above_least (inf false) h = lit≤ tt
above_least (fin true m e) h = absurd h
above_least (fin false m e) h =
    let q : 1 ≤ m * up e / down e = (le-div_iff_mul-le (down_pos e)).1 (omega (arith, ltb→lt (1 * 1 * down e) (m * up e * 1) h)) in
    omega arith

greater_least : (y : Float) (b : Bool) → (T b → 1 ≤ to_unsigned 64 y) → 1 ≤ to_unsigned 64 (pick b y one64)
unfolding to_unsigned of_bits
greater_least y true h = h tt
greater_least y false h = lit≤ tt

pub size_is_at_least_one : SizeIsAtLeastOne
unfolding visible_size
size_is_at_least_one raw f =
    let y = round_half_away (mul binary64 (of_int binary64 (pos raw)) (fraction_number f)) in
    greater_least y (lt one64 y) (above_least y)

-- ---- at most the raw size
pub size_is_at_most_raw : SizeIsAtMostRaw
size_is_at_most_raw raw f l p = omega (arith, visible_is raw f l p, rounded_most raw f l p)

-- ---- of a whole table: the product with 1 is the raw size, and so is what it rounds to
doubled_back : (a d raw : ℕ) → a * 1 ≡ raw * d → 2 * a * 1 ≡ 2 * raw * d
doubled_back a d raw e = omega arith

whole_nearest : (m : ℕ) (e : ℤ) (raw : ℕ) → m * up e * 1 ≡ raw * down e → nearest_whole m e ≡ raw
whole_nearest m e raw h =
    let q : 2 * (m * up e) / down e ≡ 2 * raw / 1 = div_same (2 * (m * up e)) (down e) (2 * raw) 1 (down_pos e) (lit< tt) (doubled_back (m * up e) (down e) raw h) in
    omega (arith, q ∙ div-one (2 * raw))

value_rounds : (y : Float) (raw : ℕ) → raw ≤ 2 ^ 53 → HasValue y false raw 1 → to_unsigned 64 (round_half_away y) ≡ raw
value_rounds nan raw l v = absurd v
value_rounds (inf s) raw l v = absurd v
value_rounds (fin true m e) raw l v = absurd (true≢false v.0)
value_rounds (fin false m e) raw l v =
    answer_is m e (omega (arith, v.1, mul-le-mul_right (down e) l)) ∙ whole_nearest m e raw v.1

times_one : (x : Float) (raw : ℕ) → raw ≤ 2 ^ 53 → HasValue x false raw 1 → HasValue (mul binary64 x one64) false raw 1
unfolding mul of_bits
times_one nan raw l v = absurd v
times_one (inf s) raw l v = absurd v
times_one (fin true m e) raw l v = absurd (true≢false v.0)
times_one (fin false m e) raw l v =
    subst (λ (y : Float). HasValue y false raw 1)
    (sym (round_same binary64 false (m * up e * (1 * 1)) (down e * 1) raw 1 (omega (arith, down_pos e)) (lit< tt) (omega (arith, v.1))))
    (whole_exact false raw l)

pub whole_is_raw : WholeIsRaw
whole_is_raw raw l =
    visible_is raw Whole l tt
    ∙ ap (λ (n : ℕ). max 1 n) (value_rounds (mul binary64 (of_int binary64 (pos raw)) one64) raw l (times_one (of_int binary64 (pos raw)) raw l (raw_value raw l)))

-- ---- of a view
within_least : (v : View) (r : Range) (n : ℕ) (f : VisibleFraction) → v.visible ≡ some r → 1 ≤ size_within v.visible n f
within_least v r n f e = rw e (size_is_at_least_one n f)

pub view_size_is_at_least_one : ViewSizeIsAtLeastOne
unfolding estimate_visible_size
view_size_is_at_least_one v r e = within_least v r (raw_size v.table) (visible_fraction v) e

within_most : (o : Option Range) (raw : ℕ) (f : VisibleFraction) → raw ≤ 2 ^ 53 → InPart f → size_within o raw f ≤ max 1 raw
within_most none raw f l p = omega arith
within_most (some r) raw f l p = size_is_at_most_raw raw f l p

passed_most : (t : Table) → size_passes t ≡ true → raw_size t ≤ 2 ^ 53
unfolding size_passes
passed_most t e = leb→le (raw_size t) (2 ^ 53) (subst T (sym e) tt)

pub view_size_is_at_most_raw : ViewSizeIsAtMostRaw
unfolding estimate_visible_size
view_size_is_at_most_raw v e p =
    within_most v.visible (raw_size v.table) (visible_fraction v) (passed_most v.table e) p

pub without_visible_range : WithoutVisibleRange
unfolding estimate_visible_size
without_visible_range v e = rw e

-- ---- of a run
pub run_size_of_no_views : RunSizeOfNoViews
unfolding estimate_run_visible_size
run_size_of_no_views = refl

pub run_size_adds : RunSizeAdds
unfolding estimate_run_visible_size
run_size_adds [] ws = sym (zero-add (estimate_run_visible_size ws))
run_size_adds (v ∷ vs) ws = omega (arith, run_size_adds vs ws)
