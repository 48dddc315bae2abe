-- Visible size in f64 steps, each as db_state.rs has it and in its order.
use Rattle.std.specs.Prelude.{ℕ, zero, suc, ◌+◌, ◌*◌, ◌/◌, Bool, List, [], ◌∷◌, take, drop, ℤ, pos, ◌==◌, from_bits, Float}
use Rattle.std.specs.Float.{nan, inf, fin, binary64}
use Rattle.std.specs.Float.Ieee.{up, down, of_int, to_unsigned, round, add, sub, mul, div, lt, eq}
use Rattle.base.specs.Pick.{pick}
use Rattle.key.specs.Order.{Key, is_equal}
use Rattle.comparable_range.specs.Range.{Bound, unbounded, included, excluded, Range, cmp_range}
use Rattle.format.specs.Span.{bound_key}
use Rattle.visible_size.specs.declared.VisibleFraction.{VisibleFraction}
use Rattle.visible_size.specs.declared.VisibleFraction.TheVariants.{Whole, Part}

-- ---- the numbers that the steps start from, by their bits
abbrev pub zero64 : Float
zero64 = from_bits binary64 0

abbrev pub one64 : Float
one64 = from_bits binary64 0x3FF0_0000_0000_0000

-- 256
abbrev pub byte_value_range : Float
byte_value_range = from_bits binary64 0x4070_0000_0000_0000

-- `f64::EPSILON`, 2^-52
abbrev pub epsilon : Float
epsilon = from_bits binary64 0x3CB0_0000_0000_0000

-- 1e-6
abbrev pub min_visible_fraction : Float
min_visible_fraction = from_bits binary64 0x3EB0_C6F7_A0B5_ED8D

-- 2^53, which no raw size exceeds: check 7
abbrev pub most_size : Float
most_size = from_bits binary64 0x4340_0000_0000_0000

-- ---- f64's `max` and `clamp`
abbrev pub maximum : Float → Float → Float
maximum x y = pick (lt y x) x y

abbrev pub clamp : Float → Float → Float → Float
clamp x low high = pick (lt x low) low (pick (lt high x) high x)

-- ---- the number of a key
-- 256^-1, 256^-2, ..: of the first byte, the second, ..
unfoldable pub scale : ℕ → Float
scale zero = div binary64 one64 byte_value_range
scale (suc i) = div binary64 (scale i) byte_value_range

-- a number with bytes added to it, the first of which stands at a place
unfoldable pub with_bytes : Float → ℕ → List ℕ → Float
with_bytes x place [] = x
with_bytes x place (b ∷ bs) = with_bytes (add binary64 x (mul binary64 (of_int binary64 (pos b)) (scale place))) (suc place) bs

-- `key_fraction` of the part of a key after the skipped bytes: at most eight are read
unfoldable pub key_fraction : Key → Float
key_fraction part = with_bytes zero64 0 (take 8 part)

-- ---- the length of a range
unfoldable pub common_prefix_len : Key → Key → ℕ
common_prefix_len [] b = 0
common_prefix_len (x ∷ a) [] = 0
common_prefix_len (x ∷ a) (y ∷ b) = pick (x == y) (suc (common_prefix_len a b)) 0

-- a bound's number: without a key, that of its side
abbrev pub bound_number : ℕ → Float → Bound → Float
bound_number skip side unbounded = side
bound_number skip side (included k) = key_fraction (drop skip k)
bound_number skip side (excluded k) = key_fraction (drop skip k)

-- `range_span`: 0 for an open start and 1 for an open end
unfoldable pub range_len : ℕ → Range → Float
range_len skip r = sub binary64 (bound_number skip one64 r.end) (bound_number skip zero64 r.start)

-- ---- the fraction
-- of the visible length and the physical one
unfoldable pub lengths_fraction : Float → Float → VisibleFraction
lengths_fraction visible physical =
    pick (eq visible zero64) Whole (Part (clamp (div binary64 visible (maximum physical epsilon)) min_visible_fraction one64))

abbrev pub skip_of : Range → ℕ
skip_of physical = common_prefix_len (bound_key physical.start) (bound_key physical.end)

unfoldable pub same_range : Range → Range → Bool
same_range r q = is_equal (cmp_range r q)

-- of a table's own range and a view's effective range
unfoldable pub ranges_fraction : Range → Range → VisibleFraction
ranges_fraction physical effective =
    pick (same_range effective physical)
    Whole
    (lengths_fraction (range_len (skip_of physical) effective) (range_len (skip_of physical) physical))

-- ---- the size
-- the whole number nearest to m 2^e, of two the greater
abbrev pub nearest_whole : ℕ → ℤ → ℕ
nearest_whole m e = (2 * (m * up e) / down e + 1) / 2

-- f64's `round`: to the nearest whole number, a half away from zero
unfoldable pub round_half_away : Float → Float
round_half_away nan = nan
round_half_away (inf s) = inf s
round_half_away (fin s m e) = round binary64 s (nearest_whole m e) 1

abbrev pub fraction_number : VisibleFraction → Float
fraction_number Whole = one64
fraction_number (Part f) = f

-- a raw size times a fraction, rounded, and 1 at least
unfoldable pub visible_size : ℕ → VisibleFraction → ℕ
visible_size raw f = to_unsigned 64 (maximum (round_half_away (mul binary64 (of_int binary64 (pos raw)) (fraction_number f))) one64)
