-- The table of scales in the code, each entry compared with its scale by one test that is computed.
-- Assumes nothing.
use Rattle.std.proofs.Common.{◌≡◌, ℕ, suc, ◌*◌, ◌^◌, ◌<◌, Bool, true, false, ◌&&◌, T, eqb, List, [], ◌∷◌, get_or, ℤ, pos, negsuc, refl, ap, eqb→eq}
use mathlib.Core.Bool.{beq}
use lib.Ieee.{Float, nan, inf, fin, binary64, of_bits, div, up, down}
use lib.Ieee.Fits.{and_l, and_r}
use lib.Ieee.Exact.{HasValue}
use Rattle.base.specs.Table.{all_below, below_all}
use Rattle.visible_size.specs.Steps.{scale}

-- ---- one and the same float
sign_is : (s t : Bool) → T (beq s t) → s ≡ t
sign_is true true h = refl
sign_is true false h = absurd h
sign_is false true h = absurd h
sign_is false false h = refl

abbrev same_exponent : ℤ → ℤ → Bool
same_exponent (pos a) (pos b) = eqb a b
same_exponent (pos a) (negsuc b) = false
same_exponent (negsuc a) (pos b) = false
same_exponent (negsuc a) (negsuc b) = eqb a b

exponent_is : (d e : ℤ) → T (same_exponent d e) → d ≡ e
exponent_is (pos a) (pos b) h = ap pos (eqb→eq a b h)
exponent_is (pos a) (negsuc b) h = absurd h
exponent_is (negsuc a) (pos b) h = absurd h
exponent_is (negsuc a) (negsuc b) h = ap negsuc (eqb→eq a b h)

-- finite, and of the same sign, digits and exponent
abbrev same : Float → Float → Bool
same nan y = false
same (inf s) y = false
same (fin s m e) nan = false
same (fin s m e) (inf t) = false
same (fin s m e) (fin t n d) = beq s t && (eqb m n && same_exponent e d)

same_is : (x y : Float) → T (same x y) → x ≡ y
same_is nan y h = absurd h
same_is (inf s) y h = absurd h
same_is (fin s m e) nan h = absurd h
same_is (fin s m e) (inf t) h = absurd h
same_is (fin s m e) (fin t n d) h =
    let k = and_r (beq s t) (eqb m n && same_exponent e d) h in
    rw (sign_is s t (and_l (beq s t) _ h), eqb→eq m n (and_l (eqb m n) _ k), exponent_is e d (and_r (eqb m n) _ k))

-- ---- the table, by its bits
abbrev pub scales : List Float
scales =
    of_bits binary64 0x3F70_0000_0000_0000
    ∷ of_bits binary64 0x3EF0_0000_0000_0000
    ∷ of_bits binary64 0x3E70_0000_0000_0000
    ∷ of_bits binary64 0x3DF0_0000_0000_0000
    ∷ of_bits binary64 0x3D70_0000_0000_0000
    ∷ of_bits binary64 0x3CF0_0000_0000_0000
    ∷ of_bits binary64 0x3C70_0000_0000_0000
    ∷ of_bits binary64 0x3BF0_0000_0000_0000
    ∷ []

abbrev entry : ℕ → Bool
entry i = same (get_or scales i nan) (scale i)

all_entries : T (all_below entry 8)
unfolding scale div of_bits
all_entries = tt

pub in_table : (place : ℕ) → place < 8 → get_or scales place nan ≡ scale place
in_table place h = same_is (get_or scales place nan) (scale place) (below_all entry 8 all_entries place h)

-- ---- what each scale is in exact numbers
abbrev has_value : Float → Bool → ℕ → ℕ → Bool
has_value nan s a c = false
has_value (inf t) s a c = false
has_value (fin t m e) s a c = beq t s && eqb (m * up e * c) (a * down e)

has-value : (x : Float) (s : Bool) (a c : ℕ) → T (has_value x s a c) → HasValue x s a c
has-value nan s a c h = absurd h
has-value (inf t) s a c h = absurd h
has-value (fin t m e) s a c h =
    (sign_is t s (and_l (beq t s) _ h), eqb→eq (m * up e * c) (a * down e) (and_r (beq t s) _ h))

abbrev power : ℕ → Bool
power i = has_value (scale i) false 1 (256 ^ suc i)

all_powers : T (all_below power 8)
unfolding scale div of_bits
all_powers = tt

pub scale_is_power : (place : ℕ) → place < 8 → HasValue (scale place) false 1 (256 ^ suc place)
scale_is_power place h = has-value (scale place) false 1 (256 ^ suc place) (below_all power 8 all_powers place h)
