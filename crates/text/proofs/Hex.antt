-- The promises on hexadecimal text.
-- Assumes nothing.
use Prim.Native.Nat.{ℕ, ◌+◌, ◌*◌, ◌/◌, ◌%◌, ◌<◌}
use native.Mathlib.Omega.{arith}
use mathlib.Core.Path.{◌≡◌, refl}
use mathlib.Core.List.{List, [], ◌∷◌, ◌++◌}
use Rattle.base.specs.Bytes.{bytes_tail}
use Rattle.text.specs.Text.{hex}
use Rattle.text.specs.Laws.{from_hex, HexLength, HexReadsBack}
use Rattle.text.proofs.Glyph.{digit_back}

pub hex_length : HexLength
unfolding hex
hex_length [] = refl
hex_length (b ∷ l) = omega (arith, hex_length l)

pub hex_append : (k l : List ℕ) → hex (k ++ l) ≡ hex k ++ hex l
unfolding hex
hex_append [] l = refl
hex_append (b ∷ k) l = rw (hex_append k l)

pub hex_reads_back : HexReadsBack
unfolding hex from_hex
hex_reads_back [] b = refl
hex_reads_back (x ∷ l) b =
    let h : x < 256 = b.below 0 in
    let e : x / 16 * 16 + x % 16 ≡ x = omega arith in
    rw (digit_back (x / 16) (omega arith), digit_back (x % 16) (omega arith), hex_reads_back l (bytes_tail b), e)
