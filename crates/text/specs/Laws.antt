-- The promises on text: it is read back, and its length is bounded. Their proofs are in proofs/Decimal.antt and proofs/Hex.antt.
use Rattle.std.specs.Prelude.{ℕ, ◌+◌, ◌*◌, ◌-◌, ◌^◌, ◌<◌, ◌≤◌, ◌≡◌, List, [], ◌∷◌, length, get_or, ltb}
use Rattle.base.specs.Pick.{pick}
use Rattle.base.specs.Bytes.{Bytes}
use Rattle.text.specs.Text.{decimal, hex}

-- ---- decimal
-- the number whose decimal digits are v's and then the text's
unfoldable pub from_decimal : ℕ → List ℕ → ℕ
from_decimal v [] = v
from_decimal v (d ∷ l) = from_decimal (v * 10 + (d - 48)) l

abbrev pub DecimalReadsBack : Type 0
DecimalReadsBack = (n : ℕ) → n < 2 ^ 64 → from_decimal 0 (decimal n) ≡ n

-- 48 is the code of the digit 0. It is also what get_or answers for an empty text, so the text of n has a first byte
abbrev pub DecimalHasNoZeroBefore : Type 0
DecimalHasNoZeroBefore =
    ((n : ℕ) → 0 < n → n < 2 ^ 64 → get_or (decimal n) 0 48 ≡ 48 → ⊥) × (decimal 0 ≡ 48 ∷ [])

-- what a caller must have room for
abbrev pub DecimalIsShort : Type 0
DecimalIsShort = (n k : ℕ) → 1 ≤ k → n < 10 ^ k → (1 ≤ length (decimal n)) × (length (decimal n) ≤ k)

-- ---- hexadecimal
-- the digit of an ASCII code: 58 is past those of 0 to 9
abbrev pub from_glyph : ℕ → ℕ
from_glyph g = pick (ltb g 58) (g - 48) (g - 87)

-- a single digit at the end is no byte
unfoldable pub from_hex : List ℕ → List ℕ
from_hex [] = []
from_hex (g ∷ []) = []
from_hex (g ∷ (h ∷ l)) = (from_glyph g * 16 + from_glyph h) ∷ from_hex l

abbrev pub HexLength : Type 0
HexLength = (l : List ℕ) → length (hex l) ≡ 2 * length l

-- so different bytes have different text
abbrev pub HexReadsBack : Type 0
HexReadsBack = (l : List ℕ) → Bytes l → from_hex (hex l) ≡ l
