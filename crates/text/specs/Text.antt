-- Numbers and bytes as ASCII text: a number in decimal digits, and bytes in hexadecimal digits.
use Rattle.std.specs.Prelude.{ℕ, zero, suc, ◌+◌, ◌/◌, ◌%◌, List, [], ◌∷◌, ◌++◌, ltb}
use Rattle.base.specs.Pick.{pick}

-- the ASCII code of a digit below 16: 0 to 9, then a to f
abbrev pub glyph : ℕ → ℕ
glyph d = pick (ltb d 10) (48 + d) (87 + d)

-- in at most that many digits, so that the recursion ends: the last digit is the remainder
unfoldable pub decimal_in : ℕ → ℕ → List ℕ
decimal_in zero n = []
decimal_in (suc k) n = pick (ltb n 10) (glyph n ∷ []) (decimal_in k (n / 10) ++ (glyph (n % 10) ∷ []))

-- 20 digits hold every number of 64 bits
unfoldable pub decimal : ℕ → List ℕ
decimal n = decimal_in 20 n

-- two digits a byte, the high half first
unfoldable pub hex : List ℕ → List ℕ
hex [] = []
hex (b ∷ l) = glyph (b / 16) ∷ (glyph (b % 16) ∷ hex l)
