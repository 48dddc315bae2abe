-- A line of text for people, which ends where the next thing printed begins.
use Rattle.std.specs.Prelude.{ℕ, nat_eq, nat_lt, ◌&&◌, Bool, false, List, [], ◌∷◌}

-- a letter, a digit, a sign or a space of ASCII
abbrev pub is_printable : ℕ → Bool
is_printable b = nat_lt 31 b && nat_lt b 127

-- printable bytes, and the end of the line after them and nowhere before
unfoldable pub is_line : List ℕ → Bool
is_line [] = false
is_line (b ∷ []) = nat_eq b 10
is_line (b ∷ c ∷ bs) = is_printable b && is_line (c ∷ bs)
