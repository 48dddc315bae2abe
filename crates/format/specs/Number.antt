-- A number of n bytes, most significant first.
use Rattle.std.specs.Prelude.{ℕ, zero, suc, ◌+◌, ◌/◌, ◌%◌, List, [], ◌∷◌, ◌++◌, length, take, drop, leb}
use Rattle.base.specs.Pick.{pick}
use Rattle.key.specs.Word.{digits}
use Rattle.format.specs.Got.{Got, got, stop}
use Rattle.format.specs.declared.Number.{Number}
use Rattle.format.specs.declared.Number.TheVariants.{Value, Short}

unfoldable pub read_number : ℕ → List ℕ → Got ℕ
read_number n l = pick (leb n (length l)) (got (digits 0 (take n l)) (drop n l)) (stop 1)

unfoldable pub write_number : ℕ → ℕ → List ℕ
write_number zero v = []
write_number (suc n) v = write_number n (v / 256) ++ (v % 256 ∷ [])

-- what an answer of `number_at` says of the bytes from a place of s
abbrev pub number_of : ℕ → List ℕ → ℕ → Number → Got ℕ
number_of n s at (Value v) = got v (drop (at + n) s)
number_of n s at Short = stop 1
