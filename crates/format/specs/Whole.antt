-- An input buffer read whole: its length before its fields, and no byte left after the last.
use Rattle.std.specs.Prelude.{ℕ, List, [], ◌∷◌, length, leb}
use Rattle.base.specs.Outcome.{Outcome, answer, check}
use Rattle.base.specs.Outcome as outcome
use Rattle.key.specs.Order.{Key}
use Rattle.format.specs.Got.{Got, got, stop}

abbrev pub ended : {A : Type 0} → Got A → Outcome A
ended (stop n) = outcome.stop n
ended (got a []) = answer a
ended (got a (b ∷ r)) = outcome.stop 1

unfoldable pub whole : {A : Type 0} → (List ℕ → Got A) → List ℕ → Outcome A
whole read l = check 3 (leb (length l) 65536) (ended (read l))

-- a key or a prefix that is lent as it is: its length is that of the slice
unfoldable pub key_given : List ℕ → Outcome Key
key_given l = check 3 (leb (length l) 1024) (answer l)
