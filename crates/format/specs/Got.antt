-- What a reader finds at the front of a list: a value and the bytes after it, or the number of the stop.
use Rattle.std.specs.Prelude.{ℕ, Bool, true, false, List}

pub data Got (A : Type 0) : Type 0 where
  got : A → List ℕ → Got A
  stop : ℕ → Got A

-- one reader after another
abbrev pub and_then : {A B : Type 0} → Got A → (A → List ℕ → Got B) → Got B
and_then (got a l) f = f a l
and_then (stop n) f = stop n

-- whether it found something
abbrev pub is_got : {A : Type 0} → Got A → Bool
is_got (got a r) = true
is_got (stop k) = false
