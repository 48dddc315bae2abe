-- A key: a 16-bit length of at most 1,024, and as many bytes.
use Rattle.std.specs.Prelude.{ℕ, ◌+◌, ◌≤◌, ◌≡◌, List, ◌++◌, length, take, drop, leb}
use Rattle.base.specs.Pick.{pick}
use Rattle.key.specs.Order.{Key}
use Rattle.format.specs.Got.{Got, got, stop, and_then}
use Rattle.format.specs.Number.{read_number, write_number}
use Rattle.format.specs.declared.KeyRead.{KeyRead}
use Rattle.format.specs.declared.KeyRead.TheVariants.{At, Stop}

-- n bytes
unfoldable pub read_bytes : ℕ → List ℕ → Got (List ℕ)
read_bytes n l = pick (leb n (length l)) (got (take n l) (drop n l)) (stop 1)

unfoldable pub read_key : List ℕ → Got Key
read_key l = and_then (read_number 2 l) (λ n r. pick (leb n 1024) (read_bytes n r) (stop 3))

unfoldable pub write_key : Key → List ℕ
write_key k = write_number 2 (length k) ++ k

-- what an answer of `key_at` says of the bytes s
abbrev pub key_of : List ℕ → KeyRead → Got Key
key_of s (At start len next) = got (take len (drop start s)) (drop next s)
key_of s (Stop n) = stop n

-- its places are within s
abbrev pub KeyInside : List ℕ → KeyRead → Type 0
KeyInside s (At start len next) = (start + len ≡ next) × (next ≤ length s)
KeyInside s (Stop n) = Unit

-- the key that a reader finds stands where the answer says
pub record KeyFound (s : List ℕ) (g : Got Key) (r : KeyRead) : Type 0 where
  pub meaning : key_of s r ≡ g
  pub inside : KeyInside s r
