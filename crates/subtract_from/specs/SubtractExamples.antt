-- What `subtract_from` answers on the bytes of a few ranges. Letters are ASCII: a is 97, c 99, d 100, f 102, z 122.
use Rattle.std.specs.Prelude.{ℕ, ◌≡◌, List, [], ◌∷◌, ◌++◌}
use Rattle.base.specs.Outcome.{answer, stop}
use Rattle.subtract_from.specs.SubtractCalls.{subtract_from_outcome}

-- [j,k) and [j,k], of keys of one byte
abbrev pub up_to : ℕ → ℕ → List ℕ
up_to j k = 96 ∷ 0 ∷ 1 ∷ j ∷ 0 ∷ 1 ∷ k ∷ []

abbrev pub through : ℕ → ℕ → List ℕ
through j k = 80 ∷ 0 ∷ 1 ∷ j ∷ 0 ∷ 1 ∷ k ∷ []

pub record SubtractExamples : Type 0 where
  -- the edge of document 01: [a,z] less [c,f) is [a,c) and [f,z]; [c,f] less it is [f,f]
  pub both_sides : subtract_from_outcome (up_to 99 102) (through 97 122) 15 ≡ answer (2 ∷ (up_to 97 99 ++ through 102 122))
  pub last_key : subtract_from_outcome (up_to 99 102) (through 99 102) 8 ≡ answer (1 ∷ through 102 102)
  -- [c,d] less it is nothing, and room for the count is due all the same
  pub nothing_left : subtract_from_outcome (up_to 99 102) (through 99 100) 1 ≡ answer (0 ∷ [])
  pub no_room : subtract_from_outcome (up_to 99 102) (through 99 100) 0 ≡ stop 16
  pub one_byte_short : subtract_from_outcome (up_to 99 102) (through 97 122) 14 ≡ stop 16
  -- -..z] less the interval that holds no key, which ends before the empty key, starts at that key
  pub empty_key_written : subtract_from_outcome (32 ∷ 0 ∷ 0 ∷ []) (16 ∷ 0 ∷ 1 ∷ 122 ∷ []) 7 ≡ answer (1 ∷ 80 ∷ 0 ∷ 0 ∷ 0 ∷ 1 ∷ 122 ∷ [])
  -- an interval that ends included is stop 10, but a range that fails `non_empty` comes first
  pub included_end : subtract_from_outcome (through 99 102) (through 97 122) 15 ≡ stop 10
  pub empty_first : subtract_from_outcome (through 99 102) (up_to 97 97) 15 ≡ stop 4
