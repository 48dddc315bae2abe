-- Bytes that were put into a lent buffer.
use Rattle.std.specs.Prelude.{ℕ, ◌+◌, ◌≡◌, List, length}
use Rattle.base.specs.Splice.{splice}

-- d with the bytes x from the place `to` on is e; they end at past
pub record Put (d : List ℕ) (to : ℕ) (x e : List ℕ) (past : ℕ) : Type 0 where
  pub is : e ≡ splice d to x
  pub past_is : past ≡ to + length x
