-- Bytes that stand somewhere in others.
use Rattle.std.specs.Prelude.{ℕ, ◌≡◌, List, take, drop}

pub record Has (text piece : List ℕ) : Type 0 where
  pub at : ℕ
  pub count : ℕ
  pub stands : take count (drop at text) ≡ piece
