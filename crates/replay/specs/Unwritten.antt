-- A lent buffer that was filled with the byte 165 and not written since, from a place on.
use Rattle.std.specs.Prelude.{ℕ, ◌≤◌, ◌<◌, ◌≡◌, List, length, get_or}

pub record Unwritten (out : List ℕ) (from : ℕ) : Type 0 where
  pub each : (i : ℕ) → from ≤ i → i < length out → get_or out i 0 ≡ 165
