-- What a call answered and left in a lent buffer that was filled before, as a recorded answer has it.
use Rattle.std.specs.Prelude.{ℕ, ◌≤◌, ◌≡◌, List, [], ◌∷◌, length, take}
use Rattle.base.specs.declared.Written.{Written}
use Rattle.base.specs.declared.Written.TheVariants.{Wrote, Stop}
use Rattle.replay.specs.Unwritten.{Unwritten}

-- a stop alone, and nothing written
pub record Stopped (answer out : List ℕ) (n : ℕ) : Type 0 where
  pub stop : answer ≡ n ∷ []
  pub kept : Unwritten out 0

-- no stop and then all bytes that were written, and nothing past them
pub record Holds (answer out : List ℕ) (n : ℕ) : Type 0 where
  pub fits : n ≤ length out
  pub bytes : answer ≡ 0 ∷ take n out
  pub rest : Unwritten out n

abbrev pub Recorded : List ℕ → List ℕ → Written → Type 0
Recorded answer out (Stop n) = Stopped answer out n
Recorded answer out (Wrote n) = Holds answer out n
