-- The image that a list of commits goes on with.
use Rattle.std.specs.Prelude.{ℕ, List, take}
use Rattle.base.specs.declared.Written.{Written}
use Rattle.base.specs.declared.Written.TheVariants.{Wrote, Stop}

-- the one that stands at the front of the lent buffer, or the same as before after a stop
abbrev pub handed_on : List ℕ → List ℕ → Written → List ℕ
handed_on given out (Stop n) = given
handed_on given out (Wrote n) = take n out
