-- Ranges whose bounds come from two suppliers: each bound says which.
use Rattle.std.proofs.Math.Option.{Option, none, some}
use Rattle.comparable_range.specs.Range.{Bound, Range, of, intersect_sides}
use Rattle.comparable_range.specs.declared.Side.{Side}
use Rattle.comparable_range.specs.Range.{Sides}
use Rattle.std.specs.Prelude.{None, Some}

-- a bound, and which of the two supplied it
pub record Supply : Type 0 where
  pub side : Side
  pub bound : Bound

pub record Joint : Type 0 where
  pub start : Supply
  pub end : Supply

-- a range that one of them supplies
abbrev pub from : Side → Range → Joint
from side r = record { start = record { side = side; bound = r.start }; end = record { side = side; bound = r.end } }

-- the range, without its suppliers
abbrev pub range : Joint → Range
range j = record { start = j.start.bound; end = j.end.bound }

abbrev pub chosen : Joint → Joint → Sides → Option Joint
chosen j k None = none
chosen j k (Some (s, e)) = some (record { start = of s j.start k.start; end = of e j.end k.end })

-- the greater start and the lesser end, each with its supplier; of equal bounds, the second's start and the first's end
unfoldable pub intersect : Joint → Joint → Option Joint
intersect j k = chosen j k (intersect_sides (range j) (range k))
