-- The exit of the visible fraction for C: what the call without C answers decides what is told of it.
-- Assumes nothing.
use Prim.Native.Nat.{ℕ}
use mathlib.Core.Path.{◌≡◌, ap}
use mathlib.Core.Bool.{Bool}
use lib.Ieee.{Float}
use Rattle.base.specs.Outcome.{Outcome}
use Rattle.visible_size.specs.declared.VisibleFraction.{VisibleFraction}
use Rattle.told.specs.Told.{Held, OptionTold}
use Rattle.told.specs.Sizes.{part_of}
use Rattle.bilqarush_c.proofs.LookupExits.{option_told}

pub fraction_told :
    {o p : Outcome VisibleFraction} {part : Held Bool} {fraction : Held Float} {r : ℕ}
    → o ≡ p
    → OptionTold (part_of o) part fraction r
    → OptionTold (part_of p) part fraction r
fraction_told e t = option_told (ap part_of e) t
