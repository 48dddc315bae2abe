-- What the code's numbers are known to be.
use Rattle.std.specs.Prelude.{◌≡◌, ℕ, ◌≤◌, max, T, Float}
use Rattle.std.specs.Float.Ieee.{le}
use Rattle.key.specs.Order.{Key}
use Rattle.comparable_range.specs.Range.{Bound, Range}
use Rattle.visible_size.specs.Steps.{zero64, one64, min_visible_fraction, key_fraction, bound_number, range_len, visible_size}
use Rattle.visible_size.specs.declared.VisibleFraction.{VisibleFraction}
use Rattle.visible_size.specs.declared.VisibleFraction.TheVariants.{Whole, Part}

-- from 0 to 1
pub record InUnit (x : Float) : Type 0 where
  pub least : T (le zero64 x)
  pub most : T (le x one64)

pub record KeyNumber (part : Key) (x : Float) : Type 0 where
  pub meaning : x ≡ key_fraction part
  pub within : InUnit x

pub record BoundNumber (skip : ℕ) (side : Float) (b : Bound) (x : Float) : Type 0 where
  pub meaning : x ≡ bound_number skip side b
  pub within : InUnit x

-- a difference of two such numbers is at most 1
pub record RangeLen (skip : ℕ) (r : Range) (x : Float) : Type 0 where
  pub meaning : x ≡ range_len skip r
  pub most : T (le x one64)

-- from 1e-6 to 1
abbrev pub InPart : VisibleFraction → Type 0
InPart Whole = Unit
InPart (Part f) = T (le min_visible_fraction f) × T (le f one64)

pub record FractionFound (f : VisibleFraction) (r : VisibleFraction) : Type 0 where
  pub meaning : r ≡ f
  pub within : InPart r

pub record SizeFound (raw : ℕ) (f : VisibleFraction) (r : ℕ) : Type 0 where
  pub meaning : r ≡ visible_size raw f
  pub most : r ≤ max 1 raw
