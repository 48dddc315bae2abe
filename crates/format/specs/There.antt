-- What is known to be there stands where the code's answers say: no stop is left to tell of.
use Rattle.std.specs.Prelude.{ℕ, ◌+◌, ◌≤◌, ◌≡◌, List, length, take, drop}
use Rattle.key.specs.Order.{Key}
use Rattle.comparable_range.specs.Range.{Bound}
use Rattle.format.specs.Got.{Got, got}
use Rattle.format.specs.Range.{bound_in, BoundInside}
use Rattle.format.specs.declared.range.BoundSpan.{BoundSpan}
use Rattle.format.specs.declared.there.KeySpan.{KeySpan}

pub record KeyThere (s : List ℕ) (g : Got Key) (k : KeySpan) : Type 0 where
  pub meaning : g ≡ got (take k.len (drop k.at s)) (drop (k.at + k.len) s)
  pub inside : k.at + k.len ≤ length s

pub record BoundThere (s : List ℕ) (g : Got Bound) (b : BoundSpan) : Type 0 where
  pub meaning : g ≡ got (bound_in s b) (drop (b.at + b.len) s)
  pub inside : BoundInside s b
