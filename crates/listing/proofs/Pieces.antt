-- Text that is put in two pieces, one after the other.
-- Assumes nothing.
use Prim.Native.Nat.{ℕ, ◌+◌, ◌≤◌}
use native.Mathlib.Omega.{arith}
use mathlib.Core.Path.{◌≡◌, ap, ◌∙◌}
use mathlib.Core.List.{List, ◌++◌}
use lib.ListN.{length, length-append}
use Rattle.base.specs.Splice.{splice, length_splice, splice_splice}

module _ (d : List ℕ) (at : ℕ) (x y : List ℕ) (room : at + length (x ++ y) ≤ length d) where
  size : length (x ++ y) ≡ length x + length y
  size = length-append x y

  pub first_room : at + length x ≤ length d
  first_room = omega (arith, size, room)

  module _ {e : List ℕ} {to : ℕ} (p : e ≡ splice d at x) (t : to ≡ at + length x) where
    pub second_room : to + length y ≤ length e
    second_room = rw (p, length_splice d at x first_room) (omega (arith, size, room))

    pub both_put : {f : List ℕ} → f ≡ splice e to y → f ≡ splice d at (x ++ y)
    both_put q = q ∙ ap (λ l. splice l to y) p ∙ splice_splice d at x y to t first_room

    pub both_past : {z : ℕ} → z ≡ to + length y → z ≡ at + length (x ++ y)
    both_past q = omega (arith, size)
