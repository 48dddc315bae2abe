-- The exits of `span::meets`, and the bound of a side in the slice of that side.
-- Assumes nothing.
use Prim.Native.Nat.{ℕ}
use mathlib.Core.Path.{◌≡◌, refl, sym, ◌∙◌, ap}
use mathlib.Core.Bool.{true, false}
use mathlib.Core.List.{List}
use lib.ListN.{take, drop}
use Rattle.key.specs.Order.{Key}
use Rattle.comparable_range.specs.Range.{Range, bound_of, of, non_empty, overlap, meets, intersect_sides}
use Rattle.comparable_range.specs.declared.Side.{Side}
use Rattle.comparable_range.specs.declared.Side.TheVariants.{First, Second}
use Rattle.comparable_range.specs.Range.{Sides}
use Rattle.std.specs.Prelude.{Bool, is_some}
use Rattle.comparable_range.proofs.Unions.{meets_is}
use Rattle.format.specs.Range.{bound_in, BoundInside}
use Rattle.format.specs.declared.range.BoundSpan.{BoundSpan}

abbrev part : List ℕ → BoundSpan → Key
part s b = take b.len (drop b.at s)

-- ---- meets
module _ (r q : Range) {w : Sides} (h : w ≡ intersect_sides r q) where
  pub meets_lem : {t : Bool} → t ≡ is_some w → t ≡ non_empty (overlap r q)
  meets_lem e = e ∙ ap meets h ∙ meets_is r q

pub ruleset meet_exits = (meets_lem)

-- ---- bound_of, slice_of: the bound of a side stands in the slice of that side
module _ (d : Side) (a b : List ℕ) (x y : BoundSpan) {s : List ℕ} {o : BoundSpan} (h : s ≡ of d a b) (k : o ≡ of d x y) where
  pub side_inside : BoundInside a x → BoundInside b y → BoundInside s o
  side_inside p q = rw (h, k) (go d)
    where
      go : (d : Side) → BoundInside (of d a b) (of d x y)
      go First = p
      go Second = q

  pub side_bound : {j : Key} → j ≡ part s o → bound_of o.kind j ≡ of d (bound_in a x) (bound_in b y)
  side_bound e = rw (e, h, k) (go d)
    where
      go : (d : Side) → bound_in (of d a b) (of d x y) ≡ of d (bound_in a x) (bound_in b y)
      go First = refl
      go Second = refl
