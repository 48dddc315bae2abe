-- A supplied bound is its kind with its key. Forgetting the suppliers of an intersection is by cases on the sides.
-- Assumes nothing.
use Prim.Native.Nat.{ℕ}
use mathlib.Core.Path.{◌≡◌, refl}
use mathlib.Core.List.{List}
use mathlib.Core.Option.{map}
use Rattle.key.specs.Order.{Key}
use Rattle.comparable_range.specs.Range.{bound_of, range_of, of, intersect_sides}
use Rattle.comparable_range.specs.Range as plain
use Rattle.comparable_range.specs.declared.Kind.{Kind}
use Rattle.comparable_range.specs.declared.Kind.TheVariants.{Unbounded, Included, Excluded}
use Rattle.comparable_range.specs.declared.Side.{Side}
use Rattle.comparable_range.specs.declared.Side.TheVariants.{First, Second}
use Rattle.comparable_range.specs.Range.{Sides}
use Rattle.std.specs.Prelude.{None, Some}
use Rattle.format.specs.Joint.{Supply, range, chosen, intersect}
use Rattle.format.specs.Span.{supplied_bound, bound_key}
use Rattle.format.specs.Laws.{JointIntersectForgets}
use Rattle.format.specs.declared.span.Supplied.{Supplied}

-- ---- a supplied bound
same_bound : (k : Kind) (x : Key) → bound_of k (bound_key (bound_of k x)) ≡ bound_of k x
same_bound Unbounded x = refl
same_bound Included x = refl
same_bound Excluded x = refl

module _ (a b : List ℕ) where
  -- a bound is its kind with its key
  pub supplied_bound_lem : (x : Supplied) {k : Kind} {j : Key} → k ≡ x.bound.kind → j ≡ bound_key (supplied_bound a b x) → bound_of k j ≡ supplied_bound a b x
  supplied_bound_lem x p q = rw (p, q) (same_bound x.bound.kind _)

-- ---- the promise
bound_of_lem : (side : Side) (x y : Supply) → (of side x y).bound ≡ of side x.bound y.bound
bound_of_lem First x y = refl
bound_of_lem Second x y = refl

pub joint_intersect_forgets : JointIntersectForgets
unfolding intersect
joint_intersect_forgets j k = go (intersect_sides (range j) (range k))
  where
    go : (w : Sides) → map range (chosen j k w) ≡ plain.chosen (range j) (range k) w
    go None = refl
    go (Some (s, e)) = rw (bound_of_lem s j.start k.start, bound_of_lem e j.end k.end)
