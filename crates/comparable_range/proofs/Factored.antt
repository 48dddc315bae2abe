-- The functions on bounds, as the code factors them, are the definitions by cases on the bounds.
-- Assumes nothing.
use mathlib.Core.Path.{◌≡◌, refl, ◌∙◌}
use mathlib.Core.Bool.{Bool, true, false}
use Rattle.key.specs.Order.{Key, cmp_key, or_else, at_most, is_less}
use Rattle.std.specs.declared.cmp.Ordering.{Ordering}
use Rattle.std.specs.declared.cmp.Ordering.TheVariants.{Less, Equal, Greater}
use Rattle.key.proofs.Linear.{or_else_end}
use Rattle.comparable_range.specs.Range.{Range, bound_of, range_of, supplied, of, cmp_bound, bounds_pass, non_empty, start_side, end_side, intersect_sides}
use Rattle.comparable_range.specs.Factors.{tie, key_order, passes}
use Rattle.comparable_range.specs.declared.Kind.{Kind}
use Rattle.comparable_range.specs.declared.Kind.TheVariants.{Unbounded, Included, Excluded}
use Rattle.comparable_range.specs.declared.Side.{Side}
use Rattle.comparable_range.specs.declared.Side.TheVariants.{First, Second}
use Rattle.std.specs.Prelude.{None, Some}

-- ---- the order of bounds
module _ (a b : Key) where
  cmp_factored : (start : Bool) (ka kb : Kind) → or_else (key_order ka a kb b) (tie start ka kb) ≡ cmp_bound start (bound_of ka a) (bound_of kb b)
  unfolding cmp_bound key_order
  cmp_factored start Unbounded Unbounded = refl
  cmp_factored start Unbounded Included = refl
  cmp_factored start Unbounded Excluded = refl
  cmp_factored start Included Unbounded = refl
  cmp_factored start Included Included = or_else_end (cmp_key a b)
  cmp_factored start Included Excluded = refl
  cmp_factored start Excluded Unbounded = refl
  cmp_factored start Excluded Included = refl
  cmp_factored start Excluded Excluded = or_else_end (cmp_key a b)

  pass_factored : (ka kb : Kind) → passes ka kb (key_order ka a kb b) ≡ bounds_pass (bound_of ka a) (bound_of kb b)
  unfolding bounds_pass key_order
  pass_factored Unbounded Unbounded = refl
  pass_factored Unbounded Included = refl
  pass_factored Unbounded Excluded = refl
  pass_factored Included Unbounded = refl
  pass_factored Included Included = go (cmp_key a b)
    where
      go : (o : Ordering) → passes Included Included o ≡ at_most o
      go Less = refl
      go Equal = refl
      go Greater = refl
  pass_factored Included Excluded = go (cmp_key a b)
    where
      go : (o : Ordering) → passes Included Excluded o ≡ is_less o
      go Less = refl
      go Equal = refl
      go Greater = refl
  pass_factored Excluded Unbounded = refl
  pass_factored Excluded Included = go (cmp_key a b)
    where
      go : (o : Ordering) → passes Excluded Included o ≡ is_less o
      go Less = refl
      go Equal = refl
      go Greater = refl
  pass_factored Excluded Excluded = go (cmp_key a b)
    where
      go : (o : Ordering) → passes Excluded Excluded o ≡ is_less o
      go Less = refl
      go Equal = refl
      go Greater = refl

  -- `cmp_bound`, `non_empty`
  pub bounds_compared : (start : Bool) (ka kb : Kind) {o p r : Ordering} → o ≡ key_order ka a kb b → p ≡ tie start ka kb → r ≡ or_else o p → r ≡ cmp_bound start (bound_of ka a) (bound_of kb b)
  bounds_compared start ka kb e f g = g ∙ rw (e, f) (cmp_factored start ka kb)

  pub bounds_tested : (ka kb : Kind) {o : Ordering} {r : Bool} → o ≡ key_order ka a kb b → r ≡ passes ka kb o → r ≡ bounds_pass (bound_of ka a) (bound_of kb b)
  bounds_tested ka kb e g = g ∙ rw e (pass_factored ka kb)

-- ---- two ranges
of_bound : (s : Side) (ka kb : Kind) (a b : Key) → bound_of (of s ka kb) (of s a b) ≡ of s (bound_of ka a) (bound_of kb b)
of_bound First ka kb a b = refl
of_bound Second ka kb a b = refl

module _ (ks : Kind) (s : Key) (ke : Kind) (e : Key) (js : Kind) (t : Key) (je : Kind) (f : Key) where
  abbrev r : Range
  r = range_of ks s ke e

  abbrev q : Range
  q = range_of js t je f

  -- `intersect`: the kinds and the keys are those of the two sides
  module _ {u v : Side} (hu : u ≡ start_side r.start q.start) (hv : v ≡ end_side r.end q.end)
      {ku kv : Kind} {x y : Key} (a : ku ≡ of u ks js) (b : x ≡ of u s t) (c : kv ≡ of v ke je) (d : y ≡ of v e f)
      {w : Bool} (h : w ≡ bounds_pass (bound_of ku x) (bound_of kv y)) where
    supplied_tested : w ≡ non_empty (supplied r q u v)
    supplied_tested = h ∙ rw (a, b, c, d, of_bound u ks js s t, of_bound v ke je e f)

    pub met : w ≡ true → Some (u, v) ≡ intersect_sides r q
    unfolding intersect_sides
    met k = rw (← hu, ← hv, ← supplied_tested, k)

    pub apart : w ≡ false → None ≡ intersect_sides r q
    unfolding intersect_sides
    apart k = rw (← hu, ← hv, ← supplied_tested, k)

pub ruleset pair_exits = (met, apart)
