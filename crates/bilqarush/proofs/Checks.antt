-- The exits of the calls on keys, bounds and single ranges: the checks passed so far decide the outcome.
-- Assumes nothing.
use Prim.Native.Nat.{ℕ, ◌<◌, ◌≤◌}
use native.Mathlib.Omega.{arith}
use mathlib.Core.Path.{◌≡◌, sym, ap, ◌∙◌}
use mathlib.Core.Bool.{Bool, true, false}
use mathlib.Core.List.{List}
use lib.IntN.{ℤ}
use lib.ListN.{length, take, drop, length-take, length-drop}
use Rattle.base.specs.Outcome.{stop, answer, test_of}
use Rattle.base.specs.declared.Tested.TheVariants.{Is, Stop as TestedStop}
use Rattle.key.specs.Order.{cmp_key, sign}
use Rattle.std.specs.declared.cmp.Ordering.{Ordering}
use Rattle.comparable_range.specs.Range.{bound_of, cmp_bound, non_empty, holds}
use Rattle.comparable_range.specs.declared.Kind.{Kind}
use Rattle.format.specs.Range.{read_range, range_in, BoundInside, RangeWhole}
use Rattle.format.specs.Whole.{whole}
use Rattle.format.specs.Given.{bound_given, given_of}
use Rattle.format.proofs.GivenExits.{key_fits, key_long}
use Rattle.format.specs.declared.given.Given.{Given}
use Rattle.format.specs.declared.given.Given.TheVariants.{Bound as GivenBound, Stop as GivenStop}
use Rattle.format.specs.declared.range.BoundSpan.{BoundSpan}
use Rattle.format.specs.declared.range.RangeRead.{RangeRead}
use Rattle.format.specs.declared.range.RangeRead.TheVariants.{At as RangeAt, Stop as RangeStop}
use Rattle.bytes_range.specs.Prefix.{as_point}
use Rattle.bytes_range.specs.Writing.{point_if}
use Rattle.bilqarush.specs.Calls.{range_given, compare_outcome, cmp_bound_outcome, non_empty_outcome, contains_outcome, as_point_outcome}
use Rattle.bilqarush.specs.Answers.{order_of, point_at}
use Rattle.bilqarush.specs.declared.Compared.TheVariants.{Order as Ordered, Stop as ComparedStop}
use Rattle.bilqarush.specs.declared.Point.TheVariants.{At, Nothing, Stop}

-- ---- keys
module _ (a b : List ℕ) where
  pub first_long : 1024 < length a → order_of (ComparedStop 3) ≡ compare_outcome a b
  unfolding compare_outcome
  first_long h = rw (key_long a h)

  pub second_long : length a ≤ 1024 → 1024 < length b → order_of (ComparedStop 3) ≡ compare_outcome a b
  unfolding compare_outcome
  second_long h k = rw (key_fits a h, key_long b k)

  pub compared : {o : Ordering} {z : ℤ} → length a ≤ 1024 → length b ≤ 1024 → o ≡ cmp_key a b → z ≡ sign o → order_of (Ordered z) ≡ compare_outcome a b
  unfolding compare_outcome
  compared h k e q = rw (key_fits a h, key_fits b k, q, e)

pub ruleset compare_exits = (first_long, second_long, compared)

-- ---- bounds
module _ (ka : ℕ) (a : List ℕ) (kb : ℕ) (b : List ℕ) (start : Bool) (g : Given) (e : given_of a g ≡ bound_given ka a) where
  pub first_stops : {n : ℕ} → g ≡ GivenStop n → order_of (ComparedStop n) ≡ cmp_bound_outcome ka a kb b start
  unfolding cmp_bound_outcome
  first_stops q = rw (← e, q)

  module _ {j : Kind} (q : g ≡ GivenBound j) (h : Given) (f : given_of b h ≡ bound_given kb b) where
    pub second_stops : {n : ℕ} → h ≡ GivenStop n → order_of (ComparedStop n) ≡ cmp_bound_outcome ka a kb b start
    unfolding cmp_bound_outcome
    second_stops w = rw (← e, q, ← f, w)

    pub bounds_ordered : {k : Kind} {o : Ordering} {z : ℤ} → h ≡ GivenBound k → o ≡ cmp_bound start (bound_of j a) (bound_of k b) → z ≡ sign o → order_of (Ordered z) ≡ cmp_bound_outcome ka a kb b start
    unfolding cmp_bound_outcome
    bounds_ordered w u v = rw (← e, q, ← f, w, v, u)

pub ruleset bound_exits = (first_stops, second_stops, bounds_ordered)

-- ---- one range
module _ {l : List ℕ} {r : RangeRead} (w : RangeWhole l r) where
  pub range_stops : {n : ℕ} → r ≡ RangeStop n → whole read_range l ≡ stop n
  range_stops q = sym w.meaning ∙ rw q

  module _ {s e : BoundSpan} {n : ℕ} (q : r ≡ RangeAt s e n) where
    pub range_is : whole read_range l ≡ answer (range_in l s e)
    range_is = sym w.meaning ∙ rw q

    pub start_inside : BoundInside l s
    start_inside = (rw q at w.inside).0

    pub end_inside : BoundInside l e
    end_inside = (rw q at w.inside).1.0

    pub tested : {t : Bool} → t ≡ non_empty (range_in l s e) → test_of (Is t) ≡ non_empty_outcome l
    unfolding non_empty_outcome
    tested h = rw (range_is, h)

    pub key_too_long : (key : List ℕ) → 1024 < length key → test_of (TestedStop 3) ≡ contains_outcome l key
    unfolding contains_outcome
    key_too_long key h = rw (range_is, key_long key h)

    module _ {t : Bool} (h : t ≡ non_empty (range_in l s e)) where
      pub key_failing : (key : List ℕ) → length key ≤ 1024 → t ≡ false → test_of (TestedStop 4) ≡ contains_outcome l key
      unfolding contains_outcome
      key_failing key k z = rw (range_is, key_fits key k, ← h, z)

      pub key_held : (key : List ℕ) {u : Bool} → length key ≤ 1024 → t ≡ true → u ≡ holds (range_in l s e) key → test_of (Is u) ≡ contains_outcome l key
      unfolding contains_outcome
      key_held key k z v = rw (range_is, key_fits key k, ← h, z, v)

      pub point_failing : t ≡ false → Stop 4 ≡ point_at (as_point_outcome l)
      unfolding as_point_outcome range_given
      point_failing z = rw (range_is, ← h, z)

      pub is_point_lem : {u : Bool} → t ≡ true → point_if u (take s.len (drop s.at l)) ≡ as_point (range_in l s e) → u ≡ true → At 3 s.len ≡ point_at (as_point_outcome l)
      unfolding as_point_outcome range_given
      is_point_lem z v k = rw (range_is, ← h, z, ← v, k, length-take, length-drop) (ap (At 3) (omega (arith, start_inside)))

      pub no_point : {u : Bool} → t ≡ true → point_if u (take s.len (drop s.at l)) ≡ as_point (range_in l s e) → u ≡ false → Nothing ≡ point_at (as_point_outcome l)
      unfolding as_point_outcome range_given
      no_point z v k = rw (range_is, ← h, z, ← v, k)

  pub not_tested : {n : ℕ} → r ≡ RangeStop n → test_of (TestedStop n) ≡ non_empty_outcome l
  unfolding non_empty_outcome
  not_tested q = rw (range_stops q)

  pub not_held : (key : List ℕ) {n : ℕ} → r ≡ RangeStop n → test_of (TestedStop n) ≡ contains_outcome l key
  unfolding contains_outcome
  not_held key q = rw (range_stops q)

  pub not_a_point : {n : ℕ} → r ≡ RangeStop n → Stop n ≡ point_at (as_point_outcome l)
  unfolding as_point_outcome range_given
  not_a_point q = rw (range_stops q)

pub ruleset inside_exits = (start_inside, end_inside)

pub ruleset range_exits = (start_inside, end_inside, tested, not_tested, key_too_long, key_failing, key_held, not_held, point_failing, is_point_lem, no_point, not_a_point)
