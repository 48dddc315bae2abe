-- The exits of the calls on two ranges.
-- Assumes nothing.
use Prim.Native.Nat.{ℕ}
use mathlib.Core.Path.{◌≡◌, refl, sym, ◌∙◌}
use mathlib.Core.Bool.{Bool, true, false}
use mathlib.Core.Option.{Option}
use mathlib.Core.List.{List}
use denote.Ref.{Bor}
use Rattle.base.specs.Outcome.{Outcome, stop, answer}
use Rattle.key.specs.Order.{Key}
use Rattle.comparable_range.specs.Range.{non_empty, of, intersect_sides, union_sides}
use Rattle.comparable_range.specs.declared.Side.{Side}
use Rattle.comparable_range.specs.Range.{Sides}
use Rattle.std.specs.Prelude.{None, Some}
use Rattle.format.specs.Range.{range_in, BoundInside, RangeWhole}
use Rattle.format.specs.Joint.{Joint}
use Rattle.format.specs.declared.range.BoundSpan.{BoundSpan}
use Rattle.format.specs.declared.range.RangeRead.{RangeRead}
use Rattle.format.specs.declared.range.RangeRead.TheVariants.{At as RangeAt, Stop as RangeStop}
use Rattle.format.specs.declared.span.RangeSpan.{RangeSpan}
use Rattle.format.proofs.Spans.{side_inside, side_bound}
use Rattle.bilqarush.specs.Calls.{Pair, ranges_given, joint, intersect_outcome, intersect_start_key_outcome, intersect_end_key_outcome, union_outcome}
use Rattle.format.specs.Span.{joint_of, JoinedInside, JointFound, start_key_of, end_key_of, key_of}
use Rattle.bilqarush.specs.Answers.{BothFound, joined_by, stop_number, stop_of, PartFound}
use Rattle.bilqarush.specs.declared.Both.{Both}
use Rattle.bilqarush.specs.declared.Both.TheVariants.{Ranges, Stop as BothStop}
use Rattle.format.specs.declared.span.Joined.{Joined}
use Rattle.format.specs.declared.span.Joined.TheVariants.{Range as Found, Nothing, Stop}
use Rattle.bilqarush.proofs.Checks.{range_stops, range_is, start_inside, end_inside}

-- ---- ranges_given
module _ {a : List ℕ} (b : List ℕ) {r : RangeRead} (w : RangeWhole a r) where
  pub first_stops : {n : ℕ} → r ≡ RangeStop n → BothFound a b (BothStop n)
  unfolding ranges_given
  first_stops q = record { meaning = rw (range_stops w q); inside = tt }

module _ {a b : List ℕ} {r q : RangeRead} (w : RangeWhole a r) (v : RangeWhole b q) {s e : BoundSpan} {n : ℕ} (x : r ≡ RangeAt s e n) where
  pub second_stops : {m : ℕ} → q ≡ RangeStop m → BothFound a b (BothStop m)
  unfolding ranges_given
  second_stops y = record { meaning = rw (range_is w x, range_stops v y); inside = tt }

  module _ {t f : BoundSpan} {m : ℕ} (y : q ≡ RangeAt t f m) {i : Bool} (h : i ≡ non_empty (range_in a s e)) where
    pub first_fails : i ≡ false → BothFound a b (BothStop 4)
    unfolding ranges_given
    first_fails z = record { meaning = rw (range_is w x, range_is v y, ← h, z); inside = tt }

    module _ (z : i ≡ true) {j : Bool} (g : j ≡ non_empty (range_in b t f)) where
      pub second_fails : j ≡ false → BothFound a b (BothStop 4)
      unfolding ranges_given
      second_fails k = record { meaning = rw (range_is w x, range_is v y, ← h, z, ← g, k); inside = tt }

      pub both_pass : j ≡ true → BothFound a b (Ranges (record { start = s; end = e }) (record { start = t; end = f }))
      unfolding ranges_given
      both_pass k =
          record {
            meaning = rw (range_is w x, range_is v y, ← h, z, ← g, k);
            inside = (start_inside w x, (end_inside w x, (start_inside v y, end_inside v y)));
          }

pub ruleset pair_exits = (first_stops, second_stops, first_fails, second_fails, both_pass, start_inside, end_inside)

-- ---- from_sides
module _ (r q : RangeSpan) {i : Sides} where
  pub none_joined : i ≡ None → Nothing ≡ joined_by i r q
  none_joined h = rw h

  pub one_joined :
      {x y : Side} {u v : BoundSpan}
      → i ≡ Some (x, y)
      → u ≡ of x r.start q.start
      → v ≡ of y r.end q.end
      → Found (record { side = x; bound = u }) (record { side = y; bound = v }) ≡ joined_by i r q
  one_joined h k l = rw (h, k, l)

pub ruleset joined_exits = (none_joined, one_joined)

-- ---- a range joined from two that were given
module _ {a b : List ℕ} {r : Both} (w : BothFound a b r) {x y : RangeSpan} (q : r ≡ Ranges x y) where
  abbrev pair : Pair
  pair = record { first = range_in a x.start x.end; second = range_in b y.start y.end }

  pub given_is : ranges_given a b ≡ answer pair
  given_is = sym w.meaning ∙ rw q

  places : BoundInside a x.start × (BoundInside a x.end × (BoundInside b y.start × BoundInside b y.end))
  places = rw q at w.inside

  pub in_1 : BoundInside a x.start
  in_1 = places.0

  pub in_2 : BoundInside a x.end
  in_2 = places.1.0

  pub in_3 : BoundInside b y.start
  in_3 = places.1.1.0

  pub in_4 : BoundInside b y.end
  in_4 = places.1.1.1

  meant : (i : Sides) → joint_of a b (joined_by i x y) ≡ answer (joint pair i)
  meant None = refl
  meant (Some (s, e)) = rw (side_bound s a b x.start y.start refl refl refl, side_bound e a b x.end y.end refl refl refl)

  within : (i : Sides) → JoinedInside a b (joined_by i x y)
  within None = tt
  within (Some (s, e)) =
      (side_inside s a b x.start y.start refl refl in_1 in_3, side_inside e a b x.end y.end refl refl in_2 in_4)

  made : (i : Sides) {j : Joined} (g : Outcome (Option Joint)) → j ≡ joined_by i x y → answer (joint pair i) ≡ g → JointFound a b g j
  made i g h k = rw h (record { meaning = meant i ∙ k; inside = within i })

  pub intersection : {i : Sides} {j : Joined} → i ≡ intersect_sides pair.first pair.second → j ≡ joined_by i x y → JointFound a b (intersect_outcome a b) j
  unfolding intersect_outcome
  intersection {i} h k = made i _ k (rw (given_is, h))

  pub union_made : {i : Sides} {j : Joined} → i ≡ union_sides pair.first pair.second → j ≡ joined_by i x y → JointFound a b (union_outcome a b) j
  unfolding union_outcome
  union_made {i} h k = made i _ k (rw (given_is, h))

module _ {a b : List ℕ} {r : Both} (w : BothFound a b r) {n : ℕ} (q : r ≡ BothStop n) where
  given_stops : ranges_given a b ≡ stop n
  given_stops = sym w.meaning ∙ rw q

  pub no_intersection : JointFound a b (intersect_outcome a b) (Stop n)
  unfolding intersect_outcome
  no_intersection = record { meaning = rw given_stops; inside = tt }

  pub no_union : JointFound a b (union_outcome a b) (Stop n)
  unfolding union_outcome
  no_union = record { meaning = rw given_stops; inside = tt }

pub ruleset join_exits = (in_1, in_2, in_3, in_4, intersection, union_made, no_intersection, no_union)

-- ---- a number and a part that were made of the range that `intersect` answered
start_number : (a b : List ℕ) (j : Joined) → stop_number j ≡ stop_of (start_key_of (joint_of a b j))
start_number a b (Found s t) = refl
start_number a b Nothing = refl
start_number a b (Stop m) = refl

end_number : (a b : List ℕ) (j : Joined) → stop_number j ≡ stop_of (end_key_of (joint_of a b j))
end_number a b (Found s t) = refl
end_number a b Nothing = refl
end_number a b (Stop m) = refl

module _ {a b : List ℕ} {j : Joined} (w : JointFound a b (intersect_outcome a b) j) {n : ℕ} {k : Bor Key} (e : n ≡ stop_number j) where
  pub start_is_told : k.now ≡ key_of (start_key_of (joint_of a b j)) → PartFound (intersect_start_key_outcome a b) (record { stop = n; key = k })
  unfolding intersect_start_key_outcome
  start_is_told f = rw (← w.meaning) (record { number = e ∙ start_number a b j; bytes = f })

  pub end_is_told : k.now ≡ key_of (end_key_of (joint_of a b j)) → PartFound (intersect_end_key_outcome a b) (record { stop = n; key = k })
  unfolding intersect_end_key_outcome
  end_is_told f = rw (← w.meaning) (record { number = e ∙ end_number a b j; bytes = f })
