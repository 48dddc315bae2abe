-- The exits of the functions that find the parts of a range.
-- Assumes nothing.
use Prim.Native.Nat.{ℕ}
use mathlib.Core.Path.{◌≡◌, refl, sym, ◌∙◌}
use mathlib.Core.Bool.{Bool, true, false, not, true≢false}
use mathlib.Core.Option.{none, some}
use mathlib.Core.List.{List}
use Rattle.std.proofs.lemmas.Bool.{not-true, not-false}
use lib.ListN.{take, drop}
use Rattle.key.specs.Order.{Key}
use Rattle.comparable_range.specs.Factors.{is_keyed}
use Rattle.comparable_range.specs.Range.{unbounded, included, excluded, bound_of, of, intersect_sides, intersect}
use Rattle.comparable_range.specs.declared.Kind.{Kind}
use Rattle.comparable_range.specs.declared.Kind.TheVariants.{Unbounded, Included, Excluded}
use Rattle.comparable_range.specs.declared.Side.{Side}
use Rattle.comparable_range.specs.Range.{Sides}
use Rattle.std.specs.Prelude.{None, Some}
use Rattle.format.specs.Range.{bound_in, range_in, BoundInside}
use Rattle.format.specs.declared.range.BoundSpan.{BoundSpan}
use Rattle.format.specs.declared.span.RangeSpan.{RangeSpan}
use Rattle.format.specs.Span.{Met}
use Rattle.format.proofs.Spans.{side_inside, side_bound}
use Rattle.incremental_progress.specs.Intervals.{part_before, part_from}
use Rattle.incremental_progress.specs.Parts.{key_of}
use Rattle.subtract_from.specs.Found.{PartFound}

-- ---- cut
module _ (a b : List ℕ) (r q : RangeSpan) {w : Sides} (h : w ≡ intersect_sides (range_in a r.start r.end) (range_in b q.start q.end)) where
  pub cut_none : w ≡ None → PartFound a b (intersect (range_in a r.start r.end) (range_in b q.start q.end)) None
  cut_none e = record { meaning = rw (← h, e); inside = tt }

  pub cut_met :
      {s e : Side} {u v : BoundSpan}
      → w ≡ Some (s, e)
      → u ≡ of s r.start q.start
      → v ≡ of e r.end q.end
      → BoundInside a r.start
      → BoundInside a r.end
      → BoundInside b q.start
      → BoundInside b q.end
      → PartFound a b (intersect (range_in a r.start r.end) (range_in b q.start q.end)) (Some (record { start = record { side = s; bound = u }; end = record { side = e; bound = v } }))
  cut_met {s} {e} {u} {v} p hu hv i j k l =
      record {
        meaning = rw (← h, p, hu, hv, side_bound s a b r.start q.start refl refl refl, side_bound e a b r.end q.end refl refl refl);
        inside =
            record {
              start = rw hu (side_inside s a b r.start q.start refl refl i k);
              end = rw hv (side_inside e a b r.end q.end refl refl j l);
            };
      }

pub ruleset cut_exits = (cut_none, cut_met)

-- ---- part_before, part_from
some_key : (k : Kind) (x : Key) → is_keyed k ≡ true → key_of (bound_of k x) ≡ some x
some_key Unbounded x h = absurd (true≢false (sym h))
some_key Included x h = refl
some_key Excluded x h = refl

no_key : (k : Kind) (x : Key) → is_keyed k ≡ false → key_of (bound_of k x) ≡ none
no_key Unbounded x h = refl
no_key Included x h = absurd (true≢false h)
no_key Excluded x h = absurd (true≢false h)

module _ (a b : List ℕ) (r : RangeSpan) (x : BoundSpan) {t : Bool} (e : t ≡ is_keyed x.kind) where
  abbrev key : Key
  key = take x.len (drop x.at b)

  is_some : not t ≡ false → key_of (bound_in b x) ≡ some (take x.len (drop x.at b))
  is_some w = some_key x.kind key (sym e ∙ not-false t w)

  is_none : not t ≡ true → key_of (bound_in b x) ≡ none
  is_none w = no_key x.kind key (sym e ∙ not-true t w)

  pub before_found : {m : Met} → not t ≡ false → PartFound a b (intersect (range_in a r.start r.end) (record { start = unbounded; end = excluded (take x.len (drop x.at b)) })) m → PartFound a b (part_before (key_of (bound_in b x)) (range_in a r.start r.end)) m
  unfolding part_before
  before_found w p = rw (is_some w) p

  pub none_before : not t ≡ true → PartFound a b (part_before (key_of (bound_in b x)) (range_in a r.start r.end)) None
  unfolding part_before
  none_before w = rw (is_none w) (record { meaning = refl; inside = tt })

  pub from_found : {m : Met} → not t ≡ false → PartFound a b (intersect (range_in a r.start r.end) (record { start = included (take x.len (drop x.at b)); end = unbounded })) m → PartFound a b (part_from (key_of (bound_in b x)) (range_in a r.start r.end)) m
  unfolding part_from
  from_found w p = rw (is_some w) p

  pub none_from : not t ≡ true → PartFound a b (part_from (key_of (bound_in b x)) (range_in a r.start r.end)) None
  unfolding part_from
  none_from w = rw (is_none w) (record { meaning = refl; inside = tt })

pub ruleset part_exits = (before_found, none_before, from_found, none_from)
