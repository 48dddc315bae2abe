-- The exits of the calls that write.
-- Assumes nothing.
use Prim.Native.Nat.{ℕ, ◌<◌, ◌≤◌}
use mathlib.Core.Path.{◌≡◌, refl, sym, ◌∙◌, ap}
use mathlib.Core.Bool.{true}
use mathlib.Core.List.{List}
use lib.ListN.{length}
use Rattle.base.specs.Outcome.{reported, lent, written_to}
use Rattle.base.specs.declared.Written.{Written}
use Rattle.base.specs.declared.Written.TheVariants.{Stop}
use Rattle.key.specs.Order.{Key}
use Rattle.comparable_range.specs.Range.{bound_of, range_of}
use Rattle.comparable_range.specs.declared.Kind.TheVariants.{Unbounded}
use Rattle.format.specs.Range.{range_in, write_range, RangeWhole}
use Rattle.format.specs.declared.range.BoundSpan.{BoundSpan}
use Rattle.format.specs.declared.range.RangeRead.{RangeRead}
use Rattle.format.specs.declared.range.RangeRead.TheVariants.{At as RangeAt, Stop as RangeStop}
use Rattle.format.proofs.GivenExits.{key_fits, key_long}
use Rattle.bytes_range.specs.Prefix.{from_prefix_and_subrange}
use Rattle.bytes_range.specs.Writing.{joins_within, joined_to}
use Rattle.bytes_range.proofs.Begins.{whole_subrange_is_from_prefix}
use Rattle.bilqarush.specs.Calls.{from_prefix_outcome, from_prefix_and_subrange_outcome}
use Rattle.bilqarush.proofs.Checks.{range_stops, range_is, start_inside, end_inside}

module _ (p d : List ℕ) where
  pub prefix_long : 1024 < length p → Stop 3 ≡ reported (from_prefix_outcome p (length d))
  unfolding from_prefix_outcome
  prefix_long h = rw (key_long p h)

  pub prefix_long_keeps : 1024 < length p → d ≡ lent d (from_prefix_outcome p (length d))
  unfolding from_prefix_outcome
  prefix_long_keeps h = rw (key_long p h)

  pub free_joins : (k : Key) → joins_within p (bound_of Unbounded k) ≡ true
  unfolding joins_within
  free_joins k = refl

  prefix_is : (j k : Key) → length p ≤ 1024 → from_prefix_outcome p (length d) ≡ written_to (length d) (write_range (from_prefix_and_subrange p (range_of Unbounded j Unbounded k)))
  unfolding from_prefix_outcome
  prefix_is j k h = rw (key_fits p h, whole_subrange_is_from_prefix p)

  pub prefix_reports : {w : Written} (j k : Key) → length p ≤ 1024 → w ≡ reported (written_to (length d) (write_range (from_prefix_and_subrange p (range_of Unbounded j Unbounded k)))) → w ≡ reported (from_prefix_outcome p (length d))
  prefix_reports j k h q = q ∙ sym (ap reported (prefix_is j k h))

  pub prefix_stands : {f : List ℕ} (j k : Key) → length p ≤ 1024 → f ≡ lent d (written_to (length d) (write_range (from_prefix_and_subrange p (range_of Unbounded j Unbounded k)))) → f ≡ lent d (from_prefix_outcome p (length d))
  prefix_stands j k h q = q ∙ sym (ap (lent d) (prefix_is j k h))

pub ruleset prefix_exits = (prefix_long, prefix_long_keeps, free_joins, prefix_reports, prefix_stands)

module _ (p l d : List ℕ) where
  pub sub_long : 1024 < length p → Stop 3 ≡ reported (from_prefix_and_subrange_outcome p l (length d))
  unfolding from_prefix_and_subrange_outcome
  sub_long h = rw (key_long p h)

  pub sub_long_keeps : 1024 < length p → d ≡ lent d (from_prefix_and_subrange_outcome p l (length d))
  unfolding from_prefix_and_subrange_outcome
  sub_long_keeps h = rw (key_long p h)

  module _ (h : length p ≤ 1024) {r : RangeRead} (w : RangeWhole l r) where
    pub sub_stops : {n : ℕ} → r ≡ RangeStop n → Stop n ≡ reported (from_prefix_and_subrange_outcome p l (length d))
    unfolding from_prefix_and_subrange_outcome
    sub_stops q = rw (key_fits p h, range_stops w q)

    pub sub_stops_keeps : {n : ℕ} → r ≡ RangeStop n → d ≡ lent d (from_prefix_and_subrange_outcome p l (length d))
    unfolding from_prefix_and_subrange_outcome
    sub_stops_keeps q = rw (key_fits p h, range_stops w q)

    module _ {s e : BoundSpan} {n : ℕ} (q : r ≡ RangeAt s e n) where
      pub sub_reports : {v : Written} → v ≡ reported (joined_to (length d) p (range_in l s e)) → v ≡ reported (from_prefix_and_subrange_outcome p l (length d))
      unfolding from_prefix_and_subrange_outcome
      sub_reports g = rw (key_fits p h, range_is w q) g

      pub sub_stands : {f : List ℕ} → f ≡ lent d (joined_to (length d) p (range_in l s e)) → f ≡ lent d (from_prefix_and_subrange_outcome p l (length d))
      unfolding from_prefix_and_subrange_outcome
      sub_stands g = rw (key_fits p h, range_is w q) g

pub ruleset subrange_exits = (sub_long, sub_long_keeps, sub_stops, sub_stops_keeps, sub_reports, sub_stands, start_inside, end_inside)
