-- A range that stands in a slice is read through its parts: what a function says of the parts it says of the range.
-- Assumes nothing.
use Prim.Native.Nat.{ℕ}
use mathlib.Core.Path.{◌≡◌, sym, ◌∙◌, ap}
use mathlib.Core.Bool.{Bool, true, false, not, ◌&&◌}
use mathlib.Core.List.{List}
use lib.ListN.{length, take, drop}
use Rattle.key.specs.Order.{Key}
use Rattle.comparable_range.specs.Range.{Range, bound_of, range_of, non_empty}
use Rattle.comparable_range.specs.declared.Kind.{Kind}
use Rattle.base.specs.Pick.{and_first, and_second}
use Rattle.base.specs.Outcome.{stop, reported, lent, written_to}
use Rattle.base.specs.declared.Written.{Written}
use Rattle.base.specs.declared.Written.TheVariants.{Stop}
use Rattle.format.specs.Range.{range_in, write_range}
use Rattle.format.specs.declared.range.BoundSpan.{BoundSpan}
use Rattle.bytes_range.specs.Prefix.{from_prefix_and_subrange}
use Rattle.bytes_range.specs.Laws.{leaves_none}
use Rattle.bytes_range.specs.Writing.{joins_within, range_joins, joined_to}
use Rattle.bytes_range.proofs.PrefixLaws.{joined_passes_as_given}

abbrev part : List ℕ → BoundSpan → Key
part s b = take b.len (drop b.at s)

-- ---- join
pub both_pass : (p : Key) (r : Range) {t u : Bool} → t ≡ non_empty r → t ≡ true → u ≡ leaves_none p r → not u ≡ (non_empty r && non_empty (from_prefix_and_subrange p r))
both_pass p r e h f = rw (joined_passes_as_given p r, ← e, h, f)

-- what `join` knows of the parts it says of the range
module _ (l : List ℕ) (start end : BoundSpan) {s e : Key} (hs : s ≡ part l start) (he : e ≡ part l end) (p : Key) (d : List ℕ) where
  abbrev parts : Range
  parts = range_of start.kind s end.kind e

  same : parts ≡ range_in l start end
  same = rw (hs, he)

  module _ {t : Bool} (ht : t ≡ range_joins p parts) where
    stop_3 : t ≡ false → joined_to (length d) p parts ≡ stop 3
    unfolding joined_to
    stop_3 h = rw (← ht, h)

    pub stops_3 : t ≡ false → Stop 3 ≡ reported (joined_to (length d) p (range_in l start end))
    stops_3 h = rw (← same) (sym (ap reported (stop_3 h)))

    pub keeps_3 : t ≡ false → d ≡ lent d (joined_to (length d) p (range_in l start end))
    keeps_3 h = rw (← same) (sym (ap (lent d) (stop_3 h)))

    module _ (k : t ≡ true) {u : Bool} (hu : u ≡ (non_empty parts && non_empty (from_prefix_and_subrange p parts))) where
      stop_4 : u ≡ false → joined_to (length d) p parts ≡ stop 4
      unfolding joined_to
      stop_4 h = rw (← ht, k, ← hu, h)

      pub stops_4 : u ≡ false → Stop 4 ≡ reported (joined_to (length d) p (range_in l start end))
      stops_4 h = rw (← same) (sym (ap reported (stop_4 h)))

      pub keeps_4 : u ≡ false → d ≡ lent d (joined_to (length d) p (range_in l start end))
      keeps_4 h = rw (← same) (sym (ap (lent d) (stop_4 h)))

      passed : u ≡ true → joined_to (length d) p parts ≡ written_to (length d) (write_range (from_prefix_and_subrange p parts))
      unfolding joined_to
      passed h = rw (← ht, k, ← hu, h)

      pub join_reports : {w : Written} → u ≡ true → w ≡ reported (written_to (length d) (write_range (from_prefix_and_subrange p parts))) → w ≡ reported (joined_to (length d) p (range_in l start end))
      join_reports h q = rw (← same, passed h) q

      pub join_stands : {f : List ℕ} → u ≡ true → f ≡ lent d (written_to (length d) (write_range (from_prefix_and_subrange p parts))) → f ≡ lent d (joined_to (length d) p (range_in l start end))
      join_stands h q = rw (← same, passed h) q

module _ (p : Key) (ks ke : Kind) (s e : Key) {t : Bool} (ht : t ≡ range_joins p (range_of ks s ke e)) where
  pub start_joins : t ≡ true → joins_within p (bound_of ks s) ≡ true
  start_joins h = and_first (joins_within p (bound_of ks s)) _ (sym ht ∙ h)

  pub end_joins : t ≡ true → joins_within p (bound_of ke e) ≡ true
  end_joins h = and_second (joins_within p (bound_of ks s)) _ (sym ht ∙ h)

pub ruleset join_calls = (stops_3, keeps_3, stops_4, keeps_4, join_reports, join_stands, start_joins, end_joins)
