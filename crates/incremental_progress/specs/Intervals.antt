-- Durable intervals and their subtraction, as incremental_progress.rs has them.
use Rattle.std.specs.Prelude.{ℕ, ◌+◌, Bool, true, false}
use Rattle.std.proofs.Math.Option.{Option, none, some}
use mathlib.Core.List.{List, [], ◌∷◌, ◌++◌, flat_map}
use Rattle.base.specs.Pick.{pick}
use Rattle.key.specs.Order.{Key}
use Rattle.comparable_range.specs.Range.{Bound, unbounded, included, excluded, Range, holds, intersect}

-- [start, end): a side that is missing is unbounded
pub record Interval : Type 0 where
  pub start : Option Key
  pub end : Option Key

abbrev pub listed : {A : Type 0} → Option A → List A
listed none = []
listed (some a) = a ∷ []

-- a range's keys before a start, and those from an end on
unfoldable pub part_before : Option Key → Range → Option Range
part_before none r = none
part_before (some k) r = intersect r (record { start = unbounded; end = excluded k })

unfoldable pub part_from : Option Key → Range → Option Range
part_from none r = none
part_from (some k) r = intersect r (record { start = included k; end = unbounded })

-- what of a range lies outside an interval
unfoldable pub subtract_from : Interval → Range → List Range
subtract_from iv r = listed (part_before iv.start r) ++ listed (part_from iv.end r)

-- each interval in turn cut out of each range
unfoldable pub cut_out : List Interval → List Range → List Range
cut_out [] rs = rs
cut_out (iv ∷ ivs) rs = cut_out ivs (flat_map (subtract_from iv) rs)

-- ---- what an interval holds
abbrev pub start_bound : Option Key → Bound
start_bound none = unbounded
start_bound (some k) = included k

abbrev pub end_bound : Option Key → Bound
end_bound none = unbounded
end_bound (some k) = excluded k

abbrev pub to_range : Interval → Range
to_range iv = record { start = start_bound iv.start; end = end_bound iv.end }

unfoldable pub any_holds : List Interval → Key → Bool
any_holds [] x = false
any_holds (iv ∷ ivs) x = pick (holds (to_range iv) x) true (any_holds ivs x)

-- how many ranges hold a key
abbrev pub bit : Bool → ℕ
bit b = pick b 1 0

unfoldable pub times : Key → List Range → ℕ
times x [] = 0
times x (r ∷ rs) = bit (holds r x) + times x rs
