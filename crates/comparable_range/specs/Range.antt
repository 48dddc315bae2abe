-- Bounds and ranges of keys, as comparable_range.rs has them.
use Rattle.std.specs.Prelude.{Bool, true, false, ◌&&◌, ◌||◌}
use Rattle.std.proofs.Math.Option.{Option, none, some}
use Rattle.base.specs.Pick.{pick}
use Rattle.key.specs.Order.{Key, cmp_key, or_else, at_most, is_less, is_equal, key_at_most, key_below}
use Rattle.std.specs.declared.cmp.Ordering.{Ordering}
use Rattle.std.specs.declared.cmp.Ordering.TheVariants.{Less, Equal, Greater}
use Rattle.comparable_range.specs.declared.Kind.{Kind}
use Rattle.comparable_range.specs.declared.Kind.TheVariants.{Unbounded, Included, Excluded}
use Rattle.comparable_range.specs.declared.Side.{Side}
use Rattle.comparable_range.specs.declared.Side.TheVariants.{First, Second}
use Rattle.std.specs.Prelude.{Option as Optional, None, Some, is_some}

pub data Bound : Type 0 where
  unbounded : Bound
  included excluded : Key → Bound

pub record Range : Type 0 where
  pub start : Bound
  pub end : Bound

-- a kind with its key
abbrev pub bound_of : Kind → Key → Bound
bound_of Unbounded k = unbounded
bound_of Included k = included k
bound_of Excluded k = excluded k

abbrev pub range_of : Kind → Key → Kind → Key → Range
range_of ks s ke e = record { start = bound_of ks s; end = bound_of ke e }

-- ---- the order of bounds
-- The order of two bounds, both starts (true) or both ends (false). At equal keys, included comes before excluded as a
-- start and after it as an end. An unbounded start is least, an unbounded end greatest.
unfoldable pub cmp_bound : Bool → Bound → Bound → Ordering
cmp_bound start unbounded unbounded = Equal
cmp_bound start unbounded (included b) = pick start Less Greater
cmp_bound start unbounded (excluded b) = pick start Less Greater
cmp_bound start (included a) unbounded = pick start Greater Less
cmp_bound start (included a) (included b) = cmp_key a b
cmp_bound start (included a) (excluded b) = or_else (cmp_key a b) (pick start Less Greater)
cmp_bound start (excluded a) unbounded = pick start Greater Less
cmp_bound start (excluded a) (included b) = or_else (cmp_key a b) (pick start Greater Less)
cmp_bound start (excluded a) (excluded b) = cmp_key a b

-- ---- the test, and the keys held
-- With two keys, start < end, or equality if both are included. With an unbounded side it is true.
unfoldable pub bounds_pass : Bound → Bound → Bool
bounds_pass unbounded e = true
bounds_pass (included a) unbounded = true
bounds_pass (included a) (included b) = key_at_most a b
bounds_pass (included a) (excluded b) = key_below a b
bounds_pass (excluded a) unbounded = true
bounds_pass (excluded a) (included b) = key_below a b
bounds_pass (excluded a) (excluded b) = key_below a b

abbrev pub non_empty : Range → Bool
non_empty r = bounds_pass r.start r.end

-- the key lies at or after a start
unfoldable pub start_holds : Bound → Key → Bool
start_holds unbounded x = true
start_holds (included a) x = key_at_most a x
start_holds (excluded a) x = key_below a x

-- the key lies at or before an end
unfoldable pub end_holds : Bound → Key → Bool
end_holds unbounded x = true
end_holds (included b) x = key_at_most x b
end_holds (excluded b) x = key_below x b

unfoldable pub holds : Range → Key → Bool
holds r x = start_holds r.start x && end_holds r.end x

-- ---- two ranges
abbrev pub of : {A : Type 0} → Side → A → A → A
of First a b = a
of Second a b = b

-- the range whose start and end the sides supply
abbrev pub supplied : Range → Range → Side → Side → Range
supplied r q s e = record { start = of s r.start q.start; end = of e r.end q.end }

-- which of two ranges supplies the start of a third and which the end, if there is a third
abbrev pub Sides : Type 0
Sides = Optional (Side × Side)

abbrev pub chosen : Range → Range → Sides → Option Range
chosen r q None = none
chosen r q (Some (s, e)) = some (supplied r q s e)

-- The greater start and the lesser end; of equal bounds, the second range's start and the first's end.
unfoldable pub start_side : Bound → Bound → Side
start_side a b = pick (at_most (cmp_bound true a b)) Second First

unfoldable pub end_side : Bound → Bound → Side
end_side a b = pick (at_most (cmp_bound false a b)) First Second

abbrev pub overlap : Range → Range → Range
overlap r q = supplied r q (start_side r.start q.start) (end_side r.end q.end)

-- which range supplies the start of the intersection and which its end
unfoldable pub intersect_sides : Range → Range → Sides
intersect_sides r q = pick (non_empty (overlap r q)) (Some (start_side r.start q.start, end_side r.end q.end)) None

abbrev pub intersect : Range → Range → Option Range
intersect r q = chosen r q (intersect_sides r q)

-- ---- union
-- an end and a start at one key, of which just one includes it
unfoldable pub are_adjacent : Bound → Bound → Bool
are_adjacent unbounded s = false
are_adjacent (included a) unbounded = false
are_adjacent (included a) (included b) = false
are_adjacent (included a) (excluded b) = is_equal (cmp_key a b)
are_adjacent (excluded a) unbounded = false
are_adjacent (excluded a) (included b) = is_equal (cmp_key a b)
are_adjacent (excluded a) (excluded b) = false

-- ranges are ordered by their starts, then by their ends
unfoldable pub cmp_range : Range → Range → Ordering
cmp_range r q = or_else (cmp_bound true r.start q.start) (cmp_bound false r.end q.end)

abbrev pub meets : Sides → Bool
meets s = is_some s

-- the greater end; of equal ones, the second
unfoldable pub greater_end_side : Bound → Bound → Side
greater_end_side a b = pick (at_most (cmp_bound false a b)) Second First

-- Of two ranges in order, if they meet or the first's end is adjacent to the second's start: the first's start and the
-- greater end, of equal ends the second's.
unfoldable pub unite_sides : Range → Range → Sides
unite_sides r q =
    pick (meets (intersect_sides r q) || are_adjacent r.end q.start)
    (Some (First, greater_end_side r.end q.end))
    None

abbrev pub other : Side → Side
other First = Second
other Second = First

abbrev pub exchanged : Sides → Sides
exchanged None = None
exchanged (Some (s, e)) = Some (other s, other e)

-- the lesser range comes first; of equal ranges, the second
unfoldable pub union_sides : Range → Range → Sides
union_sides r q = pick (is_less (cmp_range r q)) (unite_sides r q) (exchanged (unite_sides q r))

abbrev pub union : Range → Range → Option Range
union r q = chosen r q (union_sides r q)
