-- The outcome of each public call: the checks in their order, then the answer. Document 01, "Ranges" and "Stops".
use Rattle.std.specs.Prelude.{ℕ, Bool, ◌&&◌, List, ℤ}
use Rattle.std.proofs.Math.Option.{Option, none, some}
use Rattle.base.specs.Outcome.{Outcome, answer, and_then, check, written_to}
use Rattle.key.specs.Order.{Key, cmp_key, sign}
use Rattle.comparable_range.specs.Range.{Range, cmp_bound, non_empty, holds, of, intersect_sides, union_sides}
use Rattle.comparable_range.specs.Range.{Sides}
use Rattle.std.specs.Prelude.{None, Some}
use Rattle.format.specs.Range.{read_range, write_range}
use Rattle.format.specs.Whole.{whole, key_given}
use Rattle.format.specs.Given.{bound_given}
use Rattle.format.specs.Joint.{Joint}
use Rattle.format.specs.Span.{start_key_of, end_key_of}
use Rattle.bytes_range.specs.Prefix.{from_prefix, as_point}
use Rattle.bytes_range.specs.Writing.{joined_to}

-- ---- what is given
-- a range that passes `non_empty`
unfoldable pub range_given : List ℕ → Outcome Range
range_given l = and_then (whole read_range l) (λ r. check 4 (non_empty r) (answer r))

pub record Pair : Type 0 where
  pub first : Range
  pub second : Range

-- two ranges: check 4 covers both
unfoldable pub ranges_given : List ℕ → List ℕ → Outcome Pair
ranges_given a b =
    and_then (whole read_range a) (λ r. and_then (whole read_range b) (λ q. check 4 (non_empty r && non_empty q) (answer (record { first = r; second = q }))))

-- ---- the calls
unfoldable pub compare_outcome : List ℕ → List ℕ → Outcome ℤ
compare_outcome a b = and_then (key_given a) (λ j. and_then (key_given b) (λ k. answer (sign (cmp_key j k))))

unfoldable pub cmp_bound_outcome : ℕ → List ℕ → ℕ → List ℕ → Bool → Outcome ℤ
cmp_bound_outcome ka a kb b start =
    and_then (bound_given ka a) (λ x. and_then (bound_given kb b) (λ y. answer (sign (cmp_bound start x y))))

unfoldable pub non_empty_outcome : List ℕ → Outcome Bool
non_empty_outcome l = and_then (whole read_range l) (λ r. answer (non_empty r))

unfoldable pub contains_outcome : List ℕ → List ℕ → Outcome Bool
contains_outcome l key =
    and_then (whole read_range l) (λ r. and_then (key_given key) (λ k. check 4 (non_empty r) (answer (holds r k))))

unfoldable pub as_point_outcome : List ℕ → Outcome (Option Key)
as_point_outcome l = and_then (range_given l) (λ r. answer (as_point r))

-- the range whose bounds the sides supply, each with the side of the given range that it comes from
abbrev pub joint : Pair → Sides → Option Joint
joint p None = none
joint p (Some (s, e)) =
    some (record {
      start = record { side = s; bound = of s p.first.start p.second.start };
      end = record { side = e; bound = of e p.first.end p.second.end };
    })

unfoldable pub intersect_outcome : List ℕ → List ℕ → Outcome (Option Joint)
intersect_outcome a b = and_then (ranges_given a b) (λ p. answer (joint p (intersect_sides p.first p.second)))

unfoldable pub intersect_start_key_outcome : List ℕ → List ℕ → Outcome Key
intersect_start_key_outcome a b = start_key_of (intersect_outcome a b)

unfoldable pub intersect_end_key_outcome : List ℕ → List ℕ → Outcome Key
intersect_end_key_outcome a b = end_key_of (intersect_outcome a b)

unfoldable pub union_outcome : List ℕ → List ℕ → Outcome (Option Joint)
union_outcome a b = and_then (ranges_given a b) (λ p. answer (joint p (union_sides p.first p.second)))

-- ---- the calls that write, into a buffer of `room` bytes
unfoldable pub from_prefix_outcome : List ℕ → ℕ → Outcome (List ℕ)
from_prefix_outcome prefix room = and_then (key_given prefix) (λ p. written_to room (write_range (from_prefix p)))

-- the prefix is read before its subrange; then a join of over 1,024 bytes is stop 3, before stop 4
unfoldable pub from_prefix_and_subrange_outcome : List ℕ → List ℕ → ℕ → Outcome (List ℕ)
from_prefix_and_subrange_outcome prefix subrange room =
    and_then (key_given prefix) (λ p. and_then (whole read_range subrange) (λ r. joined_to room p r))
