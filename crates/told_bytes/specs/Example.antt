-- Each layout with places, once in bytes: the point of [ab,ab], the intersection of [ab,m] and (c,-, and of the first view of
-- document 01's image the range that a lookup answers and the effective range. A place and a length are 8 bytes each, most
-- significant first.
use Rattle.std.specs.Prelude.{ℕ, ◌≡◌, List, [], ◌∷◌}
use Rattle.base.specs.Outcome.{answer}
use Rattle.comparable_range.specs.declared.Kind.TheVariants.{Included, Excluded}
use Rattle.comparable_range.specs.declared.Side.TheVariants.{First, Second}
use Rattle.bilqarush.specs.Calls.{as_point_outcome, intersect_outcome}
use Rattle.format.specs.Span.{JointFound}
use Rattle.bilqarush.specs.Answers.{point_at}
use Rattle.db_state.specs.LookupCalls.{compacted_intersection_outcome}
use Rattle.bilqarush.specs.Example.{example_image, example_range}
use Rattle.format.specs.declared.span.Joined.{Joined}
use Rattle.format.specs.declared.span.Joined.TheVariants.{Range}
use Rattle.told.specs.Told.{from_to, Told}
use Rattle.told_bytes.specs.Layouts.{point_to, joined_to, view_range_to}

-- ---- a point: 1, the place, the length
abbrev pub ab_to_ab : List ℕ
ab_to_ab = 80 ∷ 0 ∷ 2 ∷ 97 ∷ 98 ∷ 0 ∷ 2 ∷ 97 ∷ 98 ∷ []

abbrev pub sixteen_nines : List ℕ
sixteen_nines = 9 ∷ 9 ∷ 9 ∷ 9 ∷ 9 ∷ 9 ∷ 9 ∷ 9 ∷ 9 ∷ 9 ∷ 9 ∷ 9 ∷ 9 ∷ 9 ∷ 9 ∷ 9 ∷ []

-- 17 bytes of 18: the last stays
abbrev pub PointIsTold : Type 0
PointIsTold =
    Told (point_to 18 (point_at (as_point_outcome ab_to_ab)))
    (from_to (9 ∷ 9 ∷ sixteen_nines) (1 ∷ 0 ∷ 0 ∷ 0 ∷ 0 ∷ 0 ∷ 0 ∷ 0 ∷ 3 ∷ 0 ∷ 0 ∷ 0 ∷ 0 ∷ 0 ∷ 0 ∷ 0 ∷ 2 ∷ 9 ∷ []))
    (from_to 7 17)
    0

-- in 16 bytes there is no room: stop 16, and buffer and slot are left
abbrev pub NoRoomIsTold : Type 0
NoRoomIsTold = Told (point_to 16 (point_at (as_point_outcome ab_to_ab))) (from_to sixteen_nines sixteen_nines) (from_to 7 7) 16

-- ---- a range: 1; then of each bound the kind, the slice, the place and the length
abbrev pub ab_to_m : List ℕ
ab_to_m = 80 ∷ 0 ∷ 2 ∷ 97 ∷ 98 ∷ 0 ∷ 1 ∷ 109 ∷ []

abbrev pub after_c : List ℕ
after_c = 128 ∷ 0 ∷ 1 ∷ 99 ∷ []

abbrev pub c_to_m : Joined
c_to_m =
    Range
    (record { side = Second; bound = record { kind = Excluded; at = 3; len = 1 } })
    (record { side = First; bound = record { kind = Included; at = 7; len = 1 } })

abbrev pub JointIsFound : Type 0
JointIsFound = JointFound ab_to_m after_c (intersect_outcome ab_to_m after_c) c_to_m

abbrev pub JointIsTold : Type 0
JointIsTold =
    joined_to 37 c_to_m
    ≡ answer (1 ∷ 2 ∷ 2 ∷ 0 ∷ 0 ∷ 0 ∷ 0 ∷ 0 ∷ 0 ∷ 0 ∷ 3 ∷ 0 ∷ 0 ∷ 0 ∷ 0 ∷ 0 ∷ 0 ∷ 0 ∷ 1
    ∷ 1 ∷ 1 ∷ 0 ∷ 0 ∷ 0 ∷ 0 ∷ 0 ∷ 0 ∷ 0 ∷ 7 ∷ 0 ∷ 0 ∷ 0 ∷ 0 ∷ 0 ∷ 0 ∷ 0 ∷ 1 ∷ [])

-- the first view from b up to the second view, [b,d): the asked range supplies the start, the image the end
abbrev pub from_b : List ℕ
from_b = 64 ∷ 0 ∷ 1 ∷ 98 ∷ []

abbrev pub b_to_d : Joined
b_to_d =
    Range
    (record { side = Second; bound = record { kind = Included; at = 3; len = 1 } })
    (record { side = First; bound = record { kind = Excluded; at = 130; len = 1 } })

abbrev pub LookupRangeIsFound : Type 0
LookupRangeIsFound = JointFound example_image from_b (compacted_intersection_outcome example_image 0 0 from_b) b_to_d

abbrev pub LookupRangeIsTold : Type 0
LookupRangeIsTold =
    joined_to 37 b_to_d
    ≡ answer (1 ∷ 1 ∷ 2 ∷ 0 ∷ 0 ∷ 0 ∷ 0 ∷ 0 ∷ 0 ∷ 0 ∷ 3 ∷ 0 ∷ 0 ∷ 0 ∷ 0 ∷ 0 ∷ 0 ∷ 0 ∷ 1
    ∷ 2 ∷ 1 ∷ 0 ∷ 0 ∷ 0 ∷ 0 ∷ 0 ∷ 0 ∷ 0 ∷ 130 ∷ 0 ∷ 0 ∷ 0 ∷ 0 ∷ 0 ∷ 0 ∷ 0 ∷ 1 ∷ [])

-- ---- a view's range: of each bound the kind, the place and the length
abbrev pub ViewRangeIsTold : Type 0
ViewRangeIsTold =
    view_range_to 34 example_range
    ≡ answer (1 ∷ 0 ∷ 0 ∷ 0 ∷ 0 ∷ 0 ∷ 0 ∷ 0 ∷ 66 ∷ 0 ∷ 0 ∷ 0 ∷ 0 ∷ 0 ∷ 0 ∷ 0 ∷ 1
    ∷ 1 ∷ 0 ∷ 0 ∷ 0 ∷ 0 ∷ 0 ∷ 0 ∷ 0 ∷ 69 ∷ 0 ∷ 0 ∷ 0 ∷ 0 ∷ 0 ∷ 0 ∷ 0 ∷ 1 ∷ [])
