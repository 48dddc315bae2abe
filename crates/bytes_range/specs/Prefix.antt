-- Ranges from prefixes, and ranges that are one point, as bytes_range.rs has them.
use Rattle.std.specs.Prelude.{ℕ, zero, suc, ◌+◌, [], ◌∷◌, ◌++◌, length, get_or, take, eqb}
use Rattle.std.proofs.Math.Option.{Option, none, some}
use Rattle.base.specs.Pick.{pick}
use Rattle.key.specs.Order.{Key, cmp_key, is_equal}
use Rattle.comparable_range.specs.Range.{Bound, unbounded, included, excluded, Range}

-- ---- the next prefix
-- how many of p's first n bytes are left once trailing FF bytes are dropped
unfoldable pub kept_of : Key → ℕ → ℕ
kept_of p zero = zero
kept_of p (suc n) = pick (eqb (get_or p n 0) 255) (kept_of p n) (suc n)

-- the first n bytes with one added to the last, if any is left
unfoldable pub raised : Key → ℕ → Option Key
raised p zero = none
raised p (suc n) = some (take n p ++ ((get_or p n 0 + 1) ∷ []))

-- The next prefix drops trailing FF bytes, then adds one to the last byte left.
unfoldable pub next_prefix : Key → Option Key
next_prefix p = raised p (kept_of p (length p))

-- if none is left, the end is unbounded
abbrev pub up_to : Option Key → Bound
up_to none = unbounded
up_to (some k) = excluded k

-- ---- from_prefix
-- an empty prefix gives the unbounded range
unfoldable pub from_prefix : Key → Range
from_prefix [] = record { start = unbounded; end = unbounded }
from_prefix (b ∷ p) = record { start = included (b ∷ p); end = up_to (next_prefix (b ∷ p)) }

-- ---- from_prefix_and_subrange
-- a bound's key follows the prefix; an unbounded start is the bare prefix, unless that is empty
unfoldable pub join_start : Key → Bound → Bound
join_start [] unbounded = unbounded
join_start (b ∷ p) unbounded = included (b ∷ p)
join_start p (included s) = included (p ++ s)
join_start p (excluded s) = excluded (p ++ s)

-- an unbounded end is the end of the prefix's keys
unfoldable pub join_end : Key → Bound → Bound
join_end p unbounded = up_to (next_prefix p)
join_end p (included e) = included (p ++ e)
join_end p (excluded e) = excluded (p ++ e)

unfoldable pub from_prefix_and_subrange : Key → Range → Range
from_prefix_and_subrange p r = record { start = join_start p r.start; end = join_end p r.end }

-- ---- as_point
-- a key that is both the included start and the included end
unfoldable pub point_of : Bound → Bound → Option Key
point_of unbounded e = none
point_of (included a) unbounded = none
point_of (included a) (included b) = pick (is_equal (cmp_key a b)) (some a) none
point_of (included a) (excluded b) = none
point_of (excluded a) e = none

abbrev pub as_point : Range → Option Key
as_point r = point_of r.start r.end
