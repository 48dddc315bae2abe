-- The promises on bounds and ranges, for keys of any length. Their proofs are in proofs/.
use Rattle.std.specs.Prelude.{◌≡◌, Bool, true, false, not, ◌&&◌, ◌||◌, [], ◌∷◌, ◌++◌, neg_ℤ}
use Rattle.std.proofs.Math.Option.{Option, none, some}
use Rattle.base.specs.Pick.{pick}
use Rattle.base.specs.Bytes.{Bytes}
use Rattle.key.specs.Order.{Key, cmp_key, is_less, is_equal, sign}
use Rattle.comparable_range.specs.Range.{Bound, unbounded, included, excluded, Range, cmp_bound, non_empty, start_holds, end_holds, holds, overlap, intersect, cmp_range, union}
use Rattle.comparable_range.specs.Cut.{before, after, cmp_cut, cut_at_most, cut_below, start_cut, end_cut, bound_cut}

-- ---- bounds and ranges by cuts
-- exchanging the bounds negates the answer
abbrev pub CmpBoundNegates : Type 0
CmpBoundNegates = (start : Bool) (a b : Bound) → sign (cmp_bound start b a) ≡ neg_ℤ (sign (cmp_bound start a b))

-- the order of bounds is the order of their cuts
abbrev pub CmpBoundByCuts : Type 0
CmpBoundByCuts = (start : Bool) (a b : Bound) → cmp_bound start a b ≡ cmp_cut (bound_cut start a) (bound_cut start b)

-- a range passes the test exactly if its start's cut stands before its end's
abbrev pub NonEmptyByCuts : Type 0
NonEmptyByCuts = (r : Range) → non_empty r ≡ cut_below (start_cut r.start) (end_cut r.end)

-- a range holds a key exactly if it starts at or before the cut before the key and ends at or after the cut after it
abbrev pub HoldsByCuts : Type 0
HoldsByCuts =
    (r : Range) (x : Key)
    → holds r x ≡ (cut_at_most (start_cut r.start) (before x) && cut_at_most (after x) (end_cut r.end))

-- ---- which ranges hold a key
-- With k00 for k and a byte 0 after it: from after k to before k00, and from unbounded to before the empty key.
unfoldable pub keyless_bounds : Bound → Bound → Bool
keyless_bounds unbounded unbounded = false
keyless_bounds unbounded (included j) = false
keyless_bounds unbounded (excluded j) = is_equal (cmp_key [] j)
keyless_bounds (included k) e = false
keyless_bounds (excluded k) unbounded = false
keyless_bounds (excluded k) (included j) = false
keyless_bounds (excluded k) (excluded j) = is_equal (cmp_key (k ++ 0 ∷ []) j)

abbrev pub keyless : Range → Bool
keyless r = keyless_bounds r.start r.end

-- both pass the test, and hold no key
abbrev pub KeylessPassAndHoldNone : Type 0
KeylessPassAndHoldNone = (r : Range) → keyless r ≡ true → (non_empty r ≡ true) × ((x : Key) → holds r x ≡ false)

-- bounds and ranges whose keys are bytes
abbrev pub ByteBound : Bound → Type 0
ByteBound unbounded = Unit
ByteBound (included k) = Bytes k
ByteBound (excluded k) = Bytes k

pub record ByteRange (r : Range) : Type 0 where
  pub start : ByteBound r.start
  pub end : ByteBound r.end

pub record HoldsAKey (r : Range) : Type 0 where
  pub key : Key
  pub bytes : Bytes key
  pub held : holds r key ≡ true

-- every other range of byte keys that passes the test holds a byte key
abbrev pub OthersHoldAKey : Type 0
OthersHoldAKey = (r : Range) → ByteRange r → non_empty r ≡ true → keyless r ≡ false → HoldsAKey r

-- a range that fails the test holds no key
abbrev pub FailingHoldsNone : Type 0
FailingHoldsNone = (r : Range) → non_empty r ≡ false → (x : Key) → holds r x ≡ false

-- a range that includes its start's key and passes the test holds that key
abbrev pub IncludedStartIsHeld : Type 0
IncludedStartIsHeld = (r : Range) (k : Key) → r.start ≡ included k → non_empty r ≡ true → holds r k ≡ true

-- ---- intersect
abbrev pub held_by : Option Range → Key → Bool
held_by none x = false
held_by (some r) x = holds r x

abbrev pub is_none : Option Range → Bool
is_none none = true
is_none (some r) = false

-- the intersection holds a key exactly if both ranges do
abbrev pub IntersectHoldsWhatBothHold : Type 0
IntersectHoldsWhatBothHold = (r q : Range) (x : Key) → held_by (intersect r q) x ≡ (holds r x && holds q x)

-- there is no intersection exactly if the greater start and the lesser end fail the test
abbrev pub IntersectIsNoneWhereBoundsFail : Type 0
IntersectIsNoneWhereBoundsFail = (r q : Range) → is_none (intersect r q) ≡ not (non_empty (overlap r q))

-- the order of the two ranges does not matter
abbrev pub IntersectCommutes : Type 0
IntersectCommutes = (r q : Range) → intersect r q ≡ intersect q r

-- ---- union
-- a union holds a key exactly if one of the two ranges does, also where one of them fails the test
abbrev pub UnionHoldsWhatEitherHolds : Type 0
UnionHoldsWhatEitherHolds = (r q u : Range) → union r q ≡ some u → (x : Key) → holds u x ≡ (holds r x || holds q x)

-- the order of the two ranges does not matter
abbrev pub UnionCommutes : Type 0
UnionCommutes = (r q : Range) → union r q ≡ union q r

-- the two ranges in their order, as `union` takes them
abbrev pub lesser_of : Range → Range → Range
lesser_of r q = pick (is_less (cmp_range r q)) r q

abbrev pub greater_of : Range → Range → Range
greater_of r q = pick (is_less (cmp_range r q)) q r

-- ranges that pass the test have no union exactly if the lesser's end stands before the greater's start
abbrev pub UnionIsNoneWhereApart : Type 0
UnionIsNoneWhereApart =
    (r q : Range)
    → non_empty r ≡ true
    → non_empty q ≡ true
    → is_none (union r q) ≡ cut_below (end_cut (lesser_of r q).end) (start_cut (greater_of r q).start)

-- the end includes k and the start includes k00
unfoldable pub touching : Bound → Bound → Bool
touching unbounded s = false
touching (included k) unbounded = false
touching (included k) (included j) = is_equal (cmp_key (k ++ 0 ∷ []) j)
touching (included k) (excluded j) = false
touching (excluded k) s = false

-- no key lies between such an end and such a start ..
abbrev pub TouchingLeavesNoKeyBetween : Type 0
TouchingLeavesNoKeyBetween = (e s : Bound) → touching e s ≡ true → (x : Key) → (end_holds e x || start_holds s x) ≡ true

-- .. and yet such ranges have no union.
abbrev pub UnionIsNoneThoughTouching : Type 0
UnionIsNoneThoughTouching =
    (r q : Range)
    → non_empty r ≡ true
    → non_empty q ≡ true
    → touching (lesser_of r q).end (greater_of r q).start ≡ true
    → union r q ≡ none

-- a byte key after the end and before the start
pub record KeyBetween (e s : Bound) : Type 0 where
  pub key : Key
  pub bytes : Bytes key
  pub after_end : end_holds e key ≡ false
  pub before_start : start_holds s key ≡ false

-- Between any other two that have no union there is a key. So a union is missing only where they touch.
abbrev pub ApartOthersLeaveAKey : Type 0
ApartOthersLeaveAKey =
    (r q : Range)
    → ByteRange r
    → ByteRange q
    → non_empty r ≡ true
    → non_empty q ≡ true
    → union r q ≡ none
    → touching (lesser_of r q).end (greater_of r q).start ≡ false
    → KeyBetween (lesser_of r q).end (greater_of r q).start
