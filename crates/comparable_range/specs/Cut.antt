-- Cuts: the places between keys. They give starts and ends one order.
use Rattle.std.specs.Prelude.{ℕ, ◌≡◌, Bool, true, false, []}
use Rattle.base.specs.Pick.{pick}
use Rattle.key.specs.Order.{Key, cmp_key, cmp_number, or_else, at_most, is_less}
use Rattle.std.specs.declared.cmp.Ordering.{Ordering}
use Rattle.comparable_range.specs.Range.{Bound, unbounded, included, excluded}

pub data Cut : Type 0 where
  below : Cut  -- below all keys
  before : Key → Cut  -- just before the key
  after : Key → Cut  -- just after the key
  above : Cut  -- above all keys

-- Cuts at keys stand between the two others ..
abbrev pub level : Cut → ℕ
level below = 0
level (before k) = 1
level (after k) = 1
level above = 2

-- .. and are ordered by the key, ..
abbrev pub spot : Cut → Key
spot below = []
spot (before k) = k
spot (after k) = k
spot above = []

-- .. and at one key before comes first.
abbrev pub side : Cut → ℕ
side below = 0
side (before k) = 0
side (after k) = 1
side above = 0

unfoldable pub cmp_cut : Cut → Cut → Ordering
cmp_cut c d = or_else (cmp_number (level c) (level d)) (or_else (cmp_key (spot c) (spot d)) (cmp_number (side c) (side d)))

-- c stands at or before d
unfoldable pub cut_at_most : Cut → Cut → Bool
cut_at_most c d = at_most (cmp_cut c d)

-- c stands before d
unfoldable pub cut_below : Cut → Cut → Bool
cut_below c d = is_less (cmp_cut c d)

-- the same as statements; c is before d if d is not at or before c
infix 50 ◌≼◌ ◌≺◌
pub record ◌≼◌ (c d : Cut) : Type 0 where
  pub holds : cut_at_most c d ≡ true

pub record ◌≺◌ (c d : Cut) : Type 0 where
  pub fails : cut_at_most d c ≡ false

-- the later and the sooner of two cuts
unfoldable pub later : Cut → Cut → Cut
later c d = pick (cut_at_most c d) d c

unfoldable pub sooner : Cut → Cut → Cut
sooner c d = pick (cut_at_most c d) c d

-- ---- bounds as cuts
abbrev pub start_cut : Bound → Cut
start_cut unbounded = below
start_cut (included k) = before k
start_cut (excluded k) = after k

abbrev pub end_cut : Bound → Cut
end_cut unbounded = above
end_cut (included k) = after k
end_cut (excluded k) = before k

-- as a start (true) or as an end (false)
abbrev pub bound_cut : Bool → Bound → Cut
bound_cut true b = start_cut b
bound_cut false b = end_cut b
