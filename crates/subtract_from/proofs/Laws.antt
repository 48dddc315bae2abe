-- The laws of what is left of a range, over values.
-- Assumes nothing.
use Prim.Native.Nat.{◌≤◌}
use native.Mathlib.Omega.{arith}
use mathlib.Core.Path.{◌≡◌, refl, sym, ap}
use mathlib.Core.Bool.{Bool, true, false, not, true≢false}
use mathlib.Core.Option.{Option, none, some}
use mathlib.Core.List.{◌++◌}
use lib.ListN.{length}
use Rattle.base.specs.Pick.{pick, and_first, and_second}
use Rattle.base.specs.Lists.{All, All-map, All-append, Pairwise, Pairwise-append}
use Rattle.key.specs.Order.{Key}
use Rattle.comparable_range.specs.Range.{Bound, unbounded, included, excluded, Range, non_empty, of, start_side, end_side, chosen, overlap, intersect_sides, intersect}
use Rattle.comparable_range.specs.declared.Side.{Side}
use Rattle.comparable_range.specs.declared.Side.TheVariants.{First, Second}
use Rattle.std.specs.Prelude.{None, Some}
use Rattle.comparable_range.specs.Cut.{before, ◌≼◌, start_cut, end_cut}
use Rattle.comparable_range.proofs.Cut.{≼_trans, ≺-≼}
use Rattle.comparable_range.proofs.Lattice.{sooner-≼-right, ≼-later-right}
use Rattle.comparable_range.proofs.ByCuts.{passes-≺, start_side_cut, end_side_cut}
use Rattle.manifest.specs.Checks.{is_excluded}
use Rattle.incremental_progress.specs.Checks.{is_included}
use Rattle.incremental_progress.specs.Intervals.{listed, part_before, part_from, subtract_from, start_bound, end_bound}
use Rattle.incremental_progress.specs.Parts.{key_of}
use Rattle.incremental_progress.proofs.Subtraction.{Valid, times_subtract, subtract_absorbs, subtract_commutes}
use Rattle.incremental_progress.specs.Parts.{from_planned_range}
use Rattle.subtract_from.specs.SubtractCalls.{subtracted}
use Rattle.subtract_from.specs.SubtractLaws.{IsInterval, less, KeysOutsideAreHeldOnce, AtMostTwoParts, PartsAscend, PartsPass, NoPartStartsExcluded, PartsAreTakenAgain, LesserIsAbsorbed, OneAfterTheOtherCommute}

-- ---- an interval and the range that gives it
start_back : (b : Bound) → not (is_excluded b) ≡ true → start_bound (key_of b) ≡ b
start_back unbounded h = refl
start_back (included k) h = refl
start_back (excluded k) h = absurd (true≢false (sym h))

end_back : (b : Bound) → not (is_included b) ≡ true → end_bound (key_of b) ≡ b
end_back unbounded h = refl
end_back (included k) h = absurd (true≢false (sym h))
end_back (excluded k) h = refl

module _ (d : Range) (i : IsInterval d) where
  starts : start_bound (key_of d.start) ≡ d.start
  starts = start_back d.start (and_first (not (is_excluded d.start)) _ i.half_open_lem)

  ends : end_bound (key_of d.end) ≡ d.end
  ends = end_back d.end (and_second (not (is_excluded d.start)) _ i.half_open_lem)

  valid : Valid (from_planned_range d)
  valid = rw (starts, ends) i.passes

-- ---- which keys the parts hold
pub keys_outside_are_held_once : KeysOutsideAreHeldOnce
keys_outside_are_held_once d r i x = rw (times_subtract x (from_planned_range d) r (valid d i), starts d i, ends d i)

-- ---- of each part: it is what the range has in common with all before the interval, or with all after it
intersect_all : (P : Range → Type 0) (r q : Range) → (non_empty (overlap r q) ≡ true → P (overlap r q)) → All P (listed (intersect r q))
unfolding intersect_sides
intersect_all P r q f = go (non_empty (overlap r q)) f
  where
    go : (t : Bool) → (t ≡ true → P (overlap r q)) → All P (listed (chosen r q (pick t (Some (start_side r.start q.start, end_side r.end q.end)) None)))
    go true f = (f refl, tt)
    go false f = tt

-- the ranges before a key and from it on
abbrev all_before : Key → Range
all_before k = record { start = unbounded; end = excluded k }

abbrev all_from : Key → Range
all_from k = record { start = included k; end = unbounded }

module _ (P : Range → Type 0) (r : Range) where
  pub before_all : (o : Option Key) → ((k : Key) → o ≡ some k → non_empty (overlap r (all_before k)) ≡ true → P (overlap r (all_before k))) → All P (listed (part_before o r))
  unfolding part_before
  before_all none f = tt
  before_all (some k) f = intersect_all P r (all_before k) (f k refl)

  pub from_all : (o : Option Key) → ((k : Key) → o ≡ some k → non_empty (overlap r (all_from k)) ≡ true → P (overlap r (all_from k))) → All P (listed (part_from o r))
  unfolding part_from
  from_all none f = tt
  from_all (some k) f = intersect_all P r (all_from k) (f k refl)

  pub parts_all :
      (d : Range)
      → ((k : Key) → key_of d.start ≡ some k → non_empty (overlap r (all_before k)) ≡ true → P (overlap r (all_before k)))
      → ((k : Key) → key_of d.end ≡ some k → non_empty (overlap r (all_from k)) ≡ true → P (overlap r (all_from k)))
      → All P (less d r)
  unfolding subtract_from
  parts_all d f g = All-append P (listed (part_before (key_of d.start) r)) _ (before_all (key_of d.start) f) (from_all (key_of d.end) g)

pub parts_pass : PartsPass
parts_pass d r = parts_all (λ p. non_empty p ≡ true) r d (λ k e h. h) (λ k e h. h)

of_not : (s : Side) (a b : Bound) → is_excluded a ≡ false → is_excluded b ≡ false → is_excluded (of s a b) ≡ false
of_not First a b h k = h
of_not Second a b h k = k

pub no_part_starts_excluded : NoPartStartsExcluded
no_part_starts_excluded d r h =
    parts_all (λ p. is_excluded p.start ≡ false) r d (λ k e p. of_not (start_side r.start unbounded) r.start unbounded h refl)
    (λ k e p. of_not (start_side r.start (included k)) r.start (included k) h refl)

pub parts_are_taken_again : PartsAreTakenAgain
unfolding subtracted
parts_are_taken_again d e r i = All-map (λ p h. rw (i.passes, h, i.half_open_lem)) (less d r) (parts_pass d r)

-- ---- how many there are, and how they lie
two : (o p : Option Range) → length (listed o ++ listed p) ≤ 2
two none none = omega arith
two none (some p) = omega arith
two (some o) none = omega arith
two (some o) (some p) = omega arith

pub at_most_two_parts : AtMostTwoParts
unfolding subtract_from
at_most_two_parts d r = two (part_before (key_of d.start) r) (part_from (key_of d.end) r)

-- a part before the interval ends at or before its start, and one after it starts at or after its end
ends_by : (r : Range) (o : Option Key) → All (λ p. end_cut p.end ≼ start_cut (start_bound o)) (listed (part_before o r))
ends_by r o =
    before_all (λ p. end_cut p.end ≼ start_cut (start_bound o)) r o
    (λ k e h. rw (e, end_side_cut r.end (excluded k)) (sooner-≼-right (end_cut r.end) (before k)))

starts_from : (r : Range) (o : Option Key) → All (λ p. end_cut (end_bound o) ≼ start_cut p.start) (listed (part_from o r))
starts_from r o =
    from_all (λ p. end_cut (end_bound o) ≼ start_cut p.start) r o
    (λ k e h. rw (e, start_side_cut r.start (included k)) (≼-later-right (start_cut r.start) (before k)))

alone : (R : Range → Range → Type 0) (o : Option Range) → Pairwise R (listed o)
alone R none = tt
alone R (some p) = (tt, tt)

pub parts_ascend : PartsAscend
unfolding subtract_from
parts_ascend d r i =
    let s = key_of d.start in
    let e = key_of d.end in
    let R : Range → Range → Type 0 = λ p q. end_cut p.end ≼ start_cut q.start in
    let across : start_cut (start_bound s) ≼ end_cut (end_bound e) = ≺-≼ (passes-≺ (start_bound s) (end_bound e) (valid d i)) in
    Pairwise-append R (listed (part_before s r)) (listed (part_from e r)) (alone R (part_before s r)) (alone R (part_from e r))
    (All-map (λ p h. All-map (λ q k. ≼_trans h (≼_trans across k)) (listed (part_from e r)) (starts_from r e)) (listed (part_before s r)) (ends_by r s))

-- ---- one interval after another
pub lesser_is_absorbed : LesserIsAbsorbed
lesser_is_absorbed d e r i j s h =
    subtract_absorbs (from_planned_range d) (from_planned_range e) r (valid d i) (ap key_of s) (rw (ends d i, ends e j) h)

pub one_after_the_other_commute : OneAfterTheOtherCommute
one_after_the_other_commute d e r i j h =
    subtract_commutes (from_planned_range d) (from_planned_range e) r (valid d i) (valid e j) (rw (ends d i, starts e j) h)
