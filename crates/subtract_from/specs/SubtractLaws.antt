-- What holds of the ranges that `subtract_from` answers. Keys are of any length.
use Rattle.std.specs.Prelude.{ℕ, ◌≤◌, ◌≡◌, true, false, not, ◌&&◌, length}
use mathlib.Core.List.{List, [], ◌∷◌, flat_map}
use Rattle.base.specs.Bytes.{Bytes}
use Rattle.base.specs.Lists.{All, Pairwise}
use Rattle.base.specs.Outcome.{answer}
use Rattle.key.specs.Order.{Key}
use Rattle.comparable_range.specs.Range.{Bound, unbounded, included, excluded, Range, non_empty, holds}
use Rattle.comparable_range.specs.Cut.{◌≼◌, start_cut, end_cut}
use Rattle.format.specs.Range.{read_range, write_range}
use Rattle.format.specs.Whole.{whole}
use Rattle.records.specs.Values.{Plan}
use Rattle.records.specs.Layouts.{plan}
use Rattle.manifest.specs.Checks.{is_excluded}
use Rattle.incremental_progress.specs.Intervals.{subtract_from, bit, times}
use Rattle.incremental_progress.specs.Parts.{from_planned_range}
use Rattle.incremental_progress.specs.Checks.{half_open}
use Rattle.subtract_from.specs.SubtractCalls.{subtracted, subtract_from_outcome}

-- an interval that passes the checks 4 and 10
pub record IsInterval (d : Range) : Type 0 where
  pub passes : non_empty d ≡ true
  pub half_open_lem : half_open d ≡ true

-- the range r less the interval d
abbrev pub less : Range → Range → List Range
less d r = subtract_from (from_planned_range d) r

-- ---- which keys the parts hold
-- a key that the range holds and the interval does not is held by one of them, and any other by none
abbrev pub KeysOutsideAreHeldOnce : Type 0
KeysOutsideAreHeldOnce = (d r : Range) → IsInterval d → (x : Key) → times x (less d r) ≡ bit (holds r x && not (holds d x))

-- ---- how many there are, and how they lie
abbrev pub AtMostTwoParts : Type 0
AtMostTwoParts = (d r : Range) → length (less d r) ≤ 2

-- the first ends at or before the start of the second
abbrev pub PartsAscend : Type 0
PartsAscend = (d r : Range) → IsInterval d → Pairwise (λ p q. end_cut p.end ≼ start_cut q.start) (less d r)

abbrev pub PartsPass : Type 0
PartsPass = (d r : Range) → All (λ p. non_empty p ≡ true) (less d r)

-- where the range starts included or unbounded, each of them does: a visible range of a view stays one
abbrev pub NoPartStartsExcluded : Type 0
NoPartStartsExcluded = (d r : Range) → is_excluded r.start ≡ false → All (λ p. is_excluded p.start ≡ false) (less d r)

-- ---- one interval after another
-- each part may be given to the call with another interval
abbrev pub PartsAreTakenAgain : Type 0
PartsAreTakenAgain = (d e r : Range) → IsInterval e → All (λ p. subtracted e p ≡ answer (less e p)) (less d r)

-- A lesser one with the same start, subtracted first, changes nothing, bound for bound.
abbrev pub LesserIsAbsorbed : Type 0
LesserIsAbsorbed =
    (d e r : Range)
    → IsInterval d
    → IsInterval e
    → d.start ≡ e.start
    → end_cut d.end ≼ end_cut e.end
    → flat_map (less e) (less d r) ≡ less e r

-- Of two, the first ending at or before the start of the second, either may go first.
abbrev pub OneAfterTheOtherCommute : Type 0
OneAfterTheOtherCommute =
    (d e r : Range)
    → IsInterval d
    → IsInterval e
    → end_cut d.end ≼ start_cut e.start
    → flat_map (less e) (less d r) ≡ flat_map (less d) (less e r)

-- ---- the interval that holds no key
-- Of those that pass the checks it is one only: from unbounded to the empty key, excluded.
abbrev pub keyless_interval : Range
keyless_interval = record { start = unbounded; end = excluded [] }

pub record HoldsNoKey (d : Range) : Type 0 where
  pub none : (x : Key) → holds d x ≡ false

abbrev pub OneIntervalHoldsNoKey : Type 0
OneIntervalHoldsNoKey = (d : Range) → IsInterval d → HoldsNoKey d → d ≡ keyless_interval

abbrev pub KeylessIntervalHoldsNoKey : Type 0
KeylessIntervalHoldsNoKey = IsInterval keyless_interval × HoldsNoKey keyless_interval

-- Less it, a range has all its keys, but not always its bounds: an unbounded start becomes the empty key.
abbrev pub since_empty_key : Bound → Bound
since_empty_key unbounded = included []
since_empty_key (included k) = included k
since_empty_key (excluded k) = excluded k

abbrev pub from_empty_key : Range → Range
from_empty_key r = record { start = since_empty_key r.start; end = r.end }

abbrev pub KeylessIntervalWritesTheEmptyKey : Type 0
KeylessIntervalWritesTheEmptyKey = (r : Range) → non_empty (from_empty_key r) ≡ true → less keyless_interval r ≡ from_empty_key r ∷ []

-- ---- of what the call answers, on any bytes
-- The bytes are the layout of the parts, as a plan, and are read back as those; each part is a range that the call takes
-- again.
pub record PartsAnswered (l q b : List ℕ) : Type 0 where
  pub interval : Range
  pub range : Range
  pub interval_is : whole read_range l ≡ answer interval
  pub range_is : whole read_range q ≡ answer range
  pub is_interval : IsInterval interval
  pub passes : non_empty range ≡ true
  pub parts : Plan
  pub are : parts ≡ less interval range
  pub is : b ≡ plan.write parts
  pub reads_back : whole plan.read b ≡ answer parts
  pub short : length b ≤ 4107
  pub most : length parts ≤ 2
  pub in_order : Pairwise (λ p q. end_cut p.end ≼ start_cut q.start) parts
  pub pass : All (λ p. non_empty p ≡ true) parts
  pub taken_again : All (λ p. whole read_range (write_range p) ≡ answer p) parts
  pub held_once : (x : Key) → times x parts ≡ bit (holds range x && not (holds interval x))

abbrev pub EachPartsAnswered : Type 0
EachPartsAnswered =
    (l q : List ℕ) (room : ℕ) (b : List ℕ) → Bytes l → Bytes q → subtract_from_outcome l q room ≡ answer b → PartsAnswered l q b
