-- The promises on lookups in a view and in a run. Keys are of any length, and views are any where no check is named.
-- Their proofs are in proofs/.
use Rattle.std.specs.Prelude.{ℕ, suc, ◌<◌, ◌≤◌, ◌≡◌, ◌⊎◌, Bool, true, false, ◌&&◌, ◌||◌, List, [], ◌∷◌, length}
use Rattle.std.proofs.Math.Option.{Option, none, some}
use Rattle.key.specs.Order.{Key, at_most, key_at_most, key_below}
use Rattle.comparable_range.specs.Range.{Bound, unbounded, included, Range, cmp_bound, non_empty, end_holds, holds, intersect}
use Rattle.comparable_range.specs.Cut.{cut_below, later, sooner, start_cut, end_cut}
use Rattle.format.specs.Joint.{Joint, range}
use Rattle.records.specs.Values.{View}
use Rattle.manifest.specs.Ranges.{effective}
use Rattle.manifest.specs.Checks.{all, table_passes, ascend, starts}
use Rattle.manifest.specs.Laws.{seen_through}
use Rattle.partitioned_keyspace.specs.Partitions.{Places}
use Rattle.db_state.specs.Places.{at}
use Rattle.db_state.specs.Lookup.{between, start_key, intersects_range, calculate_view_range, to_next, compacted_intersection, last_view, span, overlaps_range, nowhere, table_idx_covering_range}

-- ---- calculate_view_range
abbrev pub held_in : Option Joint → Key → Bool
held_in none x = false
held_in (some j) x = holds (range j) x

-- whether the visible range holds a key; without one, whether the effective range of a table that has a last key does
abbrev pub shown_by : Option Range → Option Key → Range → Key → Bool
shown_by (some visible) last effective x = holds visible x
shown_by none (some last) effective x = holds effective x
shown_by none none effective x = true

-- the answer holds exactly the asked keys that the view shows
abbrev pub CalculateViewRangeHoldsWhatIsShown : Type 0
CalculateViewRangeHoldsWhatIsShown =
    (v : View) (asked : Range) (x : Key)
    → held_in (calculate_view_range v asked) x ≡ (holds asked x && shown_by v.visible v.table.last (effective v) x)

-- ---- compacted_intersection
-- without a next view: the asked keys that the effective range holds
abbrev pub LastIntersectionHoldsWhatBothHold : Type 0
LastIntersectionHoldsWhatBothHold =
    (v : View) (asked : Range) (x : Key) → held_in (compacted_intersection v none asked) x ≡ (holds (effective v) x && holds asked x)

-- with a next view: the asked keys up to its start that the visible range holds
abbrev pub IntersectionHoldsWhatIsSeenToTheNext : Type 0
IntersectionHoldsWhatIsSeenToTheNext =
    (v next : View) (asked : Range) (x : Key)
    → held_in (compacted_intersection v (some next) asked) x
    ≡ ((holds (to_next v next) x && holds asked x) && seen_through v.visible x)

-- only asked keys are held
abbrev pub CompactedIntersectionHoldsOnlyAskedKeys : Type 0
CompactedIntersectionHoldsOnlyAskedKeys =
    (v : View) (next : Option View) (asked : Range) (x : Key)
    → held_in (compacted_intersection v next asked) x ≡ true
    → holds asked x ≡ true

abbrev pub up_to_next : Option View → Key → Bool
up_to_next none x = true
up_to_next (some next) x = key_at_most x (start_key next)

-- every asked key that the view's effective range holds is held, up to the next view's start, that start included
abbrev pub CompactedIntersectionHoldsTheViewsKeys : Type 0
CompactedIntersectionHoldsTheViewsKeys =
    (v : View) (next : Option View) (asked : Range) (x : Key)
    → holds asked x ≡ true
    → holds (effective v) x ≡ true
    → up_to_next next x ≡ true
    → held_in (compacted_intersection v next asked) x ≡ true

-- a key that is not below the next view's start is held only if it is that start, and the view holds it
abbrev pub CompactedIntersectionEndsAtTheNextStart : Type 0
CompactedIntersectionEndsAtTheNextStart =
    (v next : View) (asked : Range) (x : Key)
    → held_in (compacted_intersection v (some next) asked) x ≡ true
    → key_below x (start_key next) ≡ false
    → (x ≡ start_key next) × (holds (effective v) x ≡ true)

-- ---- intersects_range
-- The later start comes before the sooner end: of the view's start and the end bound, and of the asked range.
abbrev pub IntersectsRangeByCuts : Type 0
IntersectsRangeByCuts =
    (v : View) (end : Bound) (asked : Range)
    → table_passes v ≡ true
    → intersects_range v end asked
    ≡ cut_below (later (start_cut (effective v).start) (start_cut asked.start)) (sooner (end_cut end) (end_cut asked.end))

-- ---- overlaps_range
-- whether a view's effective range holds a key
abbrev pub some_holds : List View → Key → Bool
some_holds [] x = false
some_holds (v ∷ vs) x = holds (effective v) x || some_holds vs x

-- no view ends after the last one
abbrev pub last_ends_last : List View → Bool
last_ends_last [] = true
last_ends_last (v ∷ vs) = all (λ w. at_most (cmp_bound false (effective w).end (effective (last_view v vs)).end)) (v ∷ vs)

-- a run that is skipped holds no asked key, if its views ascend and none ends after the last
abbrev pub OverlapsRangeSkipsNoKey : Type 0
OverlapsRangeSkipsNoKey =
    (vs : List View) (asked : Range)
    → ascend (starts vs) ≡ true
    → last_ends_last vs ≡ true
    → overlaps_range vs asked ≡ false
    → (x : Key)
    → holds asked x ≡ true
    → some_holds vs x ≡ false

-- ---- nothing that the Rust asserts fails
-- `compacted_effective_start_key` finds an included start
abbrev pub StartKeyIsTheStart : Type 0
StartKeyIsTheStart = (v : View) → table_passes v ≡ true → (effective v).start ≡ included (start_key v)

-- the ranges that the Rust builds pass `non_empty`: of a run's span, ..
abbrev pub SpanPasses : Type 0
SpanPasses =
    (v : View) (vs : List View)
    → all table_passes (v ∷ vs) ≡ true
    → ascend (starts (v ∷ vs)) ≡ true
    → non_empty (span v vs) ≡ true

-- .. from a view's start to the next one's, ..
abbrev pub ToNextPasses : Type 0
ToNextPasses =
    (vs : List View) (idx : ℕ) (v next : View)
    → all table_passes vs ≡ true
    → ascend (starts vs) ≡ true
    → at vs idx ≡ some v
    → at vs (suc idx) ≡ some next
    → non_empty (to_next v next) ≡ true

-- .. up to an end bound, and, where that meets the effective range, from its start on.
abbrev pub ToAnEndPasses : Type 0
ToAnEndPasses = (end : Bound) → non_empty (between unbounded end) ≡ true

abbrev pub FromTheStartPasses : Type 0
FromTheStartPasses =
    (v : View) (end : Bound) (r : Range)
    → intersect (between unbounded end) (effective v) ≡ some r
    → non_empty (between r.start end) ≡ true

-- ---- table_idx_covering_range
-- some places of n
pub record SomeOf (n : ℕ) (p : Places) : Type 0 where
  pub some_place : p.start < p.end
  pub inside : p.end ≤ n

-- the answer is 0..0, or some places of the run
abbrev pub TableIdxLiesWithinTheRun : Type 0
TableIdxLiesWithinTheRun =
    (vs : List View) (asked : Range)
    → non_empty asked ≡ true
    → table_idx_covering_range vs asked ≡ nowhere ⊎ SomeOf (length vs) (table_idx_covering_range vs asked)

-- the first view starts at or before an end
abbrev pub starts_by : List View → Bound → Bool
starts_by [] end = false
starts_by (v ∷ vs) end = end_holds end (start_key v)

-- 0..0 if the run starts after the asked range's end, ..
abbrev pub TableIdxIsNowhereBeforeTheRun : Type 0
TableIdxIsNowhereBeforeTheRun =
    (vs : List View) (asked : Range) → starts_by vs asked.end ≡ false → table_idx_covering_range vs asked ≡ nowhere

-- .. and some place if not: of views that pass check 5, the last that starts by the end intersects the asked range.
abbrev pub TableIdxFindsATableElsewhere : Type 0
TableIdxFindsATableElsewhere =
    (vs : List View) (asked : Range)
    → all table_passes vs ≡ true
    → non_empty asked ≡ true
    → starts_by vs asked.end ≡ true
    → SomeOf (length vs) (table_idx_covering_range vs asked)
