-- Lookups in small runs, computed. Letters are keys of one byte.
use Rattle.std.specs.Prelude.{ℕ, ◌≡◌, true, false, List, [], ◌∷◌}
use Rattle.std.proofs.Math.Option.{Option, none, some}
use Rattle.key.specs.Order.{Key}
use Rattle.comparable_range.specs.Range.{Bound, unbounded, included, excluded, Range}
use Rattle.comparable_range.specs.declared.Side.{Side}
use Rattle.comparable_range.specs.declared.Side.TheVariants.{First, Second}
use Rattle.format.specs.Joint.{Joint}
use Rattle.records.specs.Values.{View}
use Rattle.partitioned_keyspace.specs.Partitions.{Places}
use Rattle.db_state.specs.Lookup.{between, start_key, intersects_range, calculate_view_range, compacted_intersection, overlaps_range, table_end_bound, nowhere, table_idx_covering_range}

abbrev a : Key
a = 97 ∷ []

abbrev b : Key
b = 98 ∷ []

abbrev c : Key
c = 99 ∷ []

abbrev d : Key
d = 100 ∷ []

abbrev f : Key
f = 102 ∷ []

abbrev g : Key
g = 103 ∷ []

abbrev h : Key
h = 104 ∷ []

abbrev m : Key
m = 109 ∷ []

abbrev z : Key
z = 122 ∷ []

-- a view of a table with those keys
abbrev view_of : Key → Option Key → Option Range → View
view_of first last visible =
    record {
      id = record { 0 = [] };
      table = record { id = record { 0 = [] }; index_offset = 0; index_len = 0; filter_offset = 0; first = first; last = last };
      visible = visible;
    }

abbrev whole : Key → Key → View
whole first last = view_of first (some last) none

abbrev point : Key → Range
point k = between (included k) (included k)

abbrev closed : Key → Key → Range
closed j k = between (included j) (included k)

abbrev everything : Range
everything = between unbounded unbounded

abbrev places : ℕ → ℕ → Places
places start end = record { start = start; end = end }

-- a range answer: each bound and its supplier, the image First, the asked range Second
abbrev joint : Side → Bound → Side → Bound → Option Joint
joint s start e end =
    some (record { start = record { side = s; bound = start }; end = record { side = e; bound = end } })

-- ---- [a,m], then [m,z]: both hold m
abbrev shared : List View
shared = whole a m ∷ whole m z ∷ []

pub record SharedBoundaryKey : Type 0 where
  pub end : table_end_bound shared 0 ≡ included m
  pub at : table_idx_covering_range shared (point m) ≡ places 0 2
  pub after : table_idx_covering_range shared (between (excluded m) (included z)) ≡ places 1 2
  pub before : table_idx_covering_range shared (between unbounded (excluded m)) ≡ places 0 1
  pub kept : compacted_intersection (whole a m) (some (whole m z)) everything ≡ joint First (included a) First (included m)

-- ---- [a,g), which an earlier commit cut, then [m,z]
abbrev cut : View
cut = view_of a (some h) (some (between unbounded (excluded g)))

abbrev gap : List View
gap = cut ∷ whole m z ∷ []

-- in the gap a table is named up to the next start, but no key of the gap is shown
pub record GapBeforeTheNext : Type 0 where
  pub end : table_end_bound gap 0 ≡ excluded m
  pub inside : table_idx_covering_range gap (point h) ≡ places 0 1
  pub intersects : intersects_range cut (excluded m) (point h) ≡ true
  pub at_the_next : table_idx_covering_range gap (point m) ≡ places 1 2
  pub overlaps : overlaps_range gap (point h) ≡ true
  pub not_shown : compacted_intersection cut (some (whole m z)) (point h) ≡ none
  pub nor_read : calculate_view_range cut (point h) ≡ none
  pub kept : compacted_intersection cut (some (whole m z)) everything ≡ joint First (included a) First (excluded g)

-- without a visible range the answer reaches past the last key, up to the next start
pub record PastTheLastKey : Type 0 where
  pub kept : compacted_intersection (whole a g) (some (whole m z)) everything ≡ joint First (included a) First (excluded m)
  pub in_the_gap : compacted_intersection (whole a g) (some (whole m z)) (point h) ≡ joint Second (included h) Second (included h)
  pub of_the_last : compacted_intersection (whole a g) none (point h) ≡ none

-- ---- [c,f], visible from a to z
abbrev wide : View
wide = view_of c (some f) (some (closed a z))

pub record VisibleWiderThanTheTable : Type 0 where
  pub starts : start_key wide ≡ c
  pub read : calculate_view_range wide (closed b d) ≡ joint Second (included b) Second (included d)
  pub kept : compacted_intersection wide none (closed b d) ≡ joint First (included c) Second (included d)

-- ---- from d on, without a last key
abbrev endless : View
endless = view_of d none none

pub record NoLastKey : Type 0 where
  pub read : calculate_view_range endless (closed a b) ≡ joint Second (included a) Second (included b)
  pub kept : compacted_intersection endless none (closed a b) ≡ none
  pub before : table_idx_covering_range (endless ∷ []) (closed a b) ≡ nowhere
  pub after : table_idx_covering_range (endless ∷ []) (point z) ≡ places 0 1
  pub overlaps : overlaps_range (endless ∷ []) (between (excluded z) unbounded) ≡ true

-- ---- views that all start at b
abbrev alike : List View
alike = whole b b ∷ whole b b ∷ whole b z ∷ []

pub record WalkBack : Type 0 where
  pub over_all : table_idx_covering_range alike (point b) ≡ places 0 3
  pub from_below : table_idx_covering_range alike (closed a c) ≡ places 0 3
  pub not_at_all : table_idx_covering_range alike (point c) ≡ places 2 3
  pub from_excluded : table_idx_covering_range alike (between (excluded b) (included c)) ≡ places 2 3
  pub below : table_idx_covering_range alike (between unbounded (excluded b)) ≡ nowhere

-- a view counts up to the next one's start, though it reaches further
pub record ReachingPastTheNext : Type 0 where
  pub covering : table_idx_covering_range (whole a z ∷ whole m z ∷ []) (point z) ≡ places 1 2
  pub overlaps : overlaps_range (whole a z ∷ whole b c ∷ []) (point z) ≡ false

-- ---- [c,f], visible [c,f], asked for [c,f]: of equal bounds, the second range's start and the first's end
abbrev same : View
same = view_of c (some f) (some (closed c f))

pub record EqualBounds : Type 0 where
  pub read : calculate_view_range same (closed c f) ≡ joint First (included c) Second (included f)
  pub kept : compacted_intersection same none (closed c f) ≡ joint Second (included c) First (included f)
  pub before_the_next : compacted_intersection same (some (whole m z)) (closed c f) ≡ joint First (included c) Second (included f)
  pub at_the_next : compacted_intersection same (some (whole f z)) (closed c f) ≡ joint First (included c) First (included f)

-- ---- a run without views
pub record NoViews : Type 0 where
  pub covering : table_idx_covering_range [] everything ≡ nowhere
  pub overlaps : overlaps_range [] everything ≡ false
