-- Cutting ascending intervals out of a range leaves what of it lies in the gaps between them, one piece a gap.
-- Assumes nothing.
use mathlib.Core.Path.{◌≡◌, refl, sym, ◌∙◌}
use mathlib.Core.Bool.{true}
use mathlib.Core.Option.{Option, none, some}
use mathlib.Core.List.{List, [], ◌∷◌, ◌++◌, map, flat_map, append-nil}
use Rattle.base.specs.Pick.{and_second}
use Rattle.key.specs.Order.{Key, cmp_key, cmp_number}
use Rattle.comparable_range.specs.Range.{Bound, unbounded, included, Range, non_empty}
use Rattle.comparable_range.specs.Cut.{Cut, below, before, above, cmp_cut, cut_at_most, ◌≼◌, later, sooner, start_cut, end_cut}
use Rattle.comparable_range.proofs.Cut.{≼_trans, ≺-≼, below-≼, ≼-above, before-≺-after}
use Rattle.comparable_range.proofs.Lattice.{later_left, sooner_left, ≼-later-left, ≼-later-right, sooner-≼-right}
use Rattle.comparable_range.proofs.ByCuts.{passes-≺}
use Rattle.incremental_progress.specs.Intervals.{Interval, listed, start_bound, end_bound, cut_out}
use Rattle.records.specs.Values.{View, Part}
use Rattle.manifest.specs.Ranges.{effective}
use Rattle.manifest.specs.Checks.{all, table_passes}
use Rattle.manifest.proofs.ViewRanges.{starts_plain, meets_alone, effective_start_is_held}
use Rattle.incremental_progress.specs.Parts.{planned_interval, durable, intervals}
use Rattle.incremental_progress.specs.Entries.{view_entries, run_entries}
use Rattle.incremental_progress.specs.Gaps.{void, gap_to, last_gap, gap_from, gaps_from, gaps, pieces, gap_entries}
use Rattle.base.specs.Lists.{All-map, flat_map_append, flat_map_alike, map_append}
use Rattle.incremental_progress.proofs.Span.{Span, keep, until, since, less, keep_none, keep_some, less_keep, keep_crossed, later_later, sooner_sooner'}
use Rattle.incremental_progress.proofs.Cutting.{Proper, cut_spans}
use Rattle.incremental_progress.proofs.Subtraction.{cuts, cuts_injective, span_of, intersect_cuts, cut_out_cuts}
use Rattle.incremental_progress.proofs.Job.{from_cut, to_cut, Planned, no_parts, with_part, Status, finished, nothing, ongoing, status}
use Rattle.incremental_progress.proofs.Checks.{all_each}
use Rattle.incremental_progress.proofs.GapLaws.{Ascends, none_left, then}

-- ---- spans that ascend
abbrev AscendSpans : Cut → List Span → Type 0
AscendSpans = Ascends (λ (i : Span). i.from) (λ (i : Span). i.to)

-- each interval starts at or after the end of the one before it, and none ends before it starts
abbrev pub AscendIntervals : Cut → List Interval → Type 0
AscendIntervals = Ascends from_cut to_cut

spans_ascend : {c : Cut} {ivs : List Interval} → AscendIntervals c ivs → AscendSpans c (map span_of ivs)
spans_ascend none_left = none_left
spans_ascend (then h p a) = then h p (spans_ascend a)

cut_append : (is s t : List Span) → cut_spans is (s ++ t) ≡ cut_spans is s ++ cut_spans is t
unfolding cut_spans
cut_append [] s t = refl
cut_append (i ∷ is) s t = rw (flat_map_append (less i) s t) (cut_append is _ _)

-- what lies before a cut is untouched by spans that start there or later
less_beyond : {a : Cut} (j r : Span) → a ≼ j.from → Proper j → less j (until r a) ≡ keep (until r a)
unfolding less
less_beyond j r h p = rw (sooner_sooner' r.to h, keep_crossed r.from r.to (≼_trans h p)) (append-nil _)

cut_beyond : {a c : Cut} {is : List Span} (r : Span) → a ≼ c → AscendSpans c is → cut_spans is (keep (until r a)) ≡ keep (until r a)
unfolding cut_spans
cut_beyond r h none_left = refl
cut_beyond {a} r h (then {i} {is} k p s) =
    rw (less_keep i (until r a), less_beyond i r (≼_trans h k) p) (cut_beyond r (≼_trans h (≼_trans k p)) s)

-- ---- the gaps as spans
abbrev gap_spans : Cut → List Span → List Span
gap_spans c [] = record { from = c; to = above } ∷ []
gap_spans c (i ∷ is) = record { from = c; to = i.from } ∷ gap_spans i.to is

abbrev pub meet : Span → Span → Span
meet r g = record { from = later r.from g.from; to = sooner r.to g.to }

abbrev kept : Span → List Span → List Span
kept r gs = flat_map (λ g. keep (meet r g)) gs

cut_less : (is : List Span) (i r : Span) → cut_spans is (less i r) ≡ cut_spans is (keep (until r i.from)) ++ cut_spans is (keep (since r i.to))
unfolding less
cut_less is i r = cut_append is (keep (until r i.from)) (keep (since r i.to))

-- what is left of a span from a cut on
cut_by_gaps : {c : Cut} {is : List Span} (r : Span) → AscendSpans c is → cut_spans is (keep (since r c)) ≡ kept r (gap_spans c is)
unfolding cut_spans flat_map
cut_by_gaps r none_left = rw (sooner_left (≼-above r.to)) (sym (append-nil _))
cut_by_gaps {c} r (then {i} {is} h p s) =
    rw (less_keep i (since r c), cut_less is i (since r c), cut_beyond (since r c) p s, later_later r.from (≼_trans h p), cut_by_gaps r s)

-- ---- the gaps as ranges
-- where a gap starts; after an unbounded end there is none
abbrev pub cut_of : Option Bound → Cut
cut_of none = above
cut_of (some b) = start_cut b

-- the gap after an interval starts where the interval ends
pub after_cut : (o : Option Key) → cut_of (gap_from o) ≡ end_cut (end_bound o)
after_cut none = refl
after_cut (some x) = refl

pub first-≼ : (x : Key) → before [] ≼ before x
unfolding cut_at_most cmp_cut cmp_number cmp_key
first-≼ [] = record { holds = refl }
first-≼ (b ∷ x) = record { holds = refl }

module _ (r : Range) (k : Key) (e : r.start ≡ included k) where
  -- A void gap meets nothing that starts included: no key is below the empty key.
  void_meets_none : keep (meet (cuts r) (cuts void)) ≡ []
  void_meets_none =
      keep_none (≼_trans (sooner-≼-right (end_cut r.end) (before [])) (≼_trans (rw e (first-≼ k)) (≼-later-left (start_cut r.start) below)))

  pub gap_cuts : (b : Option Bound) (s : Option Key)
      → keep (meet (cuts r) (cuts (gap_to b s))) ≡ keep (meet (cuts r) (record { from = cut_of b; to = start_cut (start_bound s) }))
  gap_cuts none s = void_meets_none ∙ sym (keep_none (≼_trans (≼-above _) (≼-later-right (start_cut r.start) above)))
  gap_cuts (some b) none = void_meets_none ∙ sym (keep_none (≼_trans (sooner-≼-right (end_cut r.end) below) (below-≼ _)))
  gap_cuts (some b) (some s) = refl

  pub last_cuts : (b : Option Bound) → keep (meet (cuts r) (cuts (last_gap b))) ≡ keep (meet (cuts r) (record { from = cut_of b; to = above }))
  last_cuts none = void_meets_none ∙ sym (keep_none (≼_trans (≼-above _) (≼-later-right (start_cut r.start) above)))
  last_cuts (some b) = refl

  gaps_cuts : (b : Option Bound) (ivs : List Interval) → map cuts (pieces (gaps_from b ivs) r) ≡ kept (cuts r) (gap_spans (cut_of b) (map span_of ivs))
  unfolding pieces gaps_from flat_map
  gaps_cuts b [] = rw (map_append, intersect_cuts r (last_gap b), last_cuts b)
  gaps_cuts b (iv ∷ ivs) =
      rw (map_append, intersect_cuts r (gap_to b iv.start), gap_cuts b iv.start, gaps_cuts (gap_from iv.end) ivs, after_cut iv.end)

  -- Cutting out intervals that ascend leaves what of the range lies in the gaps.
  pub cut_out_by_gaps : (ivs : List Interval) → non_empty r ≡ true → AscendIntervals below ivs → cut_out ivs (r ∷ []) ≡ pieces (gaps ivs) r
  unfolding gaps
  cut_out_by_gaps ivs n a =
      let whole : keep (since (cuts r) below) ≡ cuts r ∷ [] =
      rw (later_left (below-≼ (start_cut r.start)), keep_some (passes-≺ r.start r.end n))
      in
      cuts_injective _ _ (rw (cut_out_cuts, gaps_cuts (some unbounded) ivs, ← cut_by_gaps (cuts r) (spans_ascend a), whole))

-- ---- the intervals of parts that pass the checks 4, 5, 10 and 11
ascends_sooner : {c d : Cut} {ivs : List Interval} → c ≼ d → AscendIntervals d ivs → AscendIntervals c ivs
ascends_sooner h none_left = none_left
ascends_sooner h (then k p a) = then (≼_trans h k) p a

pub intervals_ascend : {c : Cut} {ps : List Part} → Planned c ps → AscendIntervals c (intervals ps)
unfolding intervals flat_map
intervals_ascend no_parts = none_left
intervals_ascend {c} (with_part {p} {ps} h r a n) = go (status p a) (intervals_ascend n)
  where
    go : Status p → AscendIntervals (to_cut (planned_interval p)) (intervals ps) → AscendIntervals c (listed (durable p) ++ intervals ps)
    go (finished d e f) i = rw e (then h (≺-≼ r) i)
    go (nothing d e f) i = rw e (ascends_sooner (≼_trans h (≺-≼ r)) i)
    go (ongoing b d k e f m o l) i = rw e (then h (≺-≼ m) (ascends_sooner (≼_trans (≺-≼ (before-≺-after b)) o) i))

-- the effective range of a view that passes check 5 passes the test
pub effective_passes : (v : View) → table_passes v ≡ true → non_empty (effective v) ≡ true
effective_passes v h = and_second (starts_plain v.visible) (non_empty (effective v)) (sym (meets_alone v) ∙ h)

-- Cutting the intervals out of a range that starts included leaves what of it lies in the gaps.
pub pieces_by_gaps : (ps : List Part) → Planned below ps → (r : Range) (k : Key) → r.start ≡ included k → non_empty r ≡ true
    → cut_out (intervals ps) (r ∷ []) ≡ pieces (gaps (intervals ps)) r
pieces_by_gaps ps a r k e n = cut_out_by_gaps r k e (intervals ps) n (intervals_ascend a)

-- The entries of a view, and of a run's views.
pub entries_by_gaps : (ps : List Part) → Planned below ps → (v : View) → table_passes v ≡ true
    → view_entries (intervals ps) v ≡ gap_entries (gaps (intervals ps)) v
unfolding view_entries gap_entries
entries_by_gaps ps a v h =
    let s = effective_start_is_held v h in
    let n = effective_passes v h in
    rw (pieces_by_gaps ps a (effective v) s.key s.start n)

pub run_entries_by_gaps : (ps : List Part) → Planned below ps → (vs : List View) → all table_passes vs ≡ true
    → run_entries (intervals ps) vs ≡ flat_map (gap_entries (gaps (intervals ps))) vs
unfolding run_entries
run_entries_by_gaps ps a vs h = flat_map_alike _ _ vs (All-map (λ v k. entries_by_gaps ps a v k) vs (all_each table_passes vs h))
