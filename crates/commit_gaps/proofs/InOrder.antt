-- The gaps between intervals that ascend ascend.
-- Assumes nothing.
use Prim.Native.Nat.{ℕ}
use mathlib.Core.Path.{◌≡◌, refl}
use mathlib.Core.Logic.{◌⊎◌, inl, inr}
use mathlib.Core.Option.{Option, none, some}
use mathlib.Core.List.{List, [], ◌∷◌}
use Rattle.base.specs.Lists.{All, All-map, Pairwise}
use Rattle.key.specs.Order.{Key}
use Rattle.comparable_range.specs.Range.{Bound, unbounded, Range}
use Rattle.comparable_range.specs.Cut.{Cut, before, ◌≼◌, start_cut, end_cut}
use Rattle.comparable_range.proofs.Cut.{≼_trans, ≼_refl, ≼-above, below-≼}
use Rattle.incremental_progress.specs.Intervals.{Interval, start_bound, end_bound}
use Rattle.incremental_progress.specs.Parts.{intervals}
use Rattle.incremental_progress.specs.Gaps.{void, gap_to, last_gap, gap_from, gaps_from, gaps}
use Rattle.incremental_progress.specs.Laws.{JobPasses}
use Rattle.incremental_progress.proofs.Job.{to_cut}
use Rattle.incremental_progress.proofs.GapLaws.{none_left, then}
use Rattle.incremental_progress.proofs.ByGaps.{AscendIntervals, cut_of, after_cut, intervals_ascend, first-≼}
use Rattle.incremental_progress.proofs.Checks.{job_parts}
use Rattle.commit_durable.specs.Tables.{job_of}
use Rattle.commit_gaps.specs.Ordered.{Ahead, is_void, starts_later, GapsOrdered}

-- a gap is void, or starts at a cut or after it
abbrev From : Cut → Range → Type 0
From c h = (h ≡ void) ⊎ (c ≼ start_cut h.start)

to_from : (b : Option Bound) (s : Option Key) → From (cut_of b) (gap_to b s)
to_from none s = inl refl
to_from (some b) none = inl refl
to_from (some b) (some k) = inr (≼_refl (start_cut b))

last_from_lem : (b : Option Bound) → From (cut_of b) (last_gap b)
last_from_lem none = inl refl
last_from_lem (some b) = inr (≼_refl (start_cut b))

from_sooner : {c d : Cut} → c ≼ d → (h : Range) → From d h → From c h
from_sooner e h (inl v) = inl v
from_sooner e h (inr k) = inr (≼_trans e k)

-- the gaps from a start on
gaps_from_lem : (b : Option Bound) {c : Cut} (ivs : List Interval) → cut_of b ≡ c → AscendIntervals c ivs → All (From c) (gaps_from b ivs)
unfolding gaps_from
gaps_from_lem b [] e none_left = (rw e at (last_from_lem b), tt)
gaps_from_lem b (iv ∷ ivs) e (then h k a) =
    (rw e at (to_from b iv.start), All-map (from_sooner (≼_trans h k)) (gaps_from (gap_from iv.end) ivs) (gaps_from_lem (gap_from iv.end) ivs (after_cut iv.end) a))

empty-≼ : (o : Option Key) → before [] ≼ end_cut (end_bound o)
empty-≼ none = ≼-above (before [])
empty-≼ (some k) = first-≼ k

-- a gap before an interval starts and ends at or before the interval's end
to_starts : (b : Option Bound) (iv : Interval) → cut_of b ≼ to_cut iv → start_cut (gap_to b iv.start).start ≼ to_cut iv
to_starts none iv h = below-≼ (to_cut iv)
to_starts (some b) iv h = go iv.start
  where
    go : (o : Option Key) → start_cut (gap_to (some b) o).start ≼ to_cut iv
    go none = below-≼ (to_cut iv)
    go (some k) = h

to_ends : (b : Option Bound) (s : Option Key) (iv : Interval) → start_cut (start_bound s) ≼ to_cut iv → end_cut (gap_to b s).end ≼ to_cut iv
to_ends none s iv h = empty-≼ iv.end
to_ends (some b) none iv h = empty-≼ iv.end
to_ends (some b) (some k) iv h = h

pub gaps_ascend : (b : Option Bound) {c : Cut} (ivs : List Interval) → cut_of b ≡ c → AscendIntervals c ivs → Pairwise Ahead (gaps_from b ivs)
unfolding gaps_from
gaps_ascend b [] e none_left = (tt, tt)
gaps_ascend b (iv ∷ ivs) e (then h k a) =
    let later = gaps_from_lem (gap_from iv.end) ivs (after_cut iv.end) a in
    let s = to_starts b iv (rw e (≼_trans h k)) in
    let t = to_ends b iv.start iv k in
    (All-map (λ g f. go g s t f) (gaps_from (gap_from iv.end) ivs) later, gaps_ascend (gap_from iv.end) ivs (after_cut iv.end) a)
  where
    go : (g : Range) → start_cut (gap_to b iv.start).start ≼ to_cut iv → end_cut (gap_to b iv.start).end ≼ to_cut iv → From (to_cut iv) g → Ahead (gap_to b iv.start) g
    go g s t (inl v) = is_void v
    go g s t (inr l) = starts_later (≼_trans s l) (≼_trans t l)

-- The gaps of a job whose parts pass the checks 4, 5, 10 and 11.
pub gaps_ordered : (s : List ℕ) → JobPasses (job_of s) → GapsOrdered s
unfolding gaps
gaps_ordered s p = record { ordered = gaps_ascend (some unbounded) (intervals (job_of s).parts) refl (intervals_ascend (job_parts (job_of s) p)) }
