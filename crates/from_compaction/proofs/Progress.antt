-- The durable intervals of a job that passes its checks, as ranges: where they lie and which keys they hold.
-- Assumes nothing.
use Prim.Native.Nat.{ℕ, zero, suc, ◌+◌, ◌≤◌}
use native.Mathlib.Omega.{arith}
use mathlib.Core.Path.{◌≡◌, refl, sym, ap, ◌∙◌}
use mathlib.Core.Bool.{Bool, true, false, not, ◌&&◌, true≢false}
use mathlib.Core.Option.{Option, none, some}
use mathlib.Core.List.{List, [], ◌∷◌, ◌++◌, map, flat_map}
use lib.ListN.{length, length-append}
use Rattle.base.specs.Pick.{pick}
use Rattle.base.specs.Lists.{All, All-map, All-append, Pairwise, Pairwise-append, map_append}
use Rattle.key.specs.Order.{Key}
use Rattle.comparable_range.specs.Range.{Bound, unbounded, included, excluded, Range, holds}
use Rattle.comparable_range.specs.Cut.{Cut, below, cut_at_most, ◌≼◌, ◌≺◌, start_cut, end_cut}
use Rattle.comparable_range.proofs.Cut.{≼_trans, ≼_refl, ≺-≼, ≼-not-≺, before-≺-after}
use Rattle.comparable_range.proofs.ByCuts.{held_parts, ≺-passes}
use Rattle.records.specs.Values.{Part, Plan}
use Rattle.manifest.specs.Checks.{is_excluded}
use Rattle.incremental_progress.specs.Intervals.{Interval, listed, start_bound, end_bound, to_range, any_holds, bit, times}
use Rattle.incremental_progress.specs.Parts.{key_of, planned_interval, up_to_key, durable, intervals}
use Rattle.incremental_progress.specs.Checks.{is_included, planned_from, planned_in_order}
use Rattle.incremental_progress.specs.DemandLaws.{part_at}
use Rattle.incremental_progress.specs.Members.{In, here, further}
use Rattle.incremental_progress.proofs.Span.{both_true}
use Rattle.incremental_progress.proofs.Checks.{job_parts}
use Rattle.incremental_progress.proofs.LastKey.{written_outside}
use Rattle.incremental_progress.proofs.ProgressLaws.{later_holds_more}
use Rattle.incremental_progress.proofs.Job.{from_cut, to_cut, Planned, no_parts, with_part, Status, finished, nothing, ongoing, status}
use Rattle.from_compaction.specs.ProgressCalls.{from_compaction}
use Rattle.from_compaction.specs.ProgressLaws.{DurableKeysAreHeldOnce, LastWrittenKeyIsInNone, LaterAnswersHoldMore, AtMostOneAPart, IntervalsAnsweredAscend, IntervalsAnsweredPass, CompletedPartsAnswerTheirPlan, UnfinishedPartsAnswerUpToTheirLastKey}

-- the ranges of one part, and of some
abbrev pub part_ranges : Part → Plan
part_ranges p = map to_range (listed (durable p))

abbrev pub ranges_of : List Part → Plan
ranges_of ps = map to_range (intervals ps)

pub one_part_more : (p : Part) (ps : List Part) → ranges_of (p ∷ ps) ≡ part_ranges p ++ ranges_of ps
unfolding intervals flat_map
one_part_more p ps = map_append to_range (listed (durable p)) (intervals ps)

-- ---- at most one a part
one_at_most : {A : Type 0} (f : Interval → A) (o : Option Interval) → length (map f (listed o)) ≤ 1
one_at_most f none = omega arith
one_at_most f (some a) = omega arith

few_ranges : (ps : List Part) → length (ranges_of ps) ≤ length ps
unfolding intervals flat_map
few_ranges [] = omega arith
few_ranges (p ∷ ps) =
    let e = ap length (one_part_more p ps) ∙ length-append (part_ranges p) (ranges_of ps) in
    omega (arith, e, one_at_most to_range (durable p), few_ranges ps)

pub at_most_one_a_part : AtMostOneAPart
unfolding from_compaction
at_most_one_a_part j = few_ranges j.parts

-- ---- where they lie
-- a range between two cuts that runs
record Between (c e : Cut) (r : Range) : Type 0 where
  begins : c ≼ start_cut r.start
  runs : start_cut r.start ≺ end_cut r.end
  ends : end_cut r.end ≼ e

-- a part's, in its planned range
part_between : (p : Part) → Status p → from_cut (planned_interval p) ≺ to_cut (planned_interval p) → All (Between (from_cut (planned_interval p)) (to_cut (planned_interval p))) (part_ranges p)
part_between p (finished d e f) r = rw e (record { begins = ≼_refl _; runs = r; ends = ≼_refl _ }, tt)
part_between p (nothing d e f) r = rw e tt
part_between p (ongoing b d k e f m n l) r =
    rw e (record { begins = ≼_refl _; runs = m; ends = ≼_trans (≺-≼ (before-≺-after b)) n }, tt)

abbrev Apart : Range → Range → Type 0
Apart r q = end_cut r.end ≼ start_cut q.start

one_apart : (o : Option Interval) → Pairwise Apart (map to_range (listed o))
one_apart none = tt
one_apart (some iv) = (tt, tt)

-- all of them: from a cut on, each runs, and each pair is in order
record Lying (c : Cut) (p : Plan) : Type 0 where
  from : All (λ r. c ≼ start_cut r.start) p
  run : All (λ r. start_cut r.start ≺ end_cut r.end) p
  apart : Pairwise Apart p

lying : {c : Cut} {ps : List Part} → Planned c ps → Lying c (ranges_of ps)
unfolding intervals flat_map
lying no_parts = record { from = tt; run = tt; apart = tt }
lying {c} (with_part {p} {ps} l r a rest) =
    let s = part_between p (status p a) r in
    let n = lying rest in
    let e = to_cut (planned_interval p) in
    rw (one_part_more p ps)
    (record {
      from = All-append _ (part_ranges p) (ranges_of ps) (All-map (λ q b. ≼_trans l b.begins) (part_ranges p) s)
          (All-map (λ q b. ≼_trans l (≼_trans (≺-≼ r) b)) (ranges_of ps) n.from);
      run = All-append _ (part_ranges p) (ranges_of ps) (All-map (λ q b. b.runs) (part_ranges p) s) n.run;
      apart = Pairwise-append Apart (part_ranges p) (ranges_of ps) (one_apart (durable p)) n.apart
          (All-map (λ q b. All-map (λ u w. ≼_trans b.ends w) (ranges_of ps) n.from) (part_ranges p) s);
    })

pub intervals_answered_ascend : IntervalsAnsweredAscend
unfolding from_compaction
intervals_answered_ascend j c = (lying (job_parts j c)).apart

pub intervals_answered_pass : IntervalsAnsweredPass
unfolding from_compaction
intervals_answered_pass j c = All-map (λ r h. ≺-passes r.start r.end h) (ranges_of j.parts) (lying (job_parts j c)).run

-- ---- which keys they hold
-- of ranges after one that holds a key, none does
none_after : (x : Key) (r : Range) (rs : Plan) → holds r x ≡ true → All (Apart r) rs → times x rs ≡ 0
unfolding times
none_after x r [] h a = refl
none_after x r (q ∷ rs) h a = rw (none_after x r rs h a.1) (go (holds q x) refl)
  where
    go : (b : Bool) → holds q x ≡ b → bit b + 0 ≡ 0
    go true e =
        absurd (≼-not-≺ (≼_trans (held_parts r x h).1 (≼_trans a.0 (held_parts q x e).0)) (before-≺-after x))
    go false e = refl

held_once : (x : Key) (ivs : List Interval) → Pairwise Apart (map to_range ivs) → times x (map to_range ivs) ≡ bit (any_holds ivs x)
unfolding times any_holds
held_once x [] p = refl
held_once x (iv ∷ ivs) p = go (holds (to_range iv) x) refl (held_once x ivs p.1)
  where
    go : (b : Bool) → holds (to_range iv) x ≡ b → times x (map to_range ivs) ≡ bit (any_holds ivs x) → bit b + times x (map to_range ivs) ≡ bit (pick b true (any_holds ivs x))
    go true e h = rw (none_after x (to_range iv) (map to_range ivs) e p.0)
    go false e h = omega arith

pub durable_keys_are_held_once : DurableKeysAreHeldOnce
unfolding from_compaction
durable_keys_are_held_once j c x = held_once x (intervals j.parts) (lying (job_parts j c)).apart

pub later_answers_hold_more : LaterAnswersHoldMore
later_answers_hold_more i j l a b x h =
    let e : any_holds (intervals i.parts) x ≡ true = one (any_holds (intervals i.parts) x) (sym (durable_keys_are_held_once i a x) ∙ h) in
    durable_keys_are_held_once j b x ∙ ap bit (later_holds_more i j l a b x e)
  where
    one : (t : Bool) → bit t ≡ 1 → t ≡ true
    one true e = refl
    one false e = absurd (omega arith)

-- ---- what each part answers
-- the bounds of a planned range that passes check 10
same_start : (b : Bound) → not (is_excluded b) ≡ true → start_bound (key_of b) ≡ b
same_start unbounded e = refl
same_start (included k) e = refl
same_start (excluded k) e = absurd (true≢false (sym e))

same_end : (b : Bound) → not (is_included b) ≡ true → end_bound (key_of b) ≡ b
same_end unbounded e = refl
same_end (included k) e = absurd (true≢false (sym e))
same_end (excluded k) e = refl

record HalfOpen (p : Part) : Type 0 where
  start : start_bound (key_of p.planned.start) ≡ p.planned.start
  end : end_bound (key_of p.planned.end) ≡ p.planned.end

half_open_lem : (c : Cut) (ps : List Part) → planned_from c ps ≡ true → All HalfOpen ps
unfolding planned_from
half_open_lem c [] h = tt
half_open_lem c (p ∷ ps) h =
    let a = not (is_excluded p.planned.start) in
    let b = not (is_included p.planned.end) in
    let d = cut_at_most c (start_cut p.planned.start) in
    let k = both_true (a && b && d) _ h in
    let q = both_true a b (both_true (a && b) d k.0).0 in
    (record { start = same_start p.planned.start q.0; end = same_end p.planned.end q.1 }, half_open_lem (end_cut p.planned.end) ps k.1)

in_left : {A : Type 0} {x : A} (xs ys : List A) → In x xs → In x (xs ++ ys)
in_left [] ys i = elim i [ ]
in_left (x ∷ xs) ys (here e) = here e
in_left (x ∷ xs) ys (further i) = further (in_left xs ys i)

in_right : {A : Type 0} {x : A} (xs ys : List A) → In x ys → In x (xs ++ ys)
in_right [] ys i = i
in_right (x ∷ xs) ys i = further (in_right xs ys i)

-- what a part answers is answered
part_in : (ps : List Part) → All HalfOpen ps → (n : ℕ) (p : Part) (r : Range) → part_at n ps ≡ some p → (HalfOpen p → In r (part_ranges p)) → In r (ranges_of ps)
part_in [] a n p r e f = absurd (let z : ◌≡◌ {A = ℕ} 0 1 = cc in omega arith)
part_in (u ∷ us) a zero p r e f = let x : u ≡ p = cc in rw (one_part_more u us, x) (in_left (part_ranges p) (ranges_of us) (f (rw x at a.0)))
part_in (u ∷ us) a (suc n) p r e f = rw (one_part_more u us) (in_right (part_ranges u) (ranges_of us) (part_in us a.1 n p r e f))

pub completed_parts_answer_their_plan : CompletedPartsAnswerTheirPlan
unfolding from_compaction planned_in_order durable
completed_parts_answer_their_plan j c n p e d =
    part_in j.parts (half_open_lem below j.parts c.planned) n p p.planned e
    (λ h. rw (d, h.start, h.end) (here refl))

pub unfinished_parts_answer_up_to_their_last_key : UnfinishedPartsAnswerUpToTheirLastKey
unfolding from_compaction planned_in_order durable up_to_key
unfinished_parts_answer_up_to_their_last_key j c n p b e d w k =
    part_in j.parts (half_open_lem below j.parts c.planned) n p _ e
    (λ h. rw (d, w, k, h.start) (here refl))

-- ---- the last written key of an unfinished part
held_by_none : (b : Key) (iv : Interval) (ivs : List Interval) (h : Bool) → holds (to_range iv) b ≡ h → pick h true (any_holds ivs b) ≡ false
    → (holds (to_range iv) b ≡ false) × (any_holds ivs b ≡ false)
held_by_none b iv ivs true f e = absurd (true≢false e)
held_by_none b iv ivs false f e = (f, e)

none_holds : (b : Key) (ivs : List Interval) → any_holds ivs b ≡ false → All (λ r. holds r b ≡ false) (map to_range ivs)
unfolding any_holds
none_holds b [] e = tt
none_holds b (iv ∷ ivs) e = let h = held_by_none b iv ivs (holds (to_range iv) b) refl e in (h.0, none_holds b ivs h.1)

pub last_written_key_is_in_none : LastWrittenKeyIsInNone
unfolding from_compaction
last_written_key_is_in_none j c b u = none_holds b (intervals j.parts) (written_outside c u)
