-- What `from_compaction` answers on any bytes: the layout of the job's durable intervals, no longer than the job, which reads
-- back.
-- Assumes nothing.
use Prim.Native.Nat.{ℕ, ◌+◌, ◌≤◌}
use native.Mathlib.Omega.{arith}
use mathlib.Core.Path.{◌≡◌, refl, sym, ap, ◌∙◌}
use mathlib.Core.Bool.{Bool, true, false}
use mathlib.Core.Option.{Option, none, some}
use mathlib.Core.List.{List, [], ◌∷◌, ◌++◌, map, flat_map, append-nil}
use lib.ListN.{length, length-append}
use lib.Dec.{leb}
use borrow.Author.Tests.{le-leb}
use Rattle.base.specs.Pick.{pick, and_second}
use Rattle.base.specs.Lists.{All-map, All-mapped}
use Rattle.base.specs.Outcome.{Outcome, answer}
use Rattle.key.specs.Order.{Key}
use Rattle.comparable_range.specs.Range.{Bound, unbounded, included, excluded, Range}
use Rattle.format.specs.Key.{write_key}
use Rattle.format.specs.Range.{write_bound, write_range}
use Rattle.format.specs.Number.{write_number}
use Rattle.format.specs.Whole.{whole, ended}
use Rattle.format.specs.Laws.{KeyWithin, BoundWithin, RangeWithin}
use Rattle.format.proofs.Layouts.{number_length}
use Rattle.records.specs.Form.{Form, key, range, write_if, write_many}
use Rattle.records.specs.Values.{Table, Part, Job, Plan}
use Rattle.records.specs.Layouts.{table, part, job, plan}
use Rattle.records.specs.Laws.{Lawful}
use Rattle.records.proofs.RecordLayouts.{job_layout, plan_layout}
use Rattle.records.proofs.Within.{If, many_of_all}
use Rattle.records.proofs.Within as within
use Rattle.manifest.specs.Checks.{checked, image_checks, job_checks}
use Rattle.manifest.proofs.Given.{whole_read}
use Rattle.incremental_progress.specs.Intervals.{Interval, listed, start_bound, end_bound, to_range}
use Rattle.incremental_progress.specs.Parts.{key_of, planned_interval, last_written, is_key, up_to_key, durable, intervals}
use Rattle.incremental_progress.specs.Checks.{destination_is_source}
use Rattle.incremental_progress.specs.Laws.{JobPasses}
use Rattle.incremental_progress.proofs.Outcomes.{answered, tested, same_answer, accepted_commit}
use Rattle.incremental_progress.proofs.Ceilings.{IntervalWithin, intervals_within}
use Rattle.from_compaction.specs.ProgressCalls.{from_compaction, progressed, progress_made, from_compaction_outcome}
use Rattle.from_compaction.specs.ProgressLaws.{EachProgressAnswered, CommittedRecordsAreAnswered}
use Rattle.from_compaction.proofs.LateChecks.{late_passed}
use Rattle.from_compaction.proofs.Progress.{part_ranges, ranges_of, one_part_more, at_most_one_a_part, intervals_answered_ascend, intervals_answered_pass, durable_keys_are_held_once, completed_parts_answer_their_plan, last_written_key_is_in_none}

-- ---- the checks that passed
passed : (j : Job) (o : Outcome Plan) (p : Plan) → checked (job_checks j) o ≡ answer p → ((job_checks j).ranges ≡ true) × (((job_checks j).tables ≡ true) × (o ≡ answer p))
passed j o p e =
    let c = job_checks j in
    let a = tested 4 c.ranges _ p e in
    let b = tested 5 c.tables _ p a.1 in
    let d = tested 6 c.order _ p b.1 in
    (a.0, (b.0, (tested 7 c.sizes o p d.1).1))

record Made (l : List ℕ) (p : Plan) : Type 0 where
  progress : Job
  progress_is : whole job.read l ≡ answer progress
  passes : JobPasses progress
  are : p ≡ from_compaction progress

made : (l : List ℕ) (p : Plan) → progress_made l ≡ answer p → Made l p
unfolding progress_made progressed
made l p e =
    let a = answered (whole job.read l) _ p e in
    let j = a.value in
    let b = passed j _ p a.second in
    let c8 = tested 8 (destination_is_source j) _ p b.1.1 in
    let c = late_passed j p c8.0 b.1.1 in
    record {
      progress = j;
      progress_is = a.first;
      passes = record { ranges = b.0; tables = b.1.0; planned = c.planned; outputs = c.outputs };
      are = c.are;
    }

-- ---- within the ceilings
range_within : (iv : Interval) → IntervalWithin iv → RangeWithin (to_range iv)
range_within iv h = record { start = starts iv.start h.start; end = ends iv.end h.end }
  where
    starts : (o : Option Key) → If KeyWithin o → BoundWithin (start_bound o)
    starts none h = tt
    starts (some k) h = h

    ends : (o : Option Key) → If KeyWithin o → BoundWithin (end_bound o)
    ends none h = tt
    ends (some k) h = h

few_parts : (j : Job) → job.Within j → length j.parts ≤ 64
unfolding job
few_parts j w = w.second.second.first

pub few_ranges : (j : Job) → job.Within j → length (from_compaction j) ≤ 64
few_ranges j w = omega (arith, at_most_one_a_part j, few_parts j w)

plan_within : (j : Job) → job.Within j → plan.Within (from_compaction j)
unfolding plan from_compaction
plan_within j w =
    let a = All-mapped RangeWithin to_range (intervals j.parts) (All-map range_within (intervals j.parts) (intervals_within j.parts (within.job_parts j w))) in
    record { first = few_ranges j w; second = many_of_all range (ranges_of j.parts) a }

-- ---- no longer than the job
bound_same : (b : Bound) → (write_bound (start_bound (key_of b)) ≡ write_bound b) × (write_bound (end_bound (key_of b)) ≡ write_bound b)
unfolding write_bound
bound_same unbounded = (refl, refl)
bound_same (included k) = (refl, refl)
bound_same (excluded k) = (refl, refl)

range_length : (r : Range) → length (write_range r) ≡ 1 + (length (write_bound r.start) + length (write_bound r.end))
unfolding write_range
range_length r = omega (arith, length-append (write_bound r.start) (write_bound r.end))

-- the last written key stands in an output
table_length : (t : Table) (b : Key) → t.last ≡ some b → length (write_key b) ≤ length (table.write t)
unfolding table write_if
table_length t b e =
    let k : length (write_if key t.last) ≡ length (write_key b) = rw e in
    simp length-append (omega (arith, k))

last_length : (ts : List Table) (b : Key) → last_written ts ≡ some b → length (write_key b) ≤ length (write_many table.write ts)
unfolding last_written write_many
last_length [] b e = absurd (let z : ◌≡◌ {A = ℕ} 0 1 = cc in omega arith)
last_length (t ∷ []) b e = rw append-nil (table_length t b e)
last_length (t ∷ u ∷ ts) b e =
    omega (arith, length-append (table.write t) (write_many table.write (u ∷ ts)), last_length (u ∷ ts) b e)

abbrev written : Plan → ℕ
written p = length (write_many write_range p)

part_length : (p : Part) → length (write_range p.planned) + length (write_many table.write p.outputs) ≤ length (part.write p)
unfolding part
part_length p = simp length-append (omega arith)

one_written : (r : Range) → written (r ∷ []) ≡ length (write_range r)
unfolding write_many
one_written r = ap length (append-nil (write_range r))

ranges_length : (p : Part) → written (part_ranges p) ≤ length (part.write p)
unfolding durable up_to_key write_bound write_many
ranges_length p = go p.completed (last_written p.outputs) refl
  where
    planned_length : length (write_range (to_range (planned_interval p))) ≡ length (write_range p.planned)
    planned_length =
        range_length (to_range (planned_interval p)) ∙ rw ((bound_same p.planned.start).0, (bound_same p.planned.end).1) (sym (range_length p.planned))

    up_length : (b : Key) → last_written p.outputs ≡ some b → length (write_range (to_range (record { start = (planned_interval p).start; end = some b }))) ≤ length (part.write p)
    up_length b e =
        let r = range_length (to_range (record { start = (planned_interval p).start; end = some b })) in
        let q = range_length p.planned in
        let s = ap length (bound_same p.planned.start).0 in
        omega (arith, r, q, s, last_length p.outputs b e, part_length p)

    up : (b : Key) (d : Bool) → last_written p.outputs ≡ some b → written (map to_range (listed (pick d none (some (record { start = (planned_interval p).start; end = some b }))))) ≤ length (part.write p)
    up b true e = omega arith
    up b false e = rw one_written (up_length b e)

    go : (d : Bool) (o : Option Key) → last_written p.outputs ≡ o → written (map to_range (listed (pick d (some (planned_interval p)) (up_to_key (planned_interval p).start o)))) ≤ length (part.write p)
    go true o e = rw (one_written, planned_length) (omega (arith, part_length p))
    go false none e = omega arith
    go false (some b) e = up b (is_key (planned_interval p).start b) e

written_append : (p q : Plan) → written (p ++ q) ≡ written p + written q
unfolding write_many
written_append [] q = omega arith
written_append (r ∷ p) q =
    let a = length-append (write_range r) (write_many write_range (p ++ q)) in
    let b = length-append (write_range r) (write_many write_range p) in
    omega (arith, a, b, written_append p q)

parts_length : (ps : List Part) → written (ranges_of ps) ≤ length (write_many part.write ps)
unfolding intervals flat_map write_many
parts_length [] = omega arith
parts_length (p ∷ ps) =
    let a = ap written (one_part_more p ps) ∙ written_append (part_ranges p) (ranges_of ps) in
    let b = length-append (part.write p) (write_many part.write ps) in
    omega (arith, a, b, ranges_length p, parts_length ps)

plan_length : (p : Plan) → length (plan.write p) ≡ 1 + written p
unfolding plan
plan_length p = length-append (write_number 1 (length p)) (write_many write_range p) ∙ rw number_length

job_length : (j : Job) → 1 + length (write_many part.write j.parts) ≤ length (job.write j)
unfolding job
job_length j = simp (length-append, number_length) (omega arith)

shorter : (j : Job) → length (plan.write (from_compaction j)) ≤ length (job.write j)
unfolding from_compaction
shorter j = omega (arith, plan_length (from_compaction j), parts_length j.parts, job_length j)

-- ---- the answer
-- what is within the ceilings and not too long reads back whole
reads_whole : {A : Type 0} {f : Form A} → Lawful f → (v : A) → f.Within v → length (f.write v) ≤ 65536 → whole f.read (f.write v) ≡ answer v
unfolding whole
reads_whole {f = f} F v w h =
    rw (le-leb (length (f.write v)) 65536 h)
    (ap (λ l. ended (f.read l)) (sym (append-nil (f.write v))) ∙ ap ended (F.back v [] w))

pub each_progress_answered : EachProgressAnswered
unfolding from_compaction_outcome
each_progress_answered l room b bs e =
    let a = answered (progress_made l) _ b e in
    let m = made l a.value a.first in
    let j = m.progress in
    let t = tested 16 (leb (length (plan.write a.value)) room) (answer (plan.write a.value)) b a.second in
    let is : b ≡ plan.write (from_compaction j) = cc (t.1, m.are) in
    let r = whole_read job.read l j m.progress_is in
    let w = job_layout.only l j [] bs r.all in
    let long : length l ≡ length (job.write j) = ap length w.bytes ∙ ap length (append-nil (job.write j)) in
    let less : length (plan.write (from_compaction j)) ≤ length l = omega (arith, shorter j) in
    record {
      progress = j;
      progress_is = m.progress_is;
      passes = m.passes;
      ranges = from_compaction j;
      are = refl;
      is = is;
      reads_back = ap (whole plan.read) is ∙ reads_whole plan_layout (from_compaction j) (plan_within j w.within) (omega (arith, r.small));
      no_longer = omega (arith, ap length is);
      most = few_ranges j w.within;
      one_a_part = at_most_one_a_part j;
      pass = intervals_answered_pass j m.passes;
      in_order = intervals_answered_ascend j m.passes;
      held_once = durable_keys_are_held_once j m.passes;
      last_key_in_none = last_written_key_is_in_none j m.passes;
      completed = completed_parts_answer_their_plan j m.passes;
    }

-- ---- a record that a commit accepts
pub committed_records_are_answered : CommittedRecordsAreAnswered
unfolding progress_made progressed
committed_records_are_answered given record' ids room new progress e r =
    let a = accepted_commit given record' ids room new e in
    let p = a.made.passes in
    let i = image_checks a.before in
    let c = job_checks a.progress in
    let x : a.progress ≡ progress = same_answer a.progress_is r in
    let ranges : c.ranges ≡ true = and_second i.ranges c.ranges p.first.ranges in
    let tables : c.tables ≡ true = and_second i.tables c.tables p.first.tables in
    let order : c.order ≡ true = and_second i.order c.order p.first.order in
    let sizes : c.sizes ≡ true = and_second i.sizes c.sizes p.first.sizes in
    rw (r, ← x, ranges, tables, order, sizes, p.source, p.planned, p.outputs)
