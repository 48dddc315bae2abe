-- What the answers of the one pass over a job say of its bytes s.
use Rattle.std.specs.Prelude.{ℕ, ◌+◌, ◌*◌, ◌≤◌, ◌≡◌, Bool, true, ◌&&◌, List, [], length, drop, eqb}
use Rattle.std.proofs.Math.Option.{Option, none, some}
use Rattle.base.specs.Pick.{pick}
use Rattle.base.specs.Outcome.{answer}
use Rattle.base.specs.Outcome as outcome
use Rattle.base.specs.Rows.{RowsHold}
use Rattle.base.specs.Splice.{splice}
use Rattle.key.specs.Order.{Key}
use Rattle.comparable_range.specs.Range.{Bound, Range, range_of, non_empty}
use Rattle.comparable_range.specs.Factors.{is_keyed}
use Rattle.comparable_range.specs.Cut.{Cut, below, start_cut, end_cut}
use Rattle.comparable_range.specs.declared.Kind.{Kind}
use Rattle.format.specs.Got.{Got, got, stop}
use Rattle.format.specs.Range.{bound_in, range_in, BoundInside}
use Rattle.format.specs.Whole.{ended}
use Rattle.format.specs.declared.range.BoundSpan.{BoundSpan}
use Rattle.format.specs.declared.span.RangeSpan.{RangeSpan}
use Rattle.records.specs.Values.{Table, Part}
use Rattle.records.specs.Layouts.{job}
use Rattle.records.specs.Spans.{if_so, key_in, table_in, ids_in}
use Rattle.records.specs.declared.tables.TableSpan.{TableSpan}
use Rattle.manifest.specs.Checks.{all, job_checks}
use Rattle.manifest.specs.Faults.{fault_of, least, table_checks, tables_checks, parts_checks, planned}
use Rattle.incremental_progress.specs.Intervals.{Interval, to_range}
use Rattle.incremental_progress.specs.Parts.{key_of, last_written, up_to_key}
use Rattle.incremental_progress.specs.Checks.{half_open, planned_from, outputs_from, outputs_inside}
use Rattle.commit_rows.specs.Numbers.{part_numbers}
use Rattle.commit_rows.specs.declared.parts.PartSpan.{PartSpan}
use Rattle.commit_durable.specs.Faults.{planned_after, output_between, parts_fault}
use Rattle.commit_durable.specs.Tables.{job_of, interval_in, durable_in, open_in, PartHeld, PartIs, PartsHold, GapsHold}
use Rattle.commit_durable.specs.declared.outputs.Outputs.{Outputs}
use Rattle.commit_durable.specs.declared.outputs.OutputsRead.{OutputsRead}
use Rattle.commit_durable.specs.declared.outputs.OutputsRead.TheVariants.{At as OutputsAt, Stop as OutputsStop}
use Rattle.commit_durable.specs.declared.parts.PartsSeen.{PartsSeen}
use Rattle.commit_durable.specs.declared.parts.PartsJudged.{PartsJudged}
use Rattle.commit_durable.specs.declared.parts.PartsJudged.TheVariants.{At as PartsAt, Stop as PartsStop}
use Rattle.commit_durable.specs.declared.gaps.GapStart.{GapStart}
use Rattle.commit_durable.specs.declared.jobs.JobHead.{JobHead}
use Rattle.commit_durable.specs.declared.jobs.JobJudged.{JobJudged}
use Rattle.commit_durable.specs.declared.jobs.JobJudged.TheVariants.{At as JobAt, Stop as JobStop}

-- ---- outputs
abbrev pub output_more : List ℕ → Outputs → BoundSpan → BoundSpan → TableSpan → Outputs
output_more s o before end t =
    record {
      past = t.past;
      fault = least o.fault (fault_of (table_checks (table_in s t)));
      inside = o.inside && output_between (end_cut (bound_in s end)) (start_cut (bound_in s before)) (table_in s t);
      there = t.flagged;
      at = t.last_at;
      len = t.last_len;
    }

-- the last written key
abbrev pub last_in : List ℕ → Outputs → Option Key
last_in s o = if_so o.there (key_in s o.at o.len)

abbrev pub LastInside : List ℕ → Outputs → Type 0
LastInside s o = o.at + o.len ≤ length s

-- o tells of the outputs of a part with a planned range
pub record OutputsTold (s : List ℕ) (r : RangeSpan) (ts : List Table) (o : Outputs) : Type 0 where
  pub place : o.past ≤ length s
  pub fault : o.fault ≡ fault_of (tables_checks ts)
  pub inside : o.inside ≡ outputs_from (end_cut (bound_in s r.end)) (start_cut (bound_in s r.start)) ts
  pub last : last_in s o ≡ last_written ts
  pub last_in_lem : LastInside s o

-- those that a reader finds
pub record OutputsGot (s : List ℕ) (g : Got (List Table)) (r : RangeSpan) (o : Outputs) : Type 0 where
  pub tables : List Table
  pub is : g ≡ got tables (drop o.past s)
  pub told : OutputsTold s r tables o

abbrev pub OutputsAnswer : List ℕ → Got (List Table) → RangeSpan → OutputsRead → Type 0
OutputsAnswer s g r (OutputsAt o) = OutputsGot s g r o
OutputsAnswer s g r (OutputsStop k) = g ≡ stop k

pub record OutputsPassed (s : List ℕ) (g : Got (List Table)) (r : RangeSpan) (w : OutputsRead) : Type 0 where
  pub is : OutputsAnswer s g r w

-- ---- durable intervals
-- a bound with a key gets this kind; an unbounded one stays
abbrev pub with_kind : Kind → BoundSpan → BoundSpan
with_kind k b = record { kind = pick (is_keyed b.kind) k b.kind; at = b.at; len = b.len }

-- what is durable of a planned range: `durable` of a part, by its fields
abbrev pub durable_from : Range → Bool → Option Key → Option Interval
durable_from r completed last = pick completed (some (record { start = key_of r.start; end = key_of r.end })) (up_to_key (key_of r.start) last)

-- h is the row of a part with a planned range, its outputs and the last written key
pub record RowMade (s : List ℕ) (r : RangeSpan) (completed : Bool) (outputs first : ℕ) (last : Option Key) (h : PartSpan) : Type 0 where
  pub is : durable_in s h ≡ durable_from (range_in s r.start r.end) completed last
  pub range : h.durable ≡ true → range_in s h.start h.end ≡ to_range (interval_in s h.start h.end)
  pub open_is : h.durable ≡ true → open_in s h ≡ pick completed none last
  pub start : BoundInside s h.start
  pub end : BoundInside s h.end
  pub outputs_is : h.outputs ≡ outputs
  pub first_is : h.first ≡ first

-- ---- one part
-- `half_open` by the kinds of the two bounds
abbrev pub half_open_kinds : Kind → Kind → Bool
half_open_kinds ks ke = half_open (range_of ks [] ke [])

-- where the next part may begin: after the end of the one before, if there is one
abbrev pub cut_of : Bool → Bound → Cut
cut_of first b = pick first below (end_cut b)

-- what p tells, and one part more with a planned range r and outputs o
abbrev pub part_more : List ℕ → Bool → PartsSeen → RangeSpan → Outputs → PartsSeen
part_more s first p r o =
    record {
      past = o.past;
      fault = least p.fault (least (fault_of (planned (non_empty (range_in s r.start r.end)))) o.fault);
      planned = p.planned && planned_after (cut_of first (bound_in s p.end)) (range_in s r.start r.end);
      inside = p.inside && o.inside;
      end = r.end;
    }

-- the first of the checks 4, 5 and 7 that a part fails, or 8
abbrev pub part_fault : Part → ℕ
part_fault p = least (fault_of (planned (non_empty p.planned))) (fault_of (tables_checks p.outputs))

-- m tells of a part that a reader finds and of those before it, of which p tells; its row k was put into a table d
pub record PartGot (s : List ℕ) (g : Got Part) (k : ℕ) (p : PartsSeen) (d t : List ℕ) (m : PartsSeen) : Type 0 where
  pub part : Part
  pub is : g ≡ got part (drop m.past s)
  pub place : m.past ≤ length s
  pub fault : m.fault ≡ least p.fault (part_fault part)
  pub planned : m.planned ≡ (p.planned && planned_after (cut_of (eqb k 0) (bound_in s p.end)) part.planned)
  pub inside : m.inside ≡ (p.inside && outputs_inside part)
  pub end : bound_in s m.end ≡ part.planned.end
  pub end_in : BoundInside s m.end
  pub row : PartSpan
  pub held : PartHeld s part row
  pub put : t ≡ splice d (k * 10) (part_numbers row)

abbrev pub PartAnswer : List ℕ → Got Part → ℕ → PartsSeen → List ℕ → List ℕ → PartsJudged → Type 0
PartAnswer s g k p d t (PartsAt m) = PartGot s g k p d t m
PartAnswer s g k p d t (PartsStop c) = g ≡ stop c

-- the table was d
pub record PartPassed (s : List ℕ) (g : Got Part) (k : ℕ) (p : PartsSeen) (d t : List ℕ) (r : PartsJudged) : Type 0 where
  pub is : PartAnswer s g k p d t r
  pub same : length t ≡ length d

-- ---- all parts
-- p tells of some parts
pub record PartsTold (s : List ℕ) (ps : List Part) (p : PartsSeen) : Type 0 where
  pub place : p.past ≤ length s
  pub fault : p.fault ≡ fault_of (parts_checks ps)
  pub planned : p.planned ≡ planned_from below ps
  pub inside : p.inside ≡ all outputs_inside ps

-- those that a reader finds, put into a table t
pub record PartsGot (s : List ℕ) (g : Got (List Part)) (n : ℕ) (t : List ℕ) (p : PartsSeen) : Type 0 where
  pub parts : List Part
  pub is : g ≡ got parts (drop p.past s)
  pub count : n ≡ length parts
  pub told : PartsTold s parts p
  pub rows : RowsHold 10 (PartIs s) parts t

abbrev pub PartsAnswer : List ℕ → Got (List Part) → ℕ → List ℕ → PartsJudged → Type 0
PartsAnswer s g n t (PartsAt p) = PartsGot s g n t p
PartsAnswer s g n t (PartsStop k) = g ≡ stop k

-- the table was d
pub record PartsPassed (s : List ℕ) (g : Got (List Part)) (n : ℕ) (d t : List ℕ) (r : PartsJudged) : Type 0 where
  pub is : PartsAnswer s g n t r
  pub same : length t ≡ length d

-- ---- the job
-- h tells of the job, and its parts stand in a table t
pub record JobTold (s t : List ℕ) (h : JobHead) : Type 0 where
  pub is : ended (job.read s) ≡ answer (job_of s)
  pub fault : h.fault ≡ fault_of (job_checks (job_of s))
  pub late : h.late ≡ parts_fault (job_of s).parts
  pub destination : h.destination ≡ (job_of s).destination
  pub sources : ids_in h.sources (drop h.from s) ≡ (job_of s).sources
  pub inside : h.from + 4 * h.sources ≤ length s
  pub parts : PartsHold s h.parts t

abbrev pub JobAnswer : List ℕ → List ℕ → JobJudged → Type 0
JobAnswer s t (JobAt h) = JobTold s t h
JobAnswer s t (JobStop k) = ended (job.read s) ≡ outcome.stop k

-- the table was d
pub record JobPassed (s d t : List ℕ) (r : JobJudged) : Type 0 where
  pub is : JobAnswer s t r
  pub same : length t ≡ length d

-- ---- gaps
-- where the next gap starts
abbrev pub start_in : List ℕ → GapStart → Option Bound
start_in s g = if_so g.there (bound_in s g.bound)

abbrev pub StartInside : List ℕ → GapStart → Type 0
StartInside s g = BoundInside s g.bound

pub record StartFound (s : List ℕ) (b : Option Bound) (g : GapStart) : Type 0 where
  pub is : start_in s g ≡ b
  pub inside : StartInside s g

-- r gaps stand in a table t that was d
pub record GapsMade (s d t : List ℕ) (r : ℕ) : Type 0 where
  pub hold : GapsHold s r t
  pub same : length t ≡ length d
