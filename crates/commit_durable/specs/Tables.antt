-- What the tables of a job's parts and of the gaps between its durable intervals hold. The keys stand in the job s.
use Rattle.std.specs.Prelude.{ℕ, ◌+◌, ◌≤◌, ◌≡◌, true, List, [], ◌∷◌, length, drop}
use Rattle.std.proofs.Math.Option.{Option, none, some}
use Rattle.base.specs.Pick.{pick}
use Rattle.base.specs.Rows.{RowsHold}
use Rattle.key.specs.Order.{Key}
use Rattle.comparable_range.specs.Range.{Range}
use Rattle.format.specs.Got.{Got, got, stop}
use Rattle.format.specs.Range.{bound_in, range_in, BoundInside}
use Rattle.format.specs.declared.range.BoundSpan.{BoundSpan}
use Rattle.format.specs.declared.span.RangeSpan.{RangeSpan}
use Rattle.records.specs.Form.{read_many}
use Rattle.records.specs.Values.{Part, Job}
use Rattle.records.specs.Layouts.{table, job}
use Rattle.records.specs.Spans.{if_so, key_in}
use Rattle.incremental_progress.specs.Intervals.{Interval, to_range}
use Rattle.incremental_progress.specs.Parts.{key_of, durable, intervals, open_key}
use Rattle.incremental_progress.specs.Gaps.{gaps}
use Rattle.commit_rows.specs.Numbers.{gap_of, part_of}
use Rattle.commit_rows.specs.declared.parts.PartSpan.{PartSpan}

-- ---- the job that was read
abbrev pub job_got : Got Job → Job
job_got (got j r) = j
job_got (stop k) = record { destination = 0; sources = []; parts = [] }

abbrev pub job_of : List ℕ → Job
job_of s = job_got (job.read s)

-- the gaps between its durable intervals
abbrev pub job_gaps : List ℕ → List Range
job_gaps s = gaps (intervals (job_of s).parts)

-- ---- parts
abbrev pub interval_in : List ℕ → BoundSpan → BoundSpan → Interval
interval_in s start end = record { start = key_of (bound_in s start); end = key_of (bound_in s end) }

abbrev pub durable_in : List ℕ → PartSpan → Option Interval
durable_in s h = if_so h.durable (interval_in s h.start h.end)

-- the key at which its outputs are cut: where the interval of a part that is not completed ends
abbrev pub open_in : List ℕ → PartSpan → Option Key
open_in s h = pick h.completed none (some (key_in s h.end.at h.end.len))

-- h stands for the part
pub record PartHeld (s : List ℕ) (p : Part) (h : PartSpan) : Type 0 where
  pub durable_is : durable_in s h ≡ durable p
  pub range : h.durable ≡ true → range_in s h.start h.end ≡ to_range (interval_in s h.start h.end)
  pub open_is : h.durable ≡ true → open_in s h ≡ open_key p
  pub start : BoundInside s h.start
  pub end : BoundInside s h.end
  pub first : h.first ≤ length s
  pub few : h.outputs ≤ 1024
  pub past : List ℕ
  pub outputs_are : read_many table.read h.outputs (drop h.first s) ≡ got p.outputs past

abbrev pub PartIs : List ℕ → Part → List ℕ → Type 0
PartIs s p row = PartHeld s p (part_of row)

-- the n parts of the job
pub record PartsHold (s : List ℕ) (n : ℕ) (t : List ℕ) : Type 0 where
  pub count : n ≡ length (job_of s).parts
  pub most : n ≤ 64
  pub rows : RowsHold 10 (PartIs s) (job_of s).parts t

-- r is part k
pub record PartFound (s : List ℕ) (k : ℕ) (r : PartSpan) : Type 0 where
  pub part : Part
  pub is : drop k (job_of s).parts ≡ part ∷ drop (k + 1) (job_of s).parts
  pub held : PartHeld s part r

-- ---- gaps
-- r stands for the gap
pub record GapHeld (s : List ℕ) (g : Range) (r : RangeSpan) : Type 0 where
  pub is : range_in s r.start r.end ≡ g
  pub start : BoundInside s r.start
  pub end : BoundInside s r.end

abbrev pub GapIs : List ℕ → Range → List ℕ → Type 0
GapIs s g row = GapHeld s g (gap_of row)

-- the m gaps of the job
pub record GapsHold (s : List ℕ) (m : ℕ) (t : List ℕ) : Type 0 where
  pub count : m ≡ length (job_gaps s)
  pub most : m ≤ 65
  pub rows : RowsHold 6 (GapIs s) (job_gaps s) t

-- r is gap g
pub record GapFound (s : List ℕ) (g : ℕ) (r : RangeSpan) : Type 0 where
  pub is : drop g (job_gaps s) ≡ range_in s r.start r.end ∷ drop (g + 1) (job_gaps s)
  pub start : BoundInside s r.start
  pub end : BoundInside s r.end
