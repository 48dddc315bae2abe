-- The ranges of a job that was read, and what the code knows of their size.
use Rattle.std.specs.Prelude.{ℕ, ◌*◌, ◌≤◌, ◌≡◌, List, length}
use Rattle.comparable_range.specs.Range.{Range}
use Rattle.format.specs.Range.{write_range}
use Rattle.records.specs.Form.{write_many}
use Rattle.records.specs.Values.{Plan}
use Rattle.commit_durable.specs.Tables.{job_of}
use Rattle.from_compaction.specs.ProgressCalls.{from_compaction}
use Rattle.from_compaction.specs.declared.ranges.Measure.{Measure}

abbrev pub job_ranges : List ℕ → Plan
job_ranges s = from_compaction (job_of s)

-- the bytes of ranges, without a count
abbrev pub ranges_bytes : Plan → List ℕ
ranges_bytes p = write_many write_range p

-- n is how many bytes a range takes
pub record Sized (r : Range) (n : ℕ) : Type 0 where
  pub is : n ≡ length (write_range r)
  pub most : n ≤ 131077

-- m tells how many ranges there are and how many bytes they take, 64 at most
pub record Measured (s : List ℕ) (m : Measure) : Type 0 where
  pub count : m.count ≡ length (job_ranges s)
  pub bytes : m.bytes ≡ length (ranges_bytes (job_ranges s))
  pub few : m.count ≤ 64
  pub most : m.bytes ≤ 64 * 131077
