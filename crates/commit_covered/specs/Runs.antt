-- Check 12 of all runs: what is asked of the tables.
use Rattle.std.specs.Prelude.{ℕ, ◌≡◌, true, List}
use Rattle.manifest.specs.Checks.{image_checks}
use Rattle.commit_index.specs.Index.{image_of, IndexHold}
use Rattle.commit_durable.specs.Tables.{job_of, GapsHold}
use Rattle.commit_gaps.specs.Ordered.{GapsOrdered}
use Rattle.commit_covered.specs.declared.runs.CoverHead.{CoverHead}

-- The runs of the image `given` and the gaps of the job s stand in tables, the image passed the checks 5 and 6, and h has
-- the job's destination.
pub record CoverReady (given s index gap_table : List ℕ) (h : CoverHead) : Type 0 where
  pub runs : IndexHold given h.runs index
  pub tables : (image_checks (image_of given)).tables ≡ true
  pub order : (image_checks (image_of given)).order ≡ true
  pub gaps : GapsHold s h.gaps gap_table
  pub ordered : GapsOrdered s
  pub destination : h.destination ≡ (job_of s).destination
