-- Which gaps can be passed over: those that end before a range starts, and those after one that the range ends in.
use Rattle.std.specs.Prelude.{ℕ, ◌≡◌, false, List}
use Rattle.base.specs.Lists.{All, Pairwise}
use Rattle.comparable_range.specs.Range.{Bound, Range, non_empty}
use Rattle.comparable_range.specs.Cut.{◌≼◌, start_cut, end_cut}
use Rattle.incremental_progress.specs.Gaps.{void}
use Rattle.commit_durable.specs.Tables.{job_gaps}

-- the gaps end at or before a start
abbrev pub Behind : Bound → List Range → Type 0
Behind b gs = All (λ (g : Range). non_empty (record { start = b; end = g.end }) ≡ false) gs

-- of two gaps in order, the second is void, or starts neither before the first starts nor before it ends
pub data Ahead (g h : Range) : Type 0 where
  is_void : h ≡ void → Ahead g h
  starts_later : start_cut g.start ≼ start_cut h.start → end_cut g.end ≼ start_cut h.start → Ahead g h

-- the gaps of the job s ascend
pub record GapsOrdered (s : List ℕ) : Type 0 where
  pub ordered : Pairwise Ahead (job_gaps s)
