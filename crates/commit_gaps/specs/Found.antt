-- What the code's answers say: of a range and one gap, and of the next piece of a range.
use Rattle.std.specs.Prelude.{ℕ, ◌≤◌, ◌<◌, ◌≡◌, true, false, List, [], ◌∷◌, take, drop}
use Rattle.std.proofs.Math.Option.{none, some}
use Rattle.key.specs.Order.{is_less}
use Rattle.comparable_range.specs.Range.{Bound, Range, non_empty, cmp_bound, supplied, start_side, intersect}
use Rattle.comparable_range.specs.Cut.{◌≼◌, start_cut, end_cut}
use Rattle.comparable_range.specs.declared.Side.{Side}
use Rattle.format.specs.Range.{range_in, BoundInside}
use Rattle.format.specs.declared.span.RangeSpan.{RangeSpan}
use Rattle.incremental_progress.specs.Views.{same_range}
use Rattle.incremental_progress.specs.Gaps.{pieces, gaps_met}
use Rattle.commit_durable.specs.Tables.{job_gaps}
use Rattle.commit_gaps.specs.Ordered.{Behind}
use Rattle.commit_gaps.specs.declared.piece.Piece.{Piece}
use Rattle.commit_gaps.specs.declared.piece.Piece.TheVariants.{Whole, Cut}
use Rattle.commit_gaps.specs.declared.piece.Meeting.{Meeting}
use Rattle.commit_gaps.specs.declared.piece.Meeting.TheVariants.{Apart, Past, Last, More}
use Rattle.commit_gaps.specs.declared.next.NextPiece.{NextPiece}
use Rattle.std.specs.Prelude.{Option as Optional, None, Some}

pub record Inside (s : List ℕ) (r : RangeSpan) : Type 0 where
  pub start : BoundInside s r.start
  pub end : BoundInside s r.end

-- ---- one gap
-- r, which passes the test, starts where the gap g does or after that, and the side supplies the start of what they share
pub record StartsWithin (r g : Range) (side : Side) : Type 0 where
  pub passes : non_empty r ≡ true
  pub later : is_less (cmp_bound true r.start g.start) ≡ false
  pub is : side ≡ start_side r.start g.start

-- q, a piece of r in the gap g: all of r, or a range whose bounds are r's or the gap's
pub data PieceIs (r g q : Range) : Piece → Type 0 where
  all_of_it : same_range q r ≡ true → PieceIs r g q Whole
  part_of_it : {a b : Side} → same_range q r ≡ false → q ≡ supplied r g a b → PieceIs r g q (Cut a b)

-- r has a piece in the gap g
pub record Shared (r g : Range) (p : Piece) : Type 0 where
  pub piece : Range
  pub lies : intersect r g ≡ some piece
  pub is : PieceIs r g piece p

pub data MeetingIs (r g : Range) : Meeting → Type 0 where
  nothing : intersect r g ≡ none → MeetingIs r g Apart
  ended : end_cut r.end ≼ start_cut g.start → MeetingIs r g Past
  ends : {p : Piece} → Shared r g p → end_cut r.end ≼ end_cut g.end → MeetingIs r g (Last p)
  goes_on : {p : Piece} → Shared r g p → MeetingIs r g (More p)

-- ---- all gaps, m of the job s
-- all gaps before g end before a start
pub record Reached (b : Bound) (s : List ℕ) (m g : ℕ) : Type 0 where
  pub upto : g ≤ m
  pub behind : Behind b (take g (job_gaps s))

-- no piece of r lies in the gaps from g on
pub record NoneFrom (s : List ℕ) (r : Range) (g : ℕ) : Type 0 where
  pub none_left : pieces (drop g (job_gaps s)) r ≡ []
  pub none_met : gaps_met g (drop g (job_gaps s)) r ≡ []

-- the first piece of r from gap g on lies in gap k, and all others in the gaps from `next` on
pub record PieceAt (s : List ℕ) (r : Range) (m g k next : ℕ) (bounds : RangeSpan) (p : Piece) : Type 0 where
  pub from : g ≤ k
  pub onward : k < next
  pub upto : next ≤ m
  pub inside : Inside s bounds
  pub piece : Range
  pub is : PieceIs r (range_in s bounds.start bounds.end) piece p
  pub pieces_are : pieces (drop g (job_gaps s)) r ≡ piece ∷ pieces (drop next (job_gaps s)) r
  pub gaps_are : gaps_met g (drop g (job_gaps s)) r ≡ k ∷ gaps_met next (drop next (job_gaps s)) r

pub data NextFound (s : List ℕ) (r : Range) (m g : ℕ) : Optional NextPiece → Type 0 where
  no_piece : NoneFrom s r g → NextFound s r m g None
  a_piece : {n : NextPiece} → PieceAt s r m g n.gap n.next n.bounds n.piece → NextFound s r m g (Some n)
