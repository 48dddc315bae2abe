-- What it means that the pieces of a view are planned.
use Rattle.std.specs.Prelude.{ℕ, ◌*◌, ◌≤◌, List, [], ◌∷◌, map}
use Rattle.comparable_range.specs.Range.{Range}
use Rattle.comparable_range.specs.declared.Kind.TheVariants.{Unbounded}
use Rattle.comparable_range.specs.declared.Side.{Side}
use Rattle.format.specs.Range.{range_in}
use Rattle.format.specs.declared.range.BoundSpan.{BoundSpan}
use Rattle.format.specs.declared.span.RangeSpan.{RangeSpan}
use Rattle.records.specs.Values.{View}
use Rattle.manifest.specs.Ranges.{effective}
use Rattle.incremental_progress.specs.Entries.{piece_entry}
use Rattle.incremental_progress.specs.Gaps.{gap_entries, gaps_met}
use Rattle.commit_durable.specs.Tables.{job_gaps}
use Rattle.commit_rows.specs.declared.rows.Form.TheVariants as form
use Rattle.commit_rows.specs.declared.rows.Row.{Row}
use Rattle.commit_gaps.specs.Found.{Inside, PieceIs}
use Rattle.commit_gaps.specs.declared.piece.Piece.{Piece}
use Rattle.commit_entries.specs.Planned.{PlannedMore}
use Rattle.commit_entries.specs.declared.Plan.{Plan}
use Rattle.commit_plan.specs.Held.{view_at}
use Rattle.commit_plan.specs.declared.held.ViewHeld.{ViewHeld}

pub record RangeSmall (r : RangeSpan) : Type 0 where
  pub start : r.start.len ≤ 262144
  pub end : r.end.len ≤ 262144

-- a piece in gap g comes before the outputs of the interval after that gap
abbrev pub gap_bucket : ℕ → ℕ
gap_bucket g = g * 2

-- the row of a view that stays as it is, and that of one which is cut
abbrev open_span : BoundSpan
open_span = record { kind = Unbounded; at = 0; len = 0 }

abbrev pub whole_row : ViewHeld → ℕ → Row
whole_row h gap = record { form = form.Whole; bucket = gap_bucket gap; at = h.at; past = h.past; start = open_span; end = open_span; ten = 0 }

abbrev pub cut_row : ViewHeld → ℕ → Side → Side → BoundSpan → BoundSpan → Row
cut_row h gap a b s e = record { form = form.Cut a b; bucket = gap_bucket gap; at = h.at; past = h.end; start = s; end = e; ten = 0 }

-- what is left of a view is planned
abbrev pub PlannedView : List ℕ → List ℕ → List ℕ → View → Plan → List ℕ → Plan → List ℕ → Type 0
PlannedView image job ids v p d q t =
    PlannedMore image job ids (gap_entries (job_gaps job) v) (map gap_bucket (gaps_met 0 (job_gaps job) (effective v))) p d q t

-- the piece q of the view in a gap with some bounds, which stand in the job
abbrev pub PlannedPiece : List ℕ → List ℕ → ViewHeld → ℕ → RangeSpan → Piece → Plan → List ℕ → Plan → List ℕ → Type 0
PlannedPiece image ids h gap bounds piece p d r t =
    (job : List ℕ) (q : Range)
    → Inside job bounds
    → PieceIs (effective (view_at image h.at)) (range_in job bounds.start bounds.end) q piece
    → PlannedMore image job ids (piece_entry (view_at image h.at) q ∷ []) (gap_bucket gap ∷ []) p d r t
