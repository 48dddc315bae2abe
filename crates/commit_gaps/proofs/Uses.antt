-- What callers of `first_gap` and `next_piece` take from the answers.
-- Assumes nothing.
use Prim.Native.Nat.{ℕ}
use native.Mathlib.Omega.{arith}
use mathlib.Core.Path.{◌≡◌}
use mathlib.Core.List.{List}
use lib.ListN.{take, drop}
use Rattle.comparable_range.specs.Range.{Bound, Range, supplied}
use Rattle.comparable_range.specs.Cut.{◌≼◌, start_cut}
use Rattle.comparable_range.specs.declared.Side.{Side}
use Rattle.records.specs.Values.{View}
use Rattle.manifest.specs.Ranges.{effective}
use Rattle.incremental_progress.specs.Entries.{whole, cut, piece_entry}
use Rattle.incremental_progress.specs.Gaps.{pieces, gaps_met}
use Rattle.commit_durable.specs.Tables.{job_gaps, GapsHold}
use Rattle.commit_gaps.specs.Ordered.{Behind}
use Rattle.commit_gaps.specs.declared.piece.Piece.TheVariants.{Whole, Cut}
use Rattle.commit_gaps.specs.Found.{PieceIs, all_of_it, part_of_it, Reached}
use Rattle.commit_gaps.proofs.Passing.{behind_pieces, behind_met, behind_later}

-- the gaps that a start has passed are behind each later start
pub still_behind : (b c : Bound) {s : List ℕ} {m g : ℕ} → start_cut b ≼ start_cut c → Reached b s m g → Behind c (take g (job_gaps s))
still_behind b c {s} {g} h p = behind_later b c (take g (job_gaps s)) h p.behind

-- all pieces of the range lie in the gaps from the first that its start reaches on
module _ (r : Range) {s : List ℕ} {m g : ℕ} (p : Reached r.start s m g) where
  pub reached_pieces : pieces (job_gaps s) r ≡ pieces (drop g (job_gaps s)) r
  reached_pieces = behind_pieces r g (job_gaps s) p.behind

  pub reached_met : {t : List ℕ} → GapsHold s m t → gaps_met 0 (job_gaps s) r ≡ gaps_met g (drop g (job_gaps s)) r
  reached_met q = behind_met r g (job_gaps s) (omega (arith, p.upto, q.count)) p.behind

-- a piece of a view's effective range as an entry
module _ (v : View) {g q : Range} where
  pub whole_entry : PieceIs (effective v) g q Whole → piece_entry v q ≡ whole v
  whole_entry (all_of_it e) = rw e

  pub cut_entry : {a b : Side} → PieceIs (effective v) g q (Cut a b) → piece_entry v q ≡ cut v (supplied (effective v) g a b)
  cut_entry (part_of_it e f) = rw (e, f)
