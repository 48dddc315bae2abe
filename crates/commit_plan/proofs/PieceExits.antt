-- The exits of the functions that plan one piece of a view.
-- Assumes nothing.
use Prim.Native.Nat.{ℕ}
use native.Mathlib.Omega.{arith}
use mathlib.Core.Path.{◌≡◌, refl, sym, ap, ap₂, ◌∙◌}
use mathlib.Core.List.{List, [], ◌∷◌}
use lib.ListN.{length, take, drop}
use Rattle.comparable_range.specs.Range.{Bound, Range, of, supplied}
use Rattle.comparable_range.specs.declared.Side.{Side}
use Rattle.comparable_range.specs.declared.Side.TheVariants.{First, Second}
use Rattle.format.specs.Range.{bound_in, range_in, BoundInside, write_range}
use Rattle.format.specs.declared.range.BoundSpan.{BoundSpan}
use Rattle.format.specs.declared.span.RangeSpan.{RangeSpan}
use Rattle.records.specs.Values.{View}
use Rattle.records.specs.declared.ids.ViewId.{ViewId}
use Rattle.manifest.specs.Ranges.{effective}
use Rattle.incremental_progress.specs.Entries.{piece_entry}
use Rattle.commit_rows.specs.Bytes.{row_bytes, row_range, row_length}
use Rattle.commit_rows.specs.declared.rows.Row.{Row}
use Rattle.commit_gaps.specs.Found.{Inside, PieceIs}
use Rattle.commit_gaps.specs.declared.piece.Piece.{Piece}
use Rattle.commit_gaps.specs.declared.piece.Piece.TheVariants.{Whole, Cut}
use Rattle.commit_gaps.proofs.Uses.{whole_entry, cut_entry}
use Rattle.commit_entries.specs.Planned.{Added, AddedCut, PlannedMore, WholeRow, CutRow}
use Rattle.commit_entries.specs.declared.Plan.{Plan}
use Rattle.commit_entries.proofs.Planning.{planned_whole, planned_cut}
use Rattle.commit_entries.proofs.RowBytes.{cut_view_bytes, cut_entry_bytes, new_id_bytes_lem, range_length_lem, cut_length}
use Rattle.commit_plan.specs.Held.{view_at, ViewReady}
use Rattle.commit_plan.specs.Views.{gap_bucket, whole_row, cut_row, PlannedPiece}
use Rattle.commit_plan.specs.declared.held.ViewHeld.{ViewHeld}

side_inside : (a : Side) (s t : List ℕ) (x y : BoundSpan) → BoundInside s x → BoundInside t y → BoundInside (of a s t) (of a x y)
side_inside First s t x y h k = h
side_inside Second s t x y h k = k

side_bound : (a : Side) (s t : List ℕ) (x y : BoundSpan) → bound_in (of a s t) (of a x y) ≡ of a (bound_in s x) (bound_in t y)
side_bound First s t x y = refl
side_bound Second s t x y = refl

module _ (s : List ℕ) (h : ViewHeld) (y : ViewReady s h) (gap : ℕ) where
  abbrev v : View
  v = view_at s h.at

  whole_row_lem : (ids job : List ℕ) → WholeRow s job ids v (gap_bucket gap) (whole_row h gap)
  unfolding row_bytes row_length
  whole_row_lem ids job =
      record {
        inside = record { id = y.held.id; past = y.held.within; ten = tt; start = omega arith; end = omega arith };
        bytes = y.held.bytes;
        long = omega (arith, y.held.long);
        bucket = refl;
      }

  pub piece_whole :
      (ids : List ℕ) (bounds : RangeSpan) (p : Plan) (d : List ℕ) {q : Plan} {t : List ℕ} {x : Piece} {r : Row}
      → x ≡ Whole
      → r ≡ whole_row h gap
      → Added r p d q t
      → PlannedPiece s ids h gap bounds x p d q t
  piece_whole ids bounds p d {q} {t} e f a job g i z =
      let u : PieceIs (effective v) (range_in job bounds.start bounds.end) g Whole = rw e at z in
      rw (whole_entry v u) (planned_whole s job ids v (gap_bucket gap) (whole_row h gap) (whole_row_lem ids job) p d q t (rw f at a))

  module _ (bounds : RangeSpan) (a b : Side) (job : List ℕ) (i : Inside job bounds) where
    abbrev g : Range
    g = range_in job bounds.start bounds.end

    abbrev range : Range
    range = record { start = bound_in (of a s job) (of a h.range.start bounds.start); end = bound_in (of b s job) (of b h.range.end bounds.end) }

    range_is : range ≡ supplied (effective v) g a b
    range_is =
        let e : bound_in s h.range.start ≡ (effective (view_at s h.at)).start = ap (λ (q : Range). q.start) y.held.range_is in
        let f : bound_in s h.range.end ≡ (effective (view_at s h.at)).end = ap (λ (q : Range). q.end) y.held.range_is in
        ap₂ (λ (m n : Bound). record { start = m; end = n })
        (side_bound a s job h.range.start bounds.start ∙ ap (λ (x : Bound). of a x (bound_in job bounds.start)) e)
        (side_bound b s job h.range.end bounds.end ∙ ap (λ (x : Bound). of b x (bound_in job bounds.end)) f)

    start_inside : BoundInside (of a s job) (of a h.range.start bounds.start)
    start_inside = side_inside a s job h.range.start bounds.start y.held.start i.start

    end_inside : BoundInside (of b s job) (of b h.range.end bounds.end)
    end_inside = side_inside b s job h.range.end bounds.end y.held.end i.end

    cut_is : (ids : List ℕ) → CutRow s job ids v (supplied (effective v) g a b) (gap_bucket gap) (cut_row h gap a b (of a h.range.start bounds.start) (of b h.range.end bounds.end))
    unfolding row_bytes row_length row_range
    cut_is ids =
        record {
          inside = λ ten k. record { id = y.held.table_id; past = y.held.table_within; ten = k; start = start_inside; end = end_inside };
          bytes = λ ten k.
              rw (y.held.table_bytes, new_id_bytes_lem s h.at ids ten _ y.held.id_is, range_is)
              (sym (cut_view_bytes v (supplied (effective v) g a b) (take 10 (drop ten ids))));
          long =
              let r : length (write_range (supplied (effective v) g a b)) ≡ _
              = ap (λ q. length (write_range q)) (sym range_is)
              ∙ range_length_lem (of a s job) (of b s job) (of a h.range.start bounds.start) (of b h.range.end bounds.end) start_inside end_inside in
              rw (cut_entry_bytes, cut_length) (omega (arith, r, y.held.table_long, y.held.id_long));
          bucket = refl;
        }

    pub piece_cut :
        (ids : List ℕ) (p : Plan) (d : List ℕ) (q : Range) {o : Plan} {t : List ℕ} {old : ViewId}
        → old.0 ≡ take 16 (drop h.at s)
        → PieceIs (effective v) g q (Cut a b)
        → AddedCut old ids (cut_row h gap a b (of a h.range.start bounds.start) (of b h.range.end bounds.end)) p d o t
        → PlannedMore s job ids (piece_entry v q ∷ []) (gap_bucket gap ∷ []) p d o t
    piece_cut ids p d q {o} {t} {old} e z x =
        let w : old ≡ v.id = ap (λ n. record { 0 = n }) (e ∙ y.held.id_is) in
        rw (cut_entry v z) (planned_cut s job ids v (supplied (effective v) g a b) (gap_bucket gap) (cut_row h gap a b (of a h.range.start bounds.start) (of b h.range.end bounds.end)) (cut_is ids) p d o t (rw w at x))

  pub piece_cut_planned :
      (ids : List ℕ) (bounds : RangeSpan) (p : Plan) (d : List ℕ) {o : Plan} {t : List ℕ} {x : Piece} {a b : Side} {old : ViewId} {r : Row}
      → x ≡ Cut a b
      → old.0 ≡ take 16 (drop h.at s)
      → r ≡ cut_row h gap a b (of a h.range.start bounds.start) (of b h.range.end bounds.end)
      → AddedCut old ids r p d o t
      → PlannedPiece s ids h gap bounds x p d o t
  piece_cut_planned ids bounds p d {o} {t} {a = a} {b = b} e i f x job q j z = piece_cut bounds a b job j ids p d q i (rw e at z) (rw f at x)

pub ruleset piece_exits = (piece_whole, piece_cut_planned)
