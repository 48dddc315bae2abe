-- What the loop over a view's pieces keeps: those before a gap are planned.
-- Assumes nothing.
use Prim.Native.Nat.{ℕ, ◌+◌, ◌-◌, ◌≤◌, ◌<◌}
use native.Mathlib.Omega.{arith}
use mathlib.Core.Path.{◌≡◌, sym, subst, ◌∙◌}
use mathlib.Core.List.{List, [], ◌∷◌, ◌++◌, map, append-nil, append_assoc}
use lib.ListN.{length, drop, length-append}
use Rattle.base.specs.Lists.{map_append}
use Rattle.comparable_range.specs.Range.{Range}
use Rattle.format.specs.Range.{range_in}
use Rattle.format.specs.declared.span.RangeSpan.{RangeSpan}
use Rattle.manifest.specs.Ranges.{effective}
use Rattle.manifest.specs.Laws.{StartsHeld}
use Rattle.manifest.proofs.ViewRanges.{effective_start_is_held}
use Rattle.incremental_progress.specs.Entries.{piece_entry}
use Rattle.incremental_progress.specs.Gaps.{pieces, gap_entries, gaps_met}
use Rattle.commit_durable.specs.Tables.{job_gaps, GapsHold}
use Rattle.commit_gaps.specs.Ordered.{GapsOrdered}
use Rattle.commit_gaps.specs.Found.{Inside, Reached, NoneFrom, PieceAt, NextFound, no_piece, a_piece}
use Rattle.commit_gaps.specs.declared.piece.Piece.{Piece}
use Rattle.commit_gaps.specs.declared.next.NextPiece.{NextPiece}
use Rattle.std.specs.Prelude.{Option as Optional, None, Some}
use Rattle.commit_gaps.proofs.Uses.{reached_pieces, reached_met}
use Rattle.commit_entries.specs.Planned.{PlanReady, PlannedMore}
use Rattle.commit_entries.specs.declared.Plan.{Plan}
use Rattle.commit_entries.proofs.Planning.{planned_none, planned_then, ready_most}
use Rattle.commit_plan.specs.Held.{view_at, ViewReady}
use Rattle.commit_plan.specs.Views.{RangeSmall, gap_bucket, PlannedPiece}
use Rattle.commit_plan.specs.declared.held.ViewHeld.{ViewHeld}

abbrev shown : List ℕ → ViewHeld → Range
shown image h = effective (view_at image h.at)

the_piece :
    {s : List ℕ} {r : Range} {m g : ℕ} {n : NextPiece}
    → NextFound s r m g (Some n)
    → PieceAt s r m g n.gap n.next n.bounds n.piece
the_piece (a_piece w) = w

nothing_there : {s : List ℕ} {r : Range} {m g : ℕ} → NextFound s r m g None → NoneFrom s r g
nothing_there (no_piece w) = w

pub record ViewSeen (image job ids gap_table : List ℕ) (m : ℕ) (h : ViewHeld) (p : Plan) (d : List ℕ) (g : ℕ) (q : Plan) (t : List ℕ) : Type 0 where
  pub view : ViewReady image h
  pub small : length job ≤ 262144
  pub hold : GapsHold job m gap_table
  pub ordered : GapsOrdered job
  pub upto : g ≤ m
  pub done : List Range
  pub met : List ℕ
  pub pieces_are : pieces (job_gaps job) (shown image h) ≡ done ++ pieces (drop g (job_gaps job)) (shown image h)
  pub gaps_are : gaps_met 0 (job_gaps job) (shown image h) ≡ met ++ gaps_met g (drop g (job_gaps job)) (shown image h)
  pub planned : PlannedMore image job ids (map (piece_entry (view_at image h.at)) done) (map gap_bucket met) p d q t
  pub few : length done ≤ g
  pub ready : PlanReady ids (549755813888 + length done) q

pub view_begin :
    (image job ids gap_table : List ℕ) (m : ℕ) (h : ViewHeld) (p : Plan) (d : List ℕ)
    → ViewReady image h
    → length job ≤ 262144
    → GapsHold job m gap_table
    → GapsOrdered job
    → Reached (effective (view_at image h.at)).start job m h.gap
    → PlanReady ids 549755813888 p
    → ViewSeen image job ids gap_table m h p d h.gap p d
view_begin image job ids gap_table m h p d y l k o r z =
    record {
      view = y;
      small = l;
      hold = k;
      ordered = o;
      upto = r.upto;
      done = [];
      met = [];
      pieces_are = reached_pieces (shown image h) r;
      gaps_are = reached_met (shown image h) r k;
      planned = planned_none image job ids p d;
      few = omega arith;
      ready = ready_most z (omega (arith, z.few));
    }

module _ {image job ids gap_table : List ℕ} {m : ℕ} {h : ViewHeld} {p : Plan} {d : List ℕ} {g : ℕ} {q : Plan} {t : List ℕ} (x : ViewSeen image job ids gap_table m h p d g q t) where
  pub view_inside : Inside image h.range
  view_inside = record { start = x.view.held.start; end = x.view.held.end }

  pub view_held : StartsHeld (range_in image h.range.start h.range.end)
  view_held = rw x.view.held.range_is (effective_start_is_held (view_at image h.at) x.view.passes)

  pub view_plan : PlanReady ids 1099511627776 q
  view_plan = ready_most x.ready (omega (arith, x.ready.few, x.few, x.upto, x.hold.most))

  ended : pieces (drop g (job_gaps job)) (shown image h) ≡ [] → gaps_met g (drop g (job_gaps job)) (shown image h) ≡ []
      → PlannedMore image job ids (gap_entries (job_gaps job) (view_at image h.at)) (map gap_bucket (gaps_met 0 (job_gaps job) (shown image h))) p d q t
  unfolding gap_entries
  ended e f =
      let a : pieces (job_gaps job) (shown image h) ≡ x.done = x.pieces_are ∙ rw e (append-nil x.done) in
      let b : gaps_met 0 (job_gaps job) (shown image h) ≡ x.met = x.gaps_are ∙ rw f (append-nil x.met) in
      rw (a, b) x.planned

  module _ {r : Optional NextPiece} (f : NextFound job (range_in image h.range.start h.range.end) m g r) where
    found : NextFound job (shown image h) m g r
    found = subst (λ (s : Range). NextFound job s m g r) x.view.held.range_is f

    pub view_none : r ≡ None → PlannedMore image job ids (gap_entries (job_gaps job) (view_at image h.at)) (map gap_bucket (gaps_met 0 (job_gaps job) (effective (view_at image h.at)))) p d q t
    view_none e = let w = nothing_there (rw e at found) in ended w.none_left w.none_met

    module _ {c : NextPiece} (e : r ≡ Some c) where
      at : PieceAt job (shown image h) m g c.gap c.next c.bounds c.piece
      at = the_piece (rw e at found)

      pub view_gap : c.gap ≤ 65
      view_gap = omega (arith, at.onward, at.upto, x.hold.most)

      pub view_bounds : RangeSmall c.bounds
      view_bounds = record { start = omega (arith, x.small, at.inside.start); end = omega (arith, x.small, at.inside.end) }

      pub view_less : m - c.next < m - g
      view_less = omega (arith, at.from, at.onward, at.upto)

      pub view_next : c.next ≤ m
      view_next = at.upto

      module _ {s : Plan} {u : List ℕ} (w : PlannedPiece image ids h c.gap c.bounds c.piece q t s u) where
        one : PlannedMore image job ids (piece_entry (view_at image h.at) at.piece ∷ []) (gap_bucket c.gap ∷ []) q t s u
        one = w job at.piece at.inside at.is

        pub view_more_same : length u ≡ length d
        view_more_same = one.same ∙ x.planned.same

        pub view_onward : ViewSeen image job ids gap_table m h p d c.next s u
        view_onward =
            let z = one.ready (549755813888 + length x.done) x.ready in
            let n : length (x.done ++ (at.piece ∷ [])) ≡ length x.done + 1 = length-append x.done (at.piece ∷ []) in
            record {
              view = x.view;
              small = x.small;
              hold = x.hold;
              ordered = x.ordered;
              upto = at.upto;
              done = x.done ++ (at.piece ∷ []);
              met = x.met ++ (c.gap ∷ []);
              pieces_are = x.pieces_are ∙ rw at.pieces_are (sym (append_assoc x.done (at.piece ∷ []) (pieces (drop c.next (job_gaps job)) (shown image h))));
              gaps_are = x.gaps_are ∙ rw at.gaps_are (sym (append_assoc x.met (c.gap ∷ []) (gaps_met c.next (drop c.next (job_gaps job)) (shown image h))));
              planned = rw (map_append (piece_entry (view_at image h.at)) x.done (at.piece ∷ []), map_append gap_bucket x.met (c.gap ∷ [])) (planned_then image job ids x.planned one);
              few = omega (arith, n, x.few, at.from, at.onward);
              ready = ready_most z (omega (arith, n, z.few));
            }

pub ruleset view_exits = (view_begin, view_inside, view_held, view_plan, view_none, view_gap, view_bounds, view_less, view_next, view_more_same, view_onward)
