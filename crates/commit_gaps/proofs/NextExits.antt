-- The exits of `first_gap` and of `next_piece`.
-- Assumes nothing.
use Prim.Native.Nat.{ℕ, ◌+◌, ◌≤◌, ◌<◌}
use native.Mathlib.Omega.{arith}
use native.Mathlib.Numerals.{add-one}
use mathlib.Core.Path.{◌≡◌, refl, sym, ap, ◌∙◌}
use mathlib.Core.Bool.{Bool, true, false, true≢false}
use mathlib.Core.Option.{none, some}
use mathlib.Core.List.{List, [], ◌∷◌, flat_map}
use lib.ListN.{take, drop, drop_of_length-le}
use Rattle.base.specs.Lists.{All-append}
use Rattle.comparable_range.specs.Range.{Bound, Range, non_empty, intersect}
use Rattle.comparable_range.specs.Cut.{◌≼◌, start_cut, end_cut}
use Rattle.comparable_range.proofs.Keyless.{failing_holds_none}
use Rattle.format.specs.Range.{range_in}
use Rattle.format.specs.declared.span.RangeSpan.{RangeSpan}
use Rattle.manifest.specs.Laws.{StartsHeld}
use Rattle.incremental_progress.specs.Gaps.{pieces, gaps_met}
use Rattle.commit_durable.specs.Tables.{job_gaps, GapsHold, GapFound}
use Rattle.commit_gaps.specs.Ordered.{Ahead, GapsOrdered}
use Rattle.commit_gaps.specs.declared.piece.Piece.{Piece}
use Rattle.commit_gaps.specs.declared.piece.Meeting.{Meeting}
use Rattle.commit_gaps.specs.declared.piece.Meeting.TheVariants.{Apart, Past, Last, More}
use Rattle.std.specs.Prelude.{None, Some}
use Rattle.commit_gaps.specs.Found.{Shared, MeetingIs, nothing, ended, ends, goes_on, Reached, NextFound, no_piece, a_piece}
use Rattle.commit_gaps.proofs.Places.{take_more, pairs_at}
use Rattle.commit_gaps.proofs.Passing.{all_clear, none_met, past_none, past_clear, ended_clear}

-- ---- first_gap
module _ {b : Bound} {s : List ℕ} {m g : ℕ} where
  pub reached_next : {r : RangeSpan} {t : Bool} → g < m → Reached b s m g → GapFound s g r → t ≡ non_empty (record { start = b; end = (range_in s r.start r.end).end }) → t ≡ false → Reached b s m (g + 1)
  reached_next {r} h p f e q =
      record {
        upto = omega arith;
        behind = rw (take_more g (job_gaps s) f.is) (All-append _ (take g (job_gaps s)) (range_in s r.start r.end ∷ []) p.behind (sym e ∙ q, tt));
      }

-- ---- what a meeting says
module _ {r g : Range} where
  met_apart : MeetingIs r g Apart → intersect r g ≡ none
  met_apart (nothing n) = n

  met_past : MeetingIs r g Past → end_cut r.end ≼ start_cut g.start
  met_past (ended n) = n

  met_last : {p : Piece} → MeetingIs r g (Last p) → Shared r g p × (end_cut r.end ≼ end_cut g.end)
  met_last (ends n k) = (n, k)

  met_more : {p : Piece} → MeetingIs r g (More p) → Shared r g p
  met_more (goes_on n) = n

-- ---- the first of some gaps, which is number n
module _ (n : ℕ) (r : Range) {g : Range} {gs more : List Range} (e : gs ≡ g ∷ more) where
  none_here : intersect r g ≡ none → (pieces gs r ≡ pieces more r) × (gaps_met n gs r ≡ gaps_met (n + 1) more r)
  unfolding pieces gaps_met flat_map
  none_here i = (rw (e, i), rw (e, i, add-one n))

  some_here : {q : Range} → intersect r g ≡ some q → (pieces gs r ≡ q ∷ pieces more r) × (gaps_met n gs r ≡ n ∷ gaps_met (n + 1) more r)
  unfolding pieces gaps_met flat_map
  some_here i = (rw (e, i), rw (e, i, add-one n))

-- ---- next_piece
pub record Seeking (s : List ℕ) (r : Range) (m from g : ℕ) : Type 0 where
  pub begun : from ≤ g
  pub upto : g ≤ m
  pub same : pieces (drop from (job_gaps s)) r ≡ pieces (drop g (job_gaps s)) r
  pub same_met : gaps_met from (drop from (job_gaps s)) r ≡ gaps_met g (drop g (job_gaps s)) r

-- after the last gap there is nothing
past_all : {s : List ℕ} {m : ℕ} {t : List ℕ} (r : Range) (g : ℕ) → GapsHold s m t → m ≤ g → (pieces (drop g (job_gaps s)) r ≡ []) × (gaps_met g (drop g (job_gaps s)) r ≡ [])
unfolding pieces gaps_met flat_map
past_all {s} r g q h =
    let d : drop g (job_gaps s) ≡ [] = drop_of_length-le (job_gaps s) {i = g} (omega (arith, q.count)) in
    (rw d, rw d)

module _ {s : List ℕ} {r : Range} {m from g : ℕ} (p : Seeking s r m from g) where
  pub sought_all : {t : List ℕ} → GapsHold s m t → m ≤ g → NextFound s r m from None
  sought_all q h =
      let d = past_all r g q h in
      no_piece (record { none_left = p.same ∙ d.0; none_met = p.same_met ∙ d.1 })

  module _ (h : g < m) {b : RangeSpan} (f : GapFound s g b) {o : Meeting} (w : MeetingIs r (range_in s b.start b.end) o) where
    pub sought_apart : o ≡ Apart → Seeking s r m from (g + 1)
    sought_apart e =
        let n = none_here g r f.is (met_apart (rw e at w)) in
        record {
          begun = omega (arith, p.begun);
          upto = omega arith;
          same = p.same ∙ n.0;
          same_met = p.same_met ∙ n.1;
        }

    pub sought_past : StartsHeld r → GapsOrdered s → o ≡ Past → NextFound s r m from None
    sought_past k q e =
        let l = met_past (rw e at w) in
        let n = none_here g r f.is (past_none r (range_in s b.start b.end) l) in
        let c = past_clear r (range_in s b.start b.end) (drop (g + 1) (job_gaps s)) k l (pairs_at Ahead g (job_gaps s) q.ordered f.is) in
        no_piece (record {
          none_left = p.same ∙ n.0 ∙ all_clear r (drop (g + 1) (job_gaps s)) c;
          none_met = p.same_met ∙ n.1 ∙ none_met r (g + 1) (drop (g + 1) (job_gaps s)) c;
        })

    pub sought_more : {q : Piece} → o ≡ More q → NextFound s r m from (Some (record { gap = g; next = g + 1; bounds = b; piece = q }))
    sought_more e =
        let y = met_more (rw e at w) in
        let n = some_here g r f.is y.lies in
        a_piece (record {
          from = p.begun;
          onward = omega arith;
          upto = omega arith;
          inside = record { start = f.start; end = f.end };
          piece = y.piece;
          is = y.is;
          pieces_are = p.same ∙ n.0;
          gaps_are = p.same_met ∙ n.1;
        })

    pub sought_last : {t : List ℕ} {q : Piece} → StartsHeld r → GapsOrdered s → GapsHold s m t → o ≡ Last q → NextFound s r m from (Some (record { gap = g; next = m; bounds = b; piece = q }))
    sought_last k q v e =
        let l = met_last (rw e at w) in
        let y = l.0 in
        let n = some_here g r f.is y.lies in
        let c = ended_clear r (range_in s b.start b.end) (drop (g + 1) (job_gaps s)) k l.1 (pairs_at Ahead g (job_gaps s) q.ordered f.is) in
        let d = past_all r m v (omega arith) in
        let rest : pieces (drop (g + 1) (job_gaps s)) r ≡ pieces (drop m (job_gaps s)) r = all_clear r (drop (g + 1) (job_gaps s)) c ∙ sym d.0 in
        let rest-met : gaps_met (g + 1) (drop (g + 1) (job_gaps s)) r ≡ gaps_met m (drop m (job_gaps s)) r = none_met r (g + 1) (drop (g + 1) (job_gaps s)) c ∙ sym d.1 in
        a_piece (record {
          from = p.begun;
          onward = h;
          upto = omega arith;
          inside = record { start = f.start; end = f.end };
          piece = y.piece;
          is = y.is;
          pieces_are = p.same ∙ n.0 ∙ ap (λ l. y.piece ∷ l) rest;
          gaps_are = p.same_met ∙ n.1 ∙ ap (λ l. g ∷ l) rest-met;
        })

-- ---- what the calls ask for
pub held_passes : (r : Range) → StartsHeld r → non_empty r ≡ true
held_passes r s = go (non_empty r) refl
  where
    go : (t : Bool) → non_empty r ≡ t → t ≡ true
    go true e = refl
    go false e = absurd (true≢false (sym s.held ∙ failing_holds_none r e s.key))

pub ruleset next_exits = (sought_all, sought_apart, sought_past, sought_more, sought_last, held_passes)
