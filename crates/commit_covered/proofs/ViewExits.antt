-- The exits of `views_covered`.
-- Assumes nothing.
use Prim.Native.Nat.{ℕ, ◌+◌, ◌≤◌, ◌<◌}
use native.Mathlib.Omega.{arith}
use mathlib.Core.Path.{◌≡◌, refl, sym, ap, ◌∙◌}
use mathlib.Core.Bool.{Bool, true, false, not, ◌&&◌, ◌||◌}
use mathlib.Core.List.{List, [], ◌∷◌, ◌++◌}
use lib.Dec.{T}
use Rattle.std.proofs.lemmas.Bool.{not-true, not-false}
use lib.ListN.{take, drop, drop_of_length-le}
use lib.Seq.{drop-drop, drop_at}
use Rattle.base.specs.Lists.{All, All-map, All-of}
use Rattle.comparable_range.specs.Range.{Range}
use Rattle.comparable_range.specs.Cut.{◌≼◌}
use Rattle.format.specs.Range.{bound_in, range_in}
use Rattle.format.specs.declared.span.RangeSpan.{RangeSpan}
use Rattle.records.specs.Form.{read_many}
use Rattle.records.specs.Found.{is_got, values_of}
use Rattle.records.specs.Values.{Table, View, Part}
use Rattle.records.specs.Layouts.{view}
use Rattle.records.specs.Spans.{view_in}
use Rattle.records.specs.There.{ViewThere}
use Rattle.records.specs.declared.ids.TableId.{TableId}
use Rattle.records.specs.declared.views.ViewSpan.{ViewSpan}
use Rattle.records.proofs.Walk.{Walk, walk_begin, walk_all, walk_here, walk_ahead, walk_onward}
use Rattle.manifest.specs.Laws.{StartsHeld}
use Rattle.manifest.specs.Ranges.{effective}
use Rattle.manifest.specs.Checks.{all, table_passes}
use Rattle.manifest.specs.Spans.{EffectiveFound}
use Rattle.manifest.proofs.ViewRanges.{effective_start_is_held}
use Rattle.incremental_progress.specs.Views.{start}
use Rattle.incremental_progress.specs.Gaps.{pieces}
use Rattle.incremental_progress.specs.Checks.{nothing_left}
use Rattle.incremental_progress.specs.Jobs.{among, outputs, is_output}
use Rattle.incremental_progress.proofs.Checks.{all_each, sorted}
use Rattle.commit_durable.specs.Tables.{job_of, job_gaps}
use Rattle.commit_gaps.specs.Ordered.{Behind}
use Rattle.commit_gaps.specs.Found.{Inside, Reached, NoneFrom, PieceAt, NextFound, no_piece, a_piece}
use Rattle.commit_gaps.specs.declared.piece.Piece.{Piece}
use Rattle.commit_gaps.specs.declared.next.NextPiece.{NextPiece}
use Rattle.std.specs.Prelude.{Option as Optional, None, Some}
use Rattle.commit_gaps.proofs.Places.{all_at, pairs_at}
use Rattle.commit_gaps.proofs.Passing.{behind_later}
use Rattle.commit_gaps.proofs.Uses.{reached_pieces}
use Rattle.commit_covered.specs.Covered.{ViewsHere, covered_in, views_covered}
use Rattle.commit_covered.specs.Kept.{id_among}

-- ---- one view
among_id : (x : TableId) (t : Table) → x.0 ≡ t.id.0 → (ts : List Table) → id_among x ts ≡ among t ts
unfolding id_among among
among_id x t e [] = refl
among_id x t e (u ∷ ts) = rw (among_id x t e ts, e)

covered_cons : (gs : List Range) (ps : List Part) (v : View) (vs : List View) → views_covered gs ps (v ∷ vs) ≡ ((not (is_output ps v.table) || covered_in gs v) && views_covered gs ps vs)
unfolding views_covered all
covered_cons gs ps v vs = refl

covered_none : (gs : List Range) (ps : List Part) → views_covered gs ps [] ≡ true
unfolding views_covered all
covered_none gs ps = refl

next_none : {s : List ℕ} {r : Range} {m g : ℕ} → NextFound s r m g None → NoneFrom s r g
next_none (no_piece p) = p

next_piece : {s : List ℕ} {r : Range} {m g : ℕ} {n : NextPiece} → NextFound s r m g (Some n) → PieceAt s r m g n.gap n.next n.bounds n.piece
next_piece (a_piece p) = p

abbrev views_at : List ℕ → ℕ → ℕ → List View
views_at s first n = values_of (read_many view.read n (drop first s))

-- ---- views_covered
pub record ViewsSeen (s : List ℕ) (first n : ℕ) (job : List ℕ) (m g seen at : ℕ) : Type 0 where
  pub vs : List View
  pub walk : Walk view.read s first n seen at vs
  pub here : ViewsHere s first n
  pub upto : g ≤ m
  pub behind : All (λ w. Behind (effective w).start (take g (job_gaps job))) (drop seen (values_of (read_many view.read n (drop first s))))
  pub same : views_covered (job_gaps job) (job_of job).parts (values_of (read_many view.read n (drop first s))) ≡ views_covered (job_gaps job) (job_of job).parts (drop seen (values_of (read_many view.read n (drop first s))))

pub seen_none : (s : List ℕ) (first n : ℕ) (job : List ℕ) (m : ℕ) → ViewsHere s first n → ViewsSeen s first n job m 0 0 first
seen_none s first n job m h =
    record {
      vs = [];
      walk = walk_begin view.read s first n h.inside h.there;
      here = h;
      upto = omega arith;
      behind = All-of (λ w. tt) (views_at s first n);
      same = refl;
    }

module _ {s : List ℕ} {first n : ℕ} {job : List ℕ} {m g seen at : ℕ} (p : ViewsSeen s first n job m g seen at) where
  pub seen_all : n ≤ seen → true ≡ views_covered (job_gaps job) (job_of job).parts (values_of (read_many view.read n (drop first s)))
  seen_all h =
      let e = walk_all p.walk h in
      let d : drop seen (views_at s first n) ≡ [] = rw e (drop_of_length-le p.vs {i = seen} (omega (arith, p.walk.count))) in
      sym (p.same ∙ ap (views_covered (job_gaps job) (job_of job).parts) d ∙ covered_none (job_gaps job) (job_of job).parts)

  module _ (h : seen < n) where
    pub seen_here : T (is_got (view.read (drop at s)))
    seen_here = walk_here p.walk h

    module _ {v : ViewSpan} (f : ViewThere s (view.read (drop at s)) v) where
      next_is : drop seen (views_at s first n) ≡ view_in s v ∷ drop (seen + 1) (views_at s first n)
      next_is =
          let w = walk_ahead p.walk h (drop v.past s) f.meaning in
          let d : drop seen (views_at s first n) ≡ view_in s v ∷ w.tail = ap (drop seen) w.all ∙ drop_at p.vs (view_in s v ∷ w.tail) seen p.walk.count in
          let r : drop (seen + 1) (views_at s first n) ≡ w.tail = sym (drop-drop 1 seen (views_at s first n)) ∙ ap (drop 1) d in
          d ∙ ap (λ l. view_in s v ∷ l) (sym r)

      passes : table_passes (view_in s v) ≡ true
      passes = all_at (λ w. table_passes w ≡ true) seen (views_at s first n) (all_each table_passes (views_at s first n) p.here.tables) next_is

      -- the walk, with another gap
      onward :
          {g' : ℕ}
          → g' ≤ m
          → All (λ w. Behind (effective w).start (take g' (job_gaps job))) (drop (seen + 1) (views_at s first n))
          → (not (is_output (job_of job).parts (view_in s v).table) || covered_in (job_gaps job) (view_in s v)) ≡ true
          → ViewsSeen s first n job m g' (seen + 1) v.past
      onward l b c =
          record {
            vs = p.vs ++ (view_in s v ∷ []);
            walk = walk_onward p.walk h f.meaning f.inside.past;
            here = p.here;
            upto = l;
            behind = b;
            same =
                p.same
                ∙ ap (views_covered (job_gaps job) (job_of job).parts) next_is
                ∙ covered_cons (job_gaps job) (job_of job).parts (view_in s v) (drop (seen + 1) (views_at s first n))
                ∙ rw c;
          }

      behind_here : All (λ w. Behind (effective w).start (take g (job_gaps job))) (view_in s v ∷ drop (seen + 1) (views_at s first n))
      behind_here = rw next_is at p.behind

      -- the range that the view shows
      module _ {r : RangeSpan} (w : EffectiveFound s v r) where
        start_is : bound_in s r.start ≡ (effective (view_in s v)).start
        start_is = ap (λ (k : Range). k.start) w.meaning

        pub shown_inside : Inside s r
        shown_inside = record { start = w.start; end = w.end }

        pub shown_held : StartsHeld (range_in s r.start r.end)
        shown_held = rw w.meaning (effective_start_is_held (view_in s v) passes)

        pub shown_behind : Behind (bound_in s r.start) (take g (job_gaps job))
        shown_behind = rw start_is behind_here.0

      module _ {x : TableId} (e : x.0 ≡ take 16 (drop v.table.id s)) {q : Bool} (i : q ≡ id_among x (outputs (job_of job).parts)) where
        output_is : is_output (job_of job).parts (view_in s v).table ≡ q
        unfolding is_output
        output_is = sym (i ∙ among_id x (view_in s v).table e (outputs (job_of job).parts))

        pub seen_other : not q ≡ true → ViewsSeen s first n job m g (seen + 1) v.past
        seen_other z = onward p.upto behind_here.1 (rw (output_is, not-true q z))

        module _ (z : not q ≡ false) {r : RangeSpan} (w : EffectiveFound s v r) {d : ℕ} (y : Reached (bound_in s r.start) job m d) {o : Optional NextPiece} (u : NextFound job (range_in s r.start r.end) m d o) where
          left_is : covered_in (job_gaps job) (view_in s v) ≡ nothing_left (pieces (drop d (job_gaps job)) (range_in s r.start r.end))
          unfolding covered_in
          left_is = rw (← w.meaning) (ap nothing_left (reached_pieces (range_in s r.start r.end) y))

          pub seen_left : {a : NextPiece} → o ≡ Some a → false ≡ views_covered (job_gaps job) (job_of job).parts (values_of (read_many view.read n (drop first s)))
          seen_left a =
              let c : covered_in (job_gaps job) (view_in s v) ≡ false = left_is ∙ rw (next_piece (rw a at u)).pieces_are in
              sym (p.same ∙ ap (views_covered (job_gaps job) (job_of job).parts) next_is ∙ covered_cons (job_gaps job) (job_of job).parts (view_in s v) (drop (seen + 1) (views_at s first n)) ∙ rw (output_is, not-false q z, c))

          later : All (λ b. start (view_in s v) ≼ start b) (drop (seen + 1) (views_at s first n))
          later = pairs_at (λ a b. start a ≼ start b) seen (views_at s first n) (sorted (views_at s first n) p.here.order) next_is

          pub seen_covered : o ≡ None → ViewsSeen s first n job m d (seen + 1) v.past
          seen_covered a =
              let c : covered_in (job_gaps job) (view_in s v) ≡ true = left_is ∙ rw (next_none (rw a at u)).none_left in
              onward y.upto
              (All-map (λ k l. behind_later (effective (view_in s v)).start (effective k).start (take d (job_gaps job)) l (rw (start_is w) at y.behind)) (drop (seen + 1) (views_at s first n)) later)
              (rw (output_is, not-false q z, c))

pub ruleset view_exits = (seen_none, seen_all, seen_here, shown_inside, shown_held, shown_behind, seen_other, seen_left, seen_covered)
