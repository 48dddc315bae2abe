-- The destination written gap by gap is the destination that a commit writes: its pieces and the outputs, sorted by start.
-- Assumes nothing.
use mathlib.Core.Path.{◌≡◌, refl, sym, ap, ◌∙◌}
use mathlib.Core.Bool.{Bool, true, false, not, ◌||◌}
use mathlib.Core.List.{List, [], ◌∷◌, ◌++◌, map, flat_map, flatten}
use lib.ListN.{length}
use Rattle.base.specs.Pick.{pick, and_first, and_second}
use Rattle.key.specs.Order.{at_most}
use Rattle.comparable_range.specs.Range.{Bound, Range, cmp_bound}
use Rattle.comparable_range.specs.Cut.{below, cut_at_most, ◌≼◌, start_cut}
use Rattle.comparable_range.proofs.Cut.{≼_trans}
use Rattle.comparable_range.proofs.ByCuts.{cmp_start, passes-≺}
use Rattle.records.specs.Values.{View, Part}
use Rattle.manifest.specs.Ranges.{effective}
use Rattle.manifest.specs.Checks.{all, table_passes, ascend_from, ascend, starts}
use Rattle.incremental_progress.specs.Intervals.{Interval, cut_out}
use Rattle.incremental_progress.specs.Views.{start}
use Rattle.incremental_progress.proofs.Marked.{piece, marked}
use Rattle.incremental_progress.specs.Parts.{intervals}
use Rattle.incremental_progress.specs.Jobs.{is_output, others}
use Rattle.incremental_progress.specs.Checks.{nothing_left, covered}
use Rattle.incremental_progress.specs.Draws.{Ten, Drawn, used_up, got, next, fill_all}
use Rattle.incremental_progress.specs.Entries.{piece_entry, view_entries, run_entries}
use Rattle.incremental_progress.specs.Gaps.{gaps, pieces, run_gaps, placed, by_gap, fill_parts}
use Rattle.base.specs.Lists.{All, All-map, map_alike, map_flat_map, flat_map_alike}
use Rattle.base.specs.Sort.{sort}
use Rattle.incremental_progress.proofs.Sort.{Sorted}
use Rattle.incremental_progress.proofs.Subtraction.{cuts}
use Rattle.incremental_progress.proofs.Pieces.{Inside}
use Rattle.incremental_progress.proofs.Views.{cut_inside, effective_piece}
use Rattle.incremental_progress.proofs.Job.{from_cut, to_cut, Planned}
use Rattle.incremental_progress.proofs.Checks.{all_each}
use Rattle.incremental_progress.proofs.GapLaws.{FallsIn, by_gap_is_sort}
use Rattle.incremental_progress.proofs.ByGaps.{intervals_ascend, effective_passes, pieces_by_gaps, run_entries_by_gaps}
use Rattle.incremental_progress.proofs.FilledViews.{map_map, filled_starts, filled_length}
use Rattle.incremental_progress.proofs.GapStarts.{start_of, placed_items, All-starts, in_step_starts, run_starts, gaps_length, run_falls, run_in_step}
use Rattle.incremental_progress.proofs.OutStarts.{outs_in}
use Rattle.manifest.proofs.ViewRanges.{effective_start_is_held}

-- ---- check 6: starts that ascend one by one are in order
later_start : (a b : Bound) → at_most (cmp_bound true a b) ≡ true → start_cut a ≼ start_cut b
unfolding cut_at_most
later_start a b e = record { holds = ap at_most (sym (cmp_start a b)) ∙ e }

sorted_from : (b : Bound) (vs : List View) → ascend_from b (starts vs) ≡ true → All (λ v. start_cut b ≼ start v) vs × Sorted start vs
unfolding ascend_from
sorted_from b [] e = (tt, tt)
sorted_from b (v ∷ vs) e =
    let s = sorted_from (effective v).start vs (and_second (at_most (cmp_bound true b (effective v).start)) _ e) in
    let k = later_start b (effective v).start (and_first _ (ascend_from (effective v).start (starts vs)) e) in
    ((k, All-map (λ w m. ≼_trans k m) vs s.0), s)

pub starts_sorted : (vs : List View) → ascend (starts vs) ≡ true → Sorted start vs
starts_sorted [] e = tt
starts_sorted (v ∷ vs) e = sorted_from (effective v).start vs e

-- ---- where a run's entries start
piece_starts : (v : View) (r : Range) → Inside (cuts r) (cuts (effective v)) → start (marked (piece_entry v r)) ≡ start_of r
unfolding piece
piece_starts v r i = ap start_of (effective_piece v r i)

-- ---- check 12: a view that is dropped has no entry anyway
nothing_left_lem : (rs : List Range) → nothing_left rs ≡ true → rs ≡ []
nothing_left_lem [] e = refl
nothing_left_lem (r ∷ rs) e = cc

covered_entries : (ivs : List Interval) (v : View) → covered ivs v ≡ true → view_entries ivs v ≡ []
unfolding covered view_entries
covered_entries ivs v h = rw (nothing_left_lem (cut_out ivs (effective v ∷ [])) h)

pub others_entries :
    (ps : List Part) (vs : List View)
    → all (λ v. not (is_output ps v.table) || covered (intervals ps) v) vs ≡ true
    → run_entries (intervals ps) (others ps vs) ≡ run_entries (intervals ps) vs
unfolding all others run_entries flat_map
others_entries ps [] h = refl
others_entries ps (v ∷ vs) h =
    go (is_output ps v.table) (and_first _ _ h) (others_entries ps vs (and_second (not (is_output ps v.table) || covered (intervals ps) v) _ h))
  where
    go : (b : Bool) → (not b || covered (intervals ps) v) ≡ true → run_entries (intervals ps) (others ps vs) ≡ run_entries (intervals ps) vs
        → run_entries (intervals ps) (pick b (others ps vs) (v ∷ others ps vs)) ≡ view_entries (intervals ps) v ++ run_entries (intervals ps) vs
    go true c e = rw (covered_entries (intervals ps) v c) e
    go false c e = rw e

module _ (ps : List Part) (a : Planned below ps) where
  view_starts : (v : View) → table_passes v ≡ true
      → map (λ e. start (marked e)) (view_entries (intervals ps) v) ≡ map start_of (pieces (gaps (intervals ps)) (effective v))
  unfolding view_entries
  view_starts v h =
      let n = effective_passes v h in
      let s = effective_start_is_held v h in
      let left = cut_out (intervals ps) (effective v ∷ []) in
      let inside = cut_inside (intervals ps) (effective v) (passes-≺ (effective v).start (effective v).end n) in
      map_map (λ e. start (marked e)) (piece_entry v) left
      ∙ map_alike (λ r. start (marked (piece_entry v r))) start_of left (All-map (λ r i. piece_starts v r i) left inside)
      ∙ ap (map start_of) (pieces_by_gaps ps a (effective v) s.key s.start n)

  run_starts_lem :
      (vs : List View)
      → all table_passes vs ≡ true
      → map (λ e. start (marked e)) (run_entries (intervals ps) vs) ≡ run_starts (gaps (intervals ps)) vs
  unfolding run_entries
  run_starts_lem vs h =
      map_flat_map (λ e. start (marked e)) (view_entries (intervals ps)) vs
      ∙ flat_map_alike _ (λ v. map start_of (pieces (gaps (intervals ps)) (effective v))) vs
      (All-map (λ v k. view_starts v k) vs (all_each table_passes vs h))

  -- as many numbers of gaps as entries, so that no entry is lost
  pub run_gaps_length : (vs : List View) → all table_passes vs ≡ true → length (run_gaps (gaps (intervals ps)) vs) ≡ length (run_entries (intervals ps) vs)
  run_gaps_length vs h = rw (run_entries_by_gaps ps a vs h) (gaps_length (gaps (intervals ps)) vs)

  -- ---- the destination
  pub destination_by_gaps :
      (vs : List View)
      → all table_passes vs ≡ true
      → ascend (starts vs) ≡ true
      → (s : List Ten) (ws : List View) (t : List Ten)
      → fill_all (run_entries (intervals ps) vs) s ≡ got ws t
      → (s' : List Ten) (outs : List (List View)) (t' : List Ten)
      → fill_parts ps s' ≡ got outs t'
      → sort cut_at_most start (ws ++ flatten outs) ≡ by_gap 0 outs (placed (run_gaps (gaps (intervals ps)) vs) ws)
  destination_by_gaps vs h o s ws t e s' outs t' e' =
      let ivs = intervals ps in
      let ns = run_gaps (gaps ivs) vs in
      let each = all_each table_passes vs h in
      let at : map start ws ≡ run_starts (gaps ivs) vs = filled_starts (run_entries ivs vs) s ws t e ∙ run_starts_lem vs h in
      let many : length ns ≡ length ws = run_gaps_length vs h ∙ sym (filled_length (run_entries ivs vs) s ws t e) in
      let falls = All-starts start (λ n c. FallsIn from_cut to_cut below ivs n c) ns ws (rw at (run_falls ivs vs each)) in
      let in_order = in_step_starts start ns ws (rw at (run_in_step ivs vs each (starts_sorted vs o))) in
      sym (by_gap_is_sort from_cut to_cut start (placed ns ws) (intervals_ascend a) (outs_in a s' outs t' e') falls in_order
      ∙ ap (λ (l : List View). sort cut_at_most start (l ++ flatten outs)) (placed_items ns ws many))

  -- The same as a step of the commit, with the views that it drops left in.
  pub fill_destination :
      (vs : List View)
      → all table_passes vs ≡ true
      → ascend (starts vs) ≡ true
      → all (λ v. not (is_output ps v.table) || covered (intervals ps) v) vs ≡ true
      → (s' : List Ten) (outs : List (List View)) (t' : List Ten)
      → fill_parts ps s' ≡ got outs t'
      → (s : List Ten)
      → next (fill_all (run_entries (intervals ps) (others ps vs)) s) (λ ws s. got (sort cut_at_most start (ws ++ flatten outs)) s)
      ≡ next (fill_all (run_entries (intervals ps) vs) s) (λ ws s. got (by_gap 0 outs (placed (run_gaps (gaps (intervals ps)) vs) ws)) s)
  fill_destination vs h o c s' outs t' e' s = rw (others_entries ps vs c) (go (fill_all (run_entries (intervals ps) vs) s) refl)
    where
      go : (d : Drawn (List View)) → fill_all (run_entries (intervals ps) vs) s ≡ d
          → next d (λ ws s. got (sort cut_at_most start (ws ++ flatten outs)) s)
          ≡ next d (λ ws s. got (by_gap 0 outs (placed (run_gaps (gaps (intervals ps)) vs) ws)) s)
      go used_up e = refl
      go (got ws t) e = rw (destination_by_gaps vs h o s ws t e s' outs t' e')
