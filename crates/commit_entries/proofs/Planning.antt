-- One entry more: whatever was planned before it, with its row it is planned.
-- Assumes nothing.
use Prim.Native.Nat.{ℕ, ◌+◌, ◌*◌, ◌≤◌}
use native.Mathlib.Omega.{arith}
use mathlib.Core.Path.{◌≡◌, refl, sym, ap, subst, ◌∙◌}
use mathlib.Core.Bool.{Bool, true, false}
use mathlib.Core.List.{List, [], ◌∷◌, ◌++◌, map, append_assoc, append-nil}
use lib.ListN.{length, take, drop, length-append}
use Rattle.base.specs.Lists.{map_append}
use Rattle.base.specs.Pick.{pick}
use Rattle.base.specs.Rows.{RowsHold, hold_none, hold_more}
use Rattle.base.specs.Splice.{splice}
use Rattle.comparable_range.specs.Range.{Range}
use Rattle.records.specs.Form.{write_many}
use Rattle.records.specs.Values.{View}
use Rattle.records.specs.Layouts.{view}
use Rattle.incremental_progress.specs.Draws.{Ten, used_up, got, supply, draw, drawn_view, fill_all}
use Rattle.incremental_progress.specs.Entries.{Entry, whole, cut, entry_view}
use Rattle.incremental_progress.specs.Gaps.{placed}
use Rattle.incremental_progress.proofs.FilledViews.{fill_append, filled_length}
use Rattle.commit_rows.specs.Numbers.{row_numbers}
use Rattle.commit_rows.specs.Bytes.{RowInside, row_bytes, length_as, row_length}
use Rattle.commit_rows.specs.declared.rows.Form.{Form}
use Rattle.commit_rows.specs.declared.rows.Form.TheVariants.{Whole, Output, CutOutput, Cut}
use Rattle.commit_rows.specs.declared.rows.Row.{Row}
use Rattle.commit_rows.proofs.RowExits.{row_back}
use Rattle.commit_entries.specs.Planned.{KeptRow, PlanReady, Added, TenFound, drawn_at, none_left, none_before, with_ten, AddedCut, view_bytes, entry_bytes, is_cut, cuts_in, RowIs, Planned, PlannedMore, WholeRow, CutRow}
use Rattle.commit_entries.specs.declared.Plan.{Plan}
use Rattle.commit_entries.specs.declared.Ten as tens

-- a plan with another bound for its rows
pub ready_most : {ids : List ℕ} {n m : ℕ} {p : Plan} → PlanReady ids n p → p.rows ≤ m → PlanReady ids m p
ready_most y h = record { few = h; few_cuts = y.few_cuts; short = y.short; within = y.within }

-- ---- lists
placed_more : (bs : List ℕ) (vs : List View) (b : ℕ) (v : View) → length bs ≡ length vs → placed (bs ++ (b ∷ [])) (vs ++ (v ∷ [])) ≡ placed bs vs ++ (record { gap = b; item = v } ∷ [])
unfolding placed
placed_more [] [] b v e = refl
placed_more [] (w ∷ vs) b v e = absurd (omega arith)
placed_more (c ∷ bs) [] b v e = absurd (omega arith)
placed_more (c ∷ bs) (w ∷ vs) b v e = rw (placed_more bs vs b v (omega arith))

placed_length : (bs : List ℕ) (vs : List View) → length bs ≡ length vs → length (placed bs vs) ≡ length bs
unfolding placed
placed_length [] vs e = refl
placed_length (b ∷ bs) [] e = absurd (omega arith)
placed_length (b ∷ bs) (v ∷ vs) e = rw (placed_length bs vs (omega arith))

pub bytes_append : (vs ws : List View) → view_bytes (vs ++ ws) ≡ view_bytes vs ++ view_bytes ws
unfolding write_many
bytes_append [] ws = refl
bytes_append (v ∷ vs) ws = rw (bytes_append vs ws) (sym (append_assoc (view.write v) (view_bytes vs) (view_bytes ws)))

bytes_one : (v : View) → view_bytes (v ∷ []) ≡ view.write v
unfolding write_many
bytes_one v = append-nil (view.write v)

entry_more : (es : List Entry) (e : Entry) → length (entry_bytes (es ++ (e ∷ []))) ≡ length (entry_bytes es) + length (view.write (entry_view e))
entry_more es e =
    ap (λ (l : List View). length (view_bytes l)) (map_append entry_view es (e ∷ []))
    ∙ ap length (bytes_append (map entry_view es) (entry_view e ∷ []))
    ∙ rw (length-append, bytes_one)

cuts_more : (es : List Entry) (e : Entry) → cuts_in (es ++ (e ∷ [])) ≡ cuts_in es + is_cut e
unfolding cuts_in
cuts_more [] e = omega arith
cuts_more (d ∷ es) e = rw (cuts_more es e) (omega arith)

-- ---- draws
views_many : (ids : List ℕ) (es : List Entry) (vs : List View) (s : List Ten) → fill_all es (supply ids) ≡ got vs s → length vs ≡ length es
views_many ids es vs s e = filled_length es (supply ids) vs s e

module _ (ids : List ℕ) (es : List Entry) (e : Entry) (vs : List View) (s : List Ten) where
  filled_more : {v : View} {t : List Ten} → fill_all es (supply ids) ≡ got vs s → fill_all (e ∷ []) s ≡ got (v ∷ []) t → fill_all (es ++ (e ∷ [])) (supply ids) ≡ got (vs ++ (v ∷ [])) t
  filled_more f g = rw (fill_append es (e ∷ []) (supply ids), f, g)

  used_more : fill_all es (supply ids) ≡ got vs s → fill_all (e ∷ []) s ≡ used_up → fill_all (es ++ (e ∷ [])) (supply ids) ≡ used_up
  used_more f g = rw (fill_append es (e ∷ []) (supply ids), f, g)

used_before : (ids : List ℕ) (es : List Entry) (e : Entry) → fill_all es (supply ids) ≡ used_up → fill_all (es ++ (e ∷ [])) (supply ids) ≡ used_up
used_before ids es e f = rw (fill_append es (e ∷ []) (supply ids), f)

fill_whole : (v : View) (s : List Ten) → fill_all (whole v ∷ []) s ≡ got (v ∷ []) s
unfolding fill_all
fill_whole v s = refl

fill_cut : (v : View) (r : Range) (s t : List Ten) (ten : Ten) → draw v.id s ≡ got ten t → fill_all (cut v r ∷ []) s ≡ got (drawn_view v r ten ∷ []) t
unfolding fill_all
fill_cut v r s t ten e = rw e

fill_none : (v : View) (r : Range) (s : List Ten) → draw v.id s ≡ used_up → fill_all (cut v r ∷ []) s ≡ used_up
unfolding fill_all
fill_none v r s e = rw e

-- the place of a draw does not change how long a row's view is
ten_length : (r : Row) (at : ℕ) → row_length (with_ten r at) ≡ row_length r
unfolding row_length
ten_length r at = go r.form
  where
    go : (f : Form) → length_as f (with_ten r at) ≡ length_as f r
    go Whole = refl
    go Output = refl
    go CutOutput = refl
    go (Cut a b) = refl

-- ---- the rows with one more
module _ (image job ids : List ℕ) where
  rows_more :
      (bs : List ℕ) (vs : List View) (d : List ℕ) {t : List ℕ} (b : ℕ) (v : View) (r : Row)
      → length bs ≡ length vs
      → RowsHold 11 (RowIs image job ids) (placed bs vs) d
      → length bs * 11 + 11 ≤ length d
      → t ≡ splice d (length bs * 11) (row_numbers r)
      → RowInside image job ids r
      → row_bytes image job ids r ≡ view.write v
      → r.bucket ≡ b
      → RowsHold 11 (RowIs image job ids) (placed (bs ++ (b ∷ [])) (vs ++ (v ∷ []))) t
  rows_more bs vs d b v r l h room e i w k =
      let n = placed_length bs vs l in
      let x : RowIs image job ids (record { gap = b; item = v }) (row_numbers r)
      = record {
        inside = subst (λ (x : Row). RowInside image job ids x) (sym (row_back r)) i;
        bytes = subst (λ (x : Row). row_bytes image job ids x ≡ view.write v) (sym (row_back r)) w;
        bucket = k;
      } in
      rw (placed_more bs vs b v l, e, ← n) (hold_more 11 (RowIs image job ids) (record { gap = b; item = v }) (row_numbers r) h refl (rw n room) x)

  -- ---- a view as it is
  module _ (v : View) (b : ℕ) (r : Row) (w : WholeRow image job ids v b r) (p : Plan) (d : List ℕ) (q : Plan) (t : List ℕ) (a : Added r p d q t) where
    module _ (es : List Entry) (bs : List ℕ) (x : Planned image job ids es bs d p) where
      whole_drawn : (o : Bool) → p.enough ≡ o → fill_all (es ++ (whole v ∷ [])) (supply ids) ≡ pick o (got (x.views ++ (v ∷ [])) (supply (drop p.drawn ids))) used_up
      whole_drawn true h = filled_more ids es (whole v) x.views (supply (drop p.drawn ids)) (rw h at x.drawn) (fill_whole v (supply (drop p.drawn ids)))
      whole_drawn false h = used_before ids es (whole v) (rw h at x.drawn)

      many_views_lem : p.enough ≡ true → length bs ≡ length x.views
      many_views_lem h = x.many ∙ sym (views_many ids es x.views (supply (drop p.drawn ids)) (rw h at x.drawn))

      whole_more : Planned image job ids (es ++ (whole v ∷ [])) (bs ++ (b ∷ [])) t q
      whole_more =
          rw a.is
          (record {
            count = rw (length-append, x.count);
            many = rw (length-append, length-append, x.many);
            bytes = rw (entry_more es (whole v), w.long, x.bytes);
            cuts = rw (cuts_more es (whole v), x.cuts) (omega arith);
            views = x.views ++ (v ∷ []);
            drawn = whole_drawn p.enough refl;
            kept = λ h l.
                let n : length bs ≡ p.rows = x.many ∙ sym x.count in
                let room : p.rows * 11 + 11 ≤ length d = omega (arith, a.kept.same) in
                rows_more bs x.views d b v r (many_views_lem h) (x.kept h (omega arith)) (rw n room) (rw n (a.kept.put room)) w.inside w.bytes w.bucket;
          })

    pub planned_whole : PlannedMore image job ids (whole v ∷ []) (b ∷ []) p d q t
    planned_whole =
        record {
          more = whole_more;
          ready = λ n y. rw a.is (record { few = omega (arith, y.few); few_cuts = omega (arith, y.few_cuts); short = omega (arith, y.short, a.most); within = y.within });
          same = a.kept.same;
        }

  -- ---- a range of a view under a new id
  module _ (v : View) (g : Range) (b : ℕ) (r : Row) (w : CutRow image job ids v g b r) (p : Plan) (d : List ℕ) (q : Plan) (t : List ℕ) where
    module _ (es : List Entry) (bs : List ℕ) (x : Planned image job ids es bs d p) where
      -- what does not depend on the draw
      cut_counts :
          (vs : List View) (at : ℕ) (o : Bool)
          → fill_all (es ++ (cut v g ∷ [])) (supply ids) ≡ pick o (got vs (supply (drop at ids))) used_up
          → (o ≡ true → (p.rows + 1) * 11 ≤ length t → RowsHold 11 (RowIs image job ids) (placed (bs ++ (b ∷ [])) vs) t)
          → Planned image job ids (es ++ (cut v g ∷ [])) (bs ++ (b ∷ [])) t (record { rows = p.rows + 1; bytes = p.bytes + row_length r; cuts = p.cuts + 1; drawn = at; enough = o })
      cut_counts vs at o f k =
          record {
            count = rw (length-append, x.count);
            many = rw (length-append, length-append, x.many);
            bytes = rw (entry_more es (cut v g), w.long, x.bytes);
            cuts = rw (cuts_more es (cut v g), x.cuts);
            views = vs;
            drawn = f;
            kept = k;
          }

      cut_drawn :
          (at : ℕ)
          → p.enough ≡ true
          → draw v.id (supply (drop p.drawn ids)) ≡ got (take 10 (drop at ids)) (supply (drop (at + 10) ids))
          → at + 10 ≤ length ids
          → KeptRow p.rows (with_ten r at) d t
          → Planned image job ids (es ++ (cut v g ∷ [])) (bs ++ (b ∷ [])) t (record { rows = p.rows + 1; bytes = p.bytes + row_length r; cuts = p.cuts + 1; drawn = at + 10; enough = true })
      cut_drawn at h f l k =
          let s = supply (drop p.drawn ids) in
          let u : View = drawn_view v g (take 10 (drop at ids)) in
          let y : fill_all es (supply ids) ≡ got x.views s = rw h at x.drawn in
          let z = filled_more ids es (cut v g) x.views s y (fill_cut v g s (supply (drop (at + 10) ids)) (take 10 (drop at ids)) f) in
          cut_counts (x.views ++ (u ∷ [])) (at + 10) true z (λ _ m.
          let n : length bs ≡ p.rows = x.many ∙ sym x.count in
          let room : p.rows * 11 + 11 ≤ length d = omega (arith, k.same) in
          let views : length bs ≡ length x.views = x.many ∙ sym (views_many ids es x.views s y) in
          rows_more bs x.views d b u (with_ten r at) views (x.kept h (omega arith)) (rw n room) (rw n (k.put room)) (w.inside at l) (w.bytes at l) w.bucket)

      cut_used : (at : ℕ) → fill_all (es ++ (cut v g ∷ [])) (supply ids) ≡ used_up
          → Planned image job ids (es ++ (cut v g ∷ [])) (bs ++ (b ∷ [])) t (record { rows = p.rows + 1; bytes = p.bytes + row_length r; cuts = p.cuts + 1; drawn = at; enough = false })
      cut_used at f = cut_counts [] at false f (λ e _. absurd (let z : ◌≡◌ {A = ℕ} 0 1 = cc in omega (arith, z)))

      cut_more : {y : tens.Ten} → TenFound v.id ids p y → Added (with_ten r y.at) y.plan d q t → Planned image job ids (es ++ (cut v g ∷ [])) (bs ++ (b ∷ [])) t q
      cut_more (drawn_at {at} h f l) a = rw (a.is, ten_length r at) (cut_drawn at h f l a.kept)
      cut_more (none_left h f) a =
          let s = supply (drop p.drawn ids) in
          rw (a.is, ten_length r 0) (cut_used p.drawn (used_more ids es (cut v g) x.views s (rw h at x.drawn) (fill_none v g s f)))
      cut_more (none_before h) a = rw (a.is, ten_length r 0) (cut_used p.drawn (used_before ids es (cut v g) (rw h at x.drawn)))

    cut_ready : {y : tens.Ten} → TenFound v.id ids p y → Added (with_ten r y.at) y.plan d q t → (n : ℕ) → PlanReady ids n p → PlanReady ids (n + 1) q
    cut_ready (drawn_at h f l) a n z = rw a.is (record { few = omega (arith, z.few); few_cuts = omega (arith, z.few_cuts); short = omega (arith, z.short, a.most); within = l })
    cut_ready (none_left h f) a n z = rw a.is (record { few = omega (arith, z.few); few_cuts = omega (arith, z.few_cuts); short = omega (arith, z.short, a.most); within = z.within })
    cut_ready (none_before h) a n z = rw a.is (record { few = omega (arith, z.few); few_cuts = omega (arith, z.few_cuts); short = omega (arith, z.short, a.most); within = z.within })

    pub planned_cut : AddedCut v.id ids r p d q t → PlannedMore image job ids (cut v g ∷ []) (b ∷ []) p d q t
    planned_cut a = record { more = λ es bs x. cut_more es bs x a.found a.added; ready = cut_ready a.found a.added; same = a.added.kept.same }

  -- ---- none, and some after others
  pub planned_none : (p : Plan) (d : List ℕ) → PlannedMore image job ids [] [] p d p d
  planned_none p d =
      record {
        more = λ es bs x. rw (append-nil, append-nil) x;
        ready = λ n y. record { few = omega (arith, y.few); few_cuts = y.few_cuts; short = y.short; within = y.within };
        same = refl;
      }

  pub planned_then :
      {es fs : List Entry} {bs cs : List ℕ} {p q r : Plan} {d t u : List ℕ}
      → PlannedMore image job ids es bs p d q t
      → PlannedMore image job ids fs cs q t r u
      → PlannedMore image job ids (es ++ fs) (bs ++ cs) p d r u
  planned_then {es} {fs} {bs} {cs} x y =
      record {
        more = λ gs at z.
            let e = append_assoc gs es fs in
            let f = append_assoc at bs cs in
            rw (← e, ← f) (y.more (gs ++ es) (at ++ bs) (x.more gs at z));
        ready = λ n z.
            let w = y.ready (n + length es) (x.ready n z) in
            record { few = rw length-append (omega (arith, w.few)); few_cuts = w.few_cuts; short = w.short; within = w.within };
        same = y.same ∙ x.same;
      }

  pub planned_begin : (t : List ℕ) → Planned image job ids [] [] t (record { rows = 0; bytes = 0; cuts = 0; drawn = 0; enough = true })
  unfolding write_many cuts_in fill_all placed
  planned_begin t = record { count = refl; many = refl; bytes = refl; cuts = refl; views = []; drawn = refl; kept = λ _ _. hold_none 11 (RowIs image job ids) t }
