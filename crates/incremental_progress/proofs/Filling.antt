-- What a commit writes with the ids that it draws is the marked commit with its open bits filled.
-- Assumes nothing.
use Prim.Native.Nat.{ℕ}
use native.Mathlib.Omega.{arith}
use mathlib.Core.Path.{◌≡◌, refl, sym, ◌∙◌, ap, fun_ext}
use mathlib.Core.Bool.{Bool, true, false}
use mathlib.Core.Option.{Option, none, some}
use mathlib.Core.List.{List, [], ◌∷◌, ◌++◌, map, flat_map}
use lib.Dec.{eqb}
use lib.ListN.{length}
use Rattle.base.specs.Pick.{pick}
use Rattle.key.specs.Order.{Key}
use Rattle.comparable_range.specs.Range.{Range, non_empty, overlap}
use Rattle.comparable_range.specs.Cut.{Cut, cut_at_most}
use Rattle.records.specs.Values.{Table, View, Run, Image, Part, Job}
use Rattle.records.specs.declared.ids.ViewId.{ViewId}
use Rattle.manifest.specs.Ranges.{own, effective}
use Rattle.manifest.specs.Checks.{has}
use Rattle.incremental_progress.specs.Intervals.{Interval, listed, to_range, cut_out}
use Rattle.incremental_progress.specs.Views.{start, same_range}
use Rattle.incremental_progress.proofs.Marked.{only_time, cut_view, piece, retained, cut_run, cut_destination, publish, published, marked_views, marked_runs, marked, Fills, kept, drawn, Each, no_more, and, same_id, FillsImage, Closed, AllClosed, none_left, one_more, ClosedImage, no_runs_lem, one_run, FullTables, no_tables, one_table, FullParts, no_parts, one_part}
use Rattle.incremental_progress.specs.Parts.{is_key, durable, intervals, identity, open_key}
use Rattle.incremental_progress.specs.Jobs.{is_output, others, left_entries, with_outputs, OpenRun, commit_runs}
use Rattle.incremental_progress.specs.Draws.{Ten, Drawn, used_up, got, next, new_id, draw, drawn_view, fill, fill_all, fill_views, fill_runs, fill_commit}
use Rattle.incremental_progress.specs.Ids.{time_length, time_of}
use Rattle.incremental_progress.specs.Entries.{Entry, whole, cut, entry_start, piece_entry, view_entries, run_entries, output_entries, part_entries}
use Rattle.base.specs.Lists.{All, All-of, All-append, All-mapped, map_append, map_flat_map, take_front}
use Rattle.base.specs.Sort.{sort}
use Rattle.base.proofs.SortLaws.{All-sort}
use Rattle.base.proofs.SortMore.{sort_map}
use Rattle.incremental_progress.proofs.NewRuns.{fill_by_kind}
use Rattle.incremental_progress.proofs.Ids.{Each-append, fills_sort, fills_self}

-- ---- the entries are the marked commit's
pub piece_marked : (v : View) (r : Range) → marked (piece_entry v r) ≡ piece v r
unfolding piece
piece_marked v r = refl

view_marked : (ivs : List Interval) (v : View) → map marked (view_entries ivs v) ≡ retained ivs v
unfolding view_entries retained piece
view_marked ivs v = go (cut_out ivs (effective v ∷ []))
  where
    go : (rs : List Range) → map marked (map (piece_entry v) rs) ≡ map (piece v) rs
    go [] = refl
    go (r ∷ rs) = rw (go rs)

run_marked : (ivs : List Interval) (vs : List View) → map marked (run_entries ivs vs) ≡ cut_run ivs vs
unfolding run_entries cut_run flat_map
run_marked ivs [] = refl
run_marked ivs (v ∷ vs) = rw (map_append marked (view_entries ivs v), view_marked ivs v, run_marked ivs vs)

part_marked : (p : Part) → map marked (part_entries p) ≡ published p
unfolding part_entries published publish
part_marked p =
    map_flat_map marked _ (listed (durable p))
    ∙ simp map_flat_map

-- ---- they are made of views with whole ids
abbrev pub source : Entry → View
source (whole v) = v
source (cut v r) = v

abbrev pub Full : Entry → Type 0
Full e = Closed (source e)

pub run_full : (ivs : List Interval) {vs : List View} → AllClosed vs → All Full (run_entries ivs vs)
unfolding run_entries view_entries flat_map
run_full ivs none_left = tt
run_full ivs (one_more {v} {vs} c d) =
    All-append Full (view_entries ivs v) (run_entries ivs vs)
    (All-mapped Full (piece_entry v) (cut_out ivs (effective v ∷ [])) (All-of (λ r. go r (same_range r (effective v))) (cut_out ivs (effective v ∷ []))))
    (run_full ivs d)
  where
    go : (r : Range) (b : Bool) → Full (pick b (whole v) (cut v r))
    go r true = c
    go r false = c

pub others_closed : (ps : List Part) {vs : List View} → AllClosed vs → AllClosed (others ps vs)
unfolding others
others_closed ps none_left = none_left
others_closed ps (one_more {v} {vs} c d) = go (is_output ps v.table) (others_closed ps d)
  where
    go : (b : Bool) → AllClosed (others ps vs) → AllClosed (pick b (others ps vs) (v ∷ others ps vs))
    go true a = a
    go false a = one_more c a

output_full : (k : Option Key) (iv : Interval) (t : Table) → length t.id.0 ≡ 16 → All Full (output_entries k iv t)
unfolding output_entries
output_full none iv t h = (record { full = h }, tt)
output_full (some b) iv t h = go (is_key t.last b) (non_empty (overlap (own t) (to_range iv)))
  where
    go : (d n : Bool) → All Full (pick d (pick n (cut (identity t) (to_range iv) ∷ []) []) (whole (identity t) ∷ []))
    go true true = (record { full = h }, tt)
    go true false = tt
    go false n = (record { full = h }, tt)

outputs_full : (k : Option Key) (iv : Interval) {ts : List Table} → FullTables ts → All Full (flat_map (output_entries k iv) ts)
unfolding flat_map
outputs_full k iv no_tables = tt
outputs_full k iv (one_table {t} {ts} h f) = All-append Full (output_entries k iv t) _ (output_full k iv t h) (outputs_full k iv f)

part_full : (p : Part) → FullTables p.outputs → All Full (part_entries p)
unfolding part_entries flat_map
part_full p f = go (durable p)
  where
    go : (o : Option Interval) → All Full (flat_map (λ iv. flat_map (output_entries (open_key p) iv) p.outputs) (listed o))
    go none = tt
    go (some iv) = All-append Full (flat_map (output_entries (open_key p) iv) p.outputs) [] (outputs_full (open_key p) iv f) tt

pub parts_full : {ps : List Part} → FullParts ps → All Full (flat_map part_entries ps)
unfolding flat_map
parts_full no_parts = tt
parts_full (one_part {p} {ps} f g) = All-append Full (part_entries p) (flat_map part_entries ps) (part_full p f) (parts_full g)

-- ---- the runs of the new image
-- an entry starts where it does when its id is left open
marked_start : (e : Entry) → start (marked e) ≡ entry_start e
unfolding effective
marked_start (whole v) = refl
marked_start (cut v r) = refl

sort_marked : (es : List Entry) → map marked (sort cut_at_most entry_start es) ≡ sort cut_at_most start (map marked es)
sort_marked es = sym (sort_map cut_at_most start marked es ∙ ap (λ (k : Entry → Cut). map marked (sort cut_at_most k es)) (fun_ext marked_start))

whole_marked : (vs : List View) → map marked (map whole vs) ≡ vs
whole_marked [] = refl
whole_marked (v ∷ vs) = rw (whole_marked vs)

abbrev outputs_of : Job → List Entry
outputs_of j = flat_map part_entries j.parts

outputs_marked : (j : Job) → map marked (outputs_of j) ≡ flat_map published j.parts
outputs_marked j = simp (map_flat_map, part_marked)

abbrev open_views : Job → ℕ → List View → List Entry
open_views j n vs = with_outputs entry_start j n (left_entries j n vs) (outputs_of j)

views_marked : (j : Job) (n : ℕ) (vs : List View) → marked_views j n vs ≡ map marked (open_views j n vs)
unfolding marked_views cut_destination with_outputs left_entries
views_marked j n vs = go (eqb n j.destination) (has n j.sources)
  where
    ivs : List Interval
    ivs = intervals j.parts

    left : List Entry
    left = run_entries ivs (others j.parts vs)

    go : (d m : Bool)
        → pick d (sort cut_at_most start (cut_run ivs (others j.parts vs) ++ flat_map published j.parts)) (pick m (cut_run ivs vs) vs)
        ≡ map marked (pick d (sort cut_at_most entry_start (pick d left (pick m (run_entries ivs vs) (map whole vs)) ++ outputs_of j)) (pick d left (pick m (run_entries ivs vs) (map whole vs))))
    go true m = sym (sort_marked (left ++ outputs_of j) ∙ rw (map_append marked left, run_marked ivs (others j.parts vs), outputs_marked j))
    go false true = sym (run_marked ivs vs)
    go false false = sym (whole_marked vs)

abbrev pub mark_run : OpenRun → Run
mark_run o = record { id = o.id; views = map marked o.entries }

pub marked_runs_lem : (j : Job) (i : Image) → marked_runs j i ≡ map mark_run (commit_runs j i)
unfolding marked_runs commit_runs
marked_runs_lem j [] = refl
marked_runs_lem j (r ∷ i) = rw (views_marked j r.id r.views, marked_runs_lem j i)

whole_full : {vs : List View} → AllClosed vs → All Full (map whole vs)
whole_full none_left = tt
whole_full (one_more c d) = (c, whole_full d)

views_full : (j : Job) → FullParts j.parts → (n : ℕ) (vs : List View) → AllClosed vs → All Full (open_views j n vs)
unfolding with_outputs left_entries
views_full j f n vs c = go (eqb n j.destination) (has n j.sources)
  where
    ivs : List Interval
    ivs = intervals j.parts

    left : List Entry
    left = run_entries ivs (others j.parts vs)

    go : (d m : Bool) → All Full (pick d (sort cut_at_most entry_start (pick d left (pick m (run_entries ivs vs) (map whole vs)) ++ outputs_of j)) (pick d left (pick m (run_entries ivs vs) (map whole vs))))
    go true m = All-sort cut_at_most entry_start Full (left ++ outputs_of j) (All-append Full left (outputs_of j) (run_full ivs (others_closed j.parts c)) (parts_full f))
    go false true = run_full ivs c
    go false false = whole_full c

pub runs_full : (j : Job) (i : Image) → FullParts j.parts → ClosedImage i → All (λ (o : OpenRun). All Full o.entries) (commit_runs j i)
unfolding commit_runs
runs_full j [] f no_runs_lem = tt
runs_full j (r ∷ i) f (one_run c d) = (views_full j f r.id r.views c, runs_full j i f d)

-- ---- drawing
-- what was drawn on the way
pub record Through {A B : Type 0} (d : Drawn A) (f : A → List Ten → Drawn B) (b : B) (t : List Ten) : Type 0 where
  pub value : A
  pub rest : List Ten
  pub first : d ≡ got value rest
  pub second : f value rest ≡ got b t

pub through : {A B : Type 0} (d : Drawn A) (f : A → List Ten → Drawn B) (b : B) (t : List Ten) → next d f ≡ got b t → Through d f b t
through used_up f b t e = let z : ◌≡◌ {A = ℕ} 0 1 = cc in absurd (omega arith)
through (got a s) f b t e = record { value = a; rest = s; first = refl; second = e }

-- ten new bytes after the time of a whole id leave the time as it was
pub time_kept : (id : ViewId) (ten : Ten) → length id.0 ≡ 16 → time_of (new_id id ten) ≡ time_of id
time_kept id ten h = take_front time_length id.0 ten (omega arith)

drawn_fills : (v : View) (r : Range) (ten : Ten) → Closed v → Fills (cut_view v r) (drawn_view v r ten)
drawn_fills v r ten c =
    let h = c.full in
    let d : Fills (record { id = only_time (new_id v.id ten); table = v.table; visible = some r }) (drawn_view v r ten) = drawn in
    rw (time_kept v.id ten h) at d

entry_fills : (e : Entry) → Full e → (s : List Ten) (v : View) (t : List Ten) → fill e s ≡ got v t → Fills (marked e) v
entry_fills (whole w) c s v t e = let f : w ≡ v = cc in rw f kept
entry_fills (cut w r) c s v t e =
    let h = through (draw w.id s) (λ ten s. got (drawn_view w r ten) s) v t e in
    let g = h.second in
    let f : drawn_view w r h.value ≡ v = cc in
    rw (← f) (drawn_fills w r h.value c)

all_fills : (es : List Entry) → All Full es → (s : List Ten) (vs : List View) (t : List Ten) → fill_all es s ≡ got vs t → Each Fills (map marked es) vs
unfolding fill_all
all_fills [] c s vs t e = let f : [] ≡ vs = cc in rw (← f) no_more
all_fills (a ∷ es) c s vs t e =
    let h = through (fill a s) _ vs t e in
    let k = through (fill_all es h.rest) _ vs t h.second in
    let g = k.second in
    let f : h.value ∷ k.value ≡ vs = cc in
    rw (← f) (and (entry_fills a c.0 s h.value h.rest h.first) (all_fills es c.1 h.rest k.value k.rest k.first))

-- ---- the commit
module _ (j : Job) (outs : List View) (a : Each Fills (flat_map published j.parts) outs) where
  views_fill : (n : ℕ) (vs : List View) → AllClosed vs → (s : List Ten) (ws : List View) (t : List Ten)
      → fill_views j outs n vs s ≡ got ws t → Each Fills (marked_views j n vs) ws
  unfolding marked_views cut_destination
  views_fill n vs c s ws t e = go (eqb n j.destination) (has n j.sources) (sym (fill_by_kind j outs n vs s) ∙ e)
    where
      ivs : List Interval
      ivs = intervals j.parts

      go : (d m : Bool)
          → pick d (next (fill_all (run_entries ivs (others j.parts vs)) s) (λ ws s. got (sort cut_at_most start (ws ++ outs)) s)) (pick m (fill_all (run_entries ivs vs) s) (got vs s)) ≡ got ws t
          → Each Fills (pick d (sort cut_at_most start (cut_run ivs (others j.parts vs) ++ flat_map published j.parts)) (pick m (cut_run ivs vs) vs)) ws
      go true m e =
          let h = through (fill_all (run_entries ivs (others j.parts vs)) s) _ ws t e in
          let g = h.second in
          let f : sort cut_at_most start (h.value ++ outs) ≡ ws = cc in
          rw (← f) (fills_sort (Each-append (rw run_marked at (all_fills _ (run_full ivs (others_closed j.parts c)) s h.value h.rest h.first)) a))
      go false true e = rw run_marked at (all_fills (run_entries ivs vs) (run_full ivs c) s ws t e)
      go false false e = let f : vs ≡ ws = cc in rw f (fills_self ws)

  runs_fill : (rs : Image) → ClosedImage rs → (s : List Ten) (new : Image) (t : List Ten) → fill_runs j outs rs s ≡ got new t → FillsImage (marked_runs j rs) new
  unfolding fill_runs marked_runs
  runs_fill [] c s new t e = let f : [] ≡ new = cc in rw (← f) no_more
  runs_fill (r ∷ rs) (one_run c d) s new t e =
      let h = through (fill_views j outs r.id r.views s) _ new t e in
      let k = through (fill_runs j outs rs h.rest) _ new t h.second in
      let g = k.second in
      let f : record { id = r.id; views = h.value } ∷ k.value ≡ new = cc in
      rw (← f) (and (same_id (views_fill r.id r.views c s h.value h.rest h.first)) (runs_fill rs d h.rest k.value k.rest k.first))

-- What a commit writes, with whatever supply, fills the marked commit.
pub commit_fills :
    (j : Job) (i new : Image) (s rest : List Ten)
    → FullParts j.parts
    → ClosedImage i
    → fill_commit j i s ≡ got new rest
    → FillsImage (marked_runs j i) new
unfolding fill_commit
commit_fills j i new s t o c e =
    let h = through (fill_all (flat_map part_entries j.parts) s) _ new t e in
    runs_fill j h.value (rw outputs_marked at (all_fills _ (parts_full o) s h.value h.rest h.first)) i c h.rest new t h.second
