-- The image that an accepted commit writes is read again and passes the checks 4, 5 and 7; its runs keep their ids.
-- Assumes nothing.
use Prim.Native.Nat.{ℕ}
use mathlib.Core.Path.{◌≡◌, refl, sym, ◌∙◌}
use mathlib.Core.Bool.{Bool, true, false, not, ◌||◌, false≢true}
use mathlib.Core.Option.{Option, none, some}
use mathlib.Core.List.{List, [], ◌∷◌, map, flat_map}
use Rattle.base.specs.Bytes.{Bytes}
use Rattle.base.specs.Pick.{pick, and_first, and_second}
use Rattle.key.specs.Order.{Key}
use Rattle.comparable_range.specs.declared.Side.{Side}
use Rattle.comparable_range.specs.declared.Side.TheVariants.{First, Second}
use Rattle.std.specs.Prelude.{None, Some}
use Rattle.comparable_range.specs.Range.{Bound, Range, of, non_empty, start_side, end_side, overlap, chosen, intersect, intersect_sides, meets}
use Rattle.comparable_range.specs.Cut.{start_cut, end_cut}
use Rattle.comparable_range.proofs.Cut.{≺-≼-trans, ≼-≺-trans}
use Rattle.comparable_range.proofs.Lattice.{≼-later-right, sooner-≼-right}
use Rattle.comparable_range.proofs.ByCuts.{start_side_cut, end_side_cut, passes-≺, ≺-passes}
use Rattle.comparable_range.proofs.Unions.{meets_is}
use Rattle.records.specs.Values.{Table, View, Run, Image, Part, Job}
use Rattle.manifest.specs.Ranges.{own, effective}
use Rattle.manifest.specs.Checks.{all, has, is_excluded, visible_passes, keys_in_order, table_passes, size_passes, ascend, starts, image_checks, job_checks, distinct}
use Rattle.manifest.proofs.ViewRanges.{starts_plain, meets_alone, effective_start_is_held}
use Rattle.incremental_progress.specs.Intervals.{Interval, listed, part_before, part_from, subtract_from, cut_out, start_bound, to_range}
use Rattle.incremental_progress.specs.Views.{same_range}
use Rattle.incremental_progress.specs.Parts.{is_key, durable, intervals, identity, open_key}
use Rattle.incremental_progress.specs.Checks.{destination_is_source, retained_meets, retained_meet}
use Rattle.incremental_progress.specs.Draws.{Ten, draw, fill, fill_commit, supply}
use Rattle.incremental_progress.specs.Entries.{Entry, whole, cut, piece_entry, view_entries, output_entries, part_entries}
use Rattle.incremental_progress.specs.NewImages.{AcceptedImagePassesAgain}
use Rattle.base.specs.Lists.{All, All-map, All-of, All-both, All-append, All-flatMap, All-mapped}
use Rattle.incremental_progress.proofs.Checks.{all_each}
use Rattle.incremental_progress.proofs.Drawing.{IsTen, Of, next_of, draw_ten, got_of, supply_tens, Ready, Kept, fill_commit_keeps}
use Rattle.records.proofs.Within.{ImageWithin}
use Rattle.incremental_progress.proofs.NewImages.{true_all, new_within, new_small, Stored, stored, read_again, job_within}
use Rattle.incremental_progress.proofs.Outcomes.{Made, Accepted, accepted_commit}

-- ---- what passes
record TablePasses (t : Table) : Type 0 where
  order : keys_in_order t ≡ true
  size : size_passes t ≡ true

record ViewPasses (v : View) : Type 0 where
  range : visible_passes v ≡ true
  table : table_passes v ≡ true
  size : size_passes v.table ≡ true

-- a range that passes the test and does not start excluded
record Plain (r : Range) : Type 0 where
  passes : non_empty r ≡ true
  start : not (is_excluded r.start) ≡ true

record CutPasses (t : Table) (r : Range) : Type 0 where
  table : TablePasses t
  plain : Plain r
  meets : meets (intersect_sides (own t) r) ≡ true

abbrev EntryPasses : Entry → Type 0
EntryPasses (whole v) = ViewPasses v
EntryPasses (cut v r) = CutPasses v.table r

fill_passes : (e : Entry) (s : List Ten) → EntryPasses e → All IsTen s → Of ViewPasses (fill e s)
unfolding visible_passes table_passes
fill_passes (whole v) s h t = (h, t)
fill_passes (cut v r) s h t =
    next_of IsTen ViewPasses (draw v.id s) _ (draw_ten v.id s t)
    (λ ten u k x. (record { range = h.plain.passes; table = rw (h.table.order, h.plain.start, h.meets); size = h.table.size }, x))

-- ---- what is left of a plain range is plain
of_plain : (s : Side) (a b : Bound) → not (is_excluded a) ≡ true → not (is_excluded b) ≡ true → not (is_excluded (of s a b)) ≡ true
of_plain First a b h k = h
of_plain Second a b h k = k

intersect_plain : (r q : Range) → Plain r → not (is_excluded q.start) ≡ true → All Plain (listed (intersect r q))
unfolding intersect_sides
intersect_plain r q h k = go (non_empty (overlap r q)) refl
  where
    go : (b : Bool) → non_empty (overlap r q) ≡ b → All Plain (listed (chosen r q (pick b (Some (start_side r.start q.start, end_side r.end q.end)) None)))
    go true e = (record { passes = e; start = of_plain (start_side r.start q.start) r.start q.start h.start k }, tt)
    go false e = tt

before_plain : (o : Option Key) (r : Range) → Plain r → All Plain (listed (part_before o r))
unfolding part_before
before_plain none r h = tt
before_plain (some k) r h = intersect_plain r _ h refl

from_plain : (o : Option Key) (r : Range) → Plain r → All Plain (listed (part_from o r))
unfolding part_from
from_plain none r h = tt
from_plain (some k) r h = intersect_plain r _ h refl

subtract_plain : (iv : Interval) (r : Range) → Plain r → All Plain (subtract_from iv r)
unfolding subtract_from
subtract_plain iv r h = All-append Plain (listed (part_before iv.start r)) _ (before_plain iv.start r h) (from_plain iv.end r h)

cut_out_plain : (ivs : List Interval) (rs : List Range) → All Plain rs → All Plain (cut_out ivs rs)
unfolding cut_out
cut_out_plain [] rs h = h
cut_out_plain (iv ∷ ivs) rs h = cut_out_plain ivs (flat_map (subtract_from iv) rs) (All-flatMap Plain Plain (subtract_from iv) (subtract_plain iv) rs h)

effective_plain : (v : View) → table_passes v ≡ true → Plain (effective v)
effective_plain v h =
    let s = effective_start_is_held v h in
    record {
      passes = and_second (starts_plain v.visible) (non_empty (effective v)) (sym (meets_alone v) ∙ h);
      start = rw s.start;
    }

-- ---- the entries of a source's views
retained_meet_lem : (ivs : List Interval) (v : View) → retained_meets ivs v ≡ true → All (λ r. meets (intersect_sides (own v.table) r) ≡ true) (cut_out ivs (effective v ∷ []))
unfolding retained_meets
retained_meet_lem ivs v e = all_each (λ r. meets (intersect_sides (own v.table) r)) (cut_out ivs (effective v ∷ [])) e

view_table : (v : View) → ViewPasses v → TablePasses v.table
unfolding table_passes
view_table v h = record { order = and_first (keys_in_order v.table) _ h.table; size = h.size }

view_entries_pass : (ivs : List Interval) (v : View) → ViewPasses v → retained_meets ivs v ≡ true → All EntryPasses (view_entries ivs v)
unfolding view_entries
view_entries_pass ivs v h m =
    All-mapped EntryPasses (piece_entry v) (cut_out ivs (effective v ∷ []))
    (All-both piece (cut_out ivs (effective v ∷ [])) (cut_out_plain ivs (effective v ∷ []) (effective_plain v h.table, tt)) (retained_meet_lem ivs v m))
  where
    piece : (r : Range) → Plain r → meets (intersect_sides (own v.table) r) ≡ true → EntryPasses (piece_entry v r)
    piece r k n = go (same_range r (effective v))
      where
        go : (b : Bool) → EntryPasses (pick b (whole v) (cut v r))
        go true = h
        go false = record { table = view_table v h; plain = k; meets = n }

-- ---- the entries of outputs
-- what is cut out of a range passes the test only if the range does
cut_from : (r q : Range) → non_empty (overlap r q) ≡ true → non_empty q ≡ true
cut_from r q h =
    let c = rw (start_side_cut r.start q.start, end_side_cut r.end q.end) at (passes-≺ (overlap r q).start (overlap r q).end h) in
    ≺-passes q.start q.end (≺-≼-trans (≼-≺-trans (≼-later-right (start_cut r.start) (start_cut q.start)) c) (sooner-≼-right (end_cut r.end) (end_cut q.end)))

interval_plain : (o : Option Key) → not (is_excluded (start_bound o)) ≡ true
interval_plain none = refl
interval_plain (some k) = refl

identity_passes : (t : Table) → TablePasses t → ViewPasses (identity t)
unfolding visible_passes table_passes
identity_passes t h = record { range = refl; table = rw h.order; size = h.size }

output_entries_pass : (o : Option Key) (iv : Interval) (t : Table) → TablePasses t → All EntryPasses (output_entries o iv t)
unfolding output_entries
output_entries_pass none iv t h = (identity_passes t h, tt)
output_entries_pass (some b) iv t h = go (is_key t.last b) (non_empty (overlap (own t) (to_range iv))) refl
  where
    go : (c d : Bool) → non_empty (overlap (own t) (to_range iv)) ≡ d → All EntryPasses (pick c (pick d (cut (identity t) (to_range iv) ∷ []) []) (whole (identity t) ∷ []))
    go true true e =
        (record { table = h; plain = record { passes = cut_from (own t) (to_range iv) e; start = interval_plain iv.start }; meets = meets_is (own t) (to_range iv) ∙ e }, tt)
    go true false e = tt
    go false d e = (identity_passes t h, tt)

part_entries_pass : (p : Part) → All TablePasses p.outputs → All EntryPasses (part_entries p)
unfolding part_entries
part_entries_pass p h =
    All-flatMap (λ iv. Unit {0}) EntryPasses _ (λ iv w. All-flatMap TablePasses EntryPasses (output_entries (open_key p) iv) (output_entries_pass (open_key p) iv) p.outputs h)
    (listed (durable p)) (All-of (λ iv. tt) (listed (durable p)))

-- ---- from the checks
views_pass : (i : Image) → (image_checks i).ranges ≡ true → (image_checks i).tables ≡ true → (image_checks i).sizes ≡ true → All (λ r. All ViewPasses r.views) i
unfolding image_checks
views_pass i a b c =
    each i (all_each (λ r. all visible_passes r.views) i a) (all_each (λ r. all table_passes r.views) i b)
    (all_each (λ r. all (λ v. size_passes v.table) r.views) i c)
  where
    one :
        (vs : List View)
        → All (λ v. visible_passes v ≡ true) vs
        → All (λ v. table_passes v ≡ true) vs
        → All (λ v. size_passes v.table ≡ true) vs
        → All ViewPasses vs
    one [] x y z = tt
    one (v ∷ vs) x y z = (record { range = x.0; table = y.0; size = z.0 }, one vs x.1 y.1 z.1)

    each :
        (rs : List Run)
        → All (λ r. all visible_passes r.views ≡ true) rs
        → All (λ r. all table_passes r.views ≡ true) rs
        → All (λ r. all (λ v. size_passes v.table) r.views ≡ true) rs
        → All (λ r. All ViewPasses r.views) rs
    each [] x y z = tt
    each (r ∷ rs) x y z =
        (one r.views (all_each visible_passes r.views x.0) (all_each table_passes r.views y.0) (all_each (λ v. size_passes v.table) r.views z.0), each rs x.1 y.1 z.1)

-- and to them
ranges_pass : (i : Image) → All (λ r. All ViewPasses r.views) i → (image_checks i).ranges ≡ true
unfolding image_checks
ranges_pass i a = true_all _ i (All-map (λ r h. true_all visible_passes r.views (All-map (λ v k. k.range) r.views h)) i a)

tables_pass : (i : Image) → All (λ r. All ViewPasses r.views) i → (image_checks i).tables ≡ true
unfolding image_checks
tables_pass i a = true_all _ i (All-map (λ r h. true_all table_passes r.views (All-map (λ v k. k.table) r.views h)) i a)

sizes_pass : (i : Image) → All (λ r. All ViewPasses r.views) i → (image_checks i).sizes ≡ true
unfolding image_checks
sizes_pass i a = true_all _ i (All-map (λ r h. true_all (λ v. size_passes v.table) r.views (All-map (λ v k. k.size) r.views h)) i a)

ids_distinct : (i : Image) → (image_checks i).order ≡ true → distinct (map (λ r. r.id) i) ≡ true
unfolding image_checks
ids_distinct i e = and_second (all (λ r. ascend (starts r.views)) i) (distinct (map (λ r. r.id) i)) e

outputs_pass : (j : Job) → (job_checks j).tables ≡ true → (job_checks j).sizes ≡ true → All (λ p. All TablePasses p.outputs) j.parts
unfolding job_checks
outputs_pass j a b = All-both {P = λ (p : Part). all keys_in_order p.outputs ≡ true} {Q = λ (p : Part). all size_passes p.outputs ≡ true} one j.parts (all_each _ j.parts a) (all_each _ j.parts b)
  where
    one : (p : Part) → all keys_in_order p.outputs ≡ true → all size_passes p.outputs ≡ true → All TablePasses p.outputs
    one p x y =
        All-both {P = λ (t : Table). keys_in_order t ≡ true} {Q = λ (t : Table). size_passes t ≡ true} (λ t k l. record { order = k; size = l }) p.outputs (all_each keys_in_order p.outputs x) (all_each size_passes p.outputs y)

-- the views of a source retain only ranges that meet their table's own
meet_where_source : (i : Image) (j : Job) → retained_meet i j ≡ true → All (λ r. has r.id j.sources ≡ true → All (λ v. retained_meets (intervals j.parts) v ≡ true) r.views) i
unfolding retained_meet
meet_where_source i j e = All-map one i (all_each _ i e)
  where
    or_second : (a b : Bool) → (not a || b) ≡ true → a ≡ true → b ≡ true
    or_second true b e h = e
    or_second false b e h = absurd (false≢true h)

    one :
        (r : Run)
        → (not (has r.id j.sources) || all (retained_meets (intervals j.parts)) r.views) ≡ true
        → has r.id j.sources ≡ true
        → All (λ v. retained_meets (intervals j.parts) v ≡ true) r.views
    one r e h = all_each _ r.views (or_second (has r.id j.sources) _ e h)

-- ---- the new image
module _ (i : Image) (j : Job) (ids : List ℕ) (new : Image) (m : Made i j ids new) where
  is_source : has j.destination j.sources ≡ true
  unfolding destination_is_source
  is_source = m.passes.source

  old_pass : All (λ r. All ViewPasses r.views) i
  old_pass =
      views_pass i (and_first (image_checks i).ranges _ m.passes.first.ranges) (and_first (image_checks i).tables _ m.passes.first.tables)
      (and_first (image_checks i).sizes _ m.passes.first.sizes)

  outputs_of_lem : All (λ p. All TablePasses p.outputs) j.parts
  outputs_of_lem =
      outputs_pass j (and_second (image_checks i).tables _ m.passes.first.tables) (and_second (image_checks i).sizes _ m.passes.first.sizes)

  new_kept : Kept ViewPasses EntryPasses fill_passes j is_source i new
  new_kept =
      got_of (Kept ViewPasses EntryPasses fill_passes j is_source i) (fill_commit j i (supply ids)) new m.left m.drawn
      (fill_commit_keeps ViewPasses EntryPasses fill_passes j is_source i (supply ids)
      (All-flatMap (λ p. All TablePasses p.outputs) EntryPasses part_entries part_entries_pass j.parts outputs_of_lem)
      (All-both ready i old_pass (meet_where_source i j m.passes.meet))
      (supply_tens ids))
    where
      ready :
          (r : Run)
          → All ViewPasses r.views
          → (has r.id j.sources ≡ true → All (λ v. retained_meets (intervals j.parts) v ≡ true) r.views)
          → Ready ViewPasses EntryPasses fill_passes j is_source r
      ready r h k =
          record {
            views = h;
            entries = λ s. All-both (λ v x y. view_entries_pass (intervals j.parts) v x y) r.views h (k s);
          }

  pub new_distinct : distinct (map (λ r. r.id) new) ≡ true
  new_distinct = rw new_kept.ids (ids_distinct i (and_first (image_checks i).order _ m.passes.first.order))

-- what is written stands for the new image
pub accepted_stored : {given record' ids new : List ℕ} (a : Accepted given record' ids new) → ImageWithin a.before → Bytes record' → Stored new a.new
unfolding destination_is_source
accepted_stored {record'} {ids} a w c =
    let i = a.before in
    let j = a.progress in
    let m = a.made in
    let p = job_within record' j c a.progress_is in
    let n = new_within j i (supply ids) a.new m.left m.passes.source w p (supply_tens ids) m.drawn m.fits in
    let l = new_small j i (supply ids) a.new m.left m.passes.source w p (supply_tens ids) m.drawn m.fits in
    record { bytes = a.written; within = n; small = rw a.written l }

pub accepted_image_passes_again : AcceptedImagePassesAgain
accepted_image_passes_again given record' ids room new b c e =
    let a = accepted_commit given record' ids room new e in
    let v = (new_kept a.before a.progress ids a.new a.made).views in
    record {
      now = a.new;
      now_is = read_again new a.new (accepted_stored a (stored given a.before b a.before_is).within c);
      ranges = ranges_pass a.new v;
      tables = tables_pass a.new v;
      sizes = sizes_pass a.new v;
      ids = new_distinct a.before a.progress ids a.new a.made;
    }
