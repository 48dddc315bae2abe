-- The outputs that a commit writes for an interval start in it, in order.
-- Assumes nothing.
use mathlib.Core.Path.{◌≡◌, refl, ◌∙◌}
use mathlib.Core.Bool.{Bool, true, false}
use mathlib.Core.Option.{Option, none, some}
use mathlib.Core.List.{List, [], ◌∷◌, ◌++◌, map, flat_map, append-nil}
use Rattle.base.specs.Pick.{pick}
use Rattle.key.specs.Order.{Key}
use Rattle.comparable_range.specs.Range.{non_empty, overlap}
use Rattle.comparable_range.specs.Cut.{Cut, before, ◌≼◌, ◌≺◌, end_cut}
use Rattle.comparable_range.proofs.Cut.{≼_trans, ≼_refl, ≺-≼-trans, ≼-≺-trans, before-≺-after}
use Rattle.comparable_range.proofs.Lattice.{later_left, sooner-≼-right}
use Rattle.comparable_range.proofs.ByCuts.{start_side_cut, end_side_cut, passes-≺}
use Rattle.records.specs.Values.{Table, View, Part}
use Rattle.manifest.specs.Ranges.{own, effective}
use Rattle.incremental_progress.specs.Intervals.{Interval, listed, to_range}
use Rattle.incremental_progress.specs.Views.{start}
use Rattle.incremental_progress.proofs.Marked.{cut_view, marked}
use Rattle.incremental_progress.specs.Parts.{planned_interval, is_key, durable, intervals, identity, open_key}
use Rattle.incremental_progress.specs.Draws.{Ten, got, fill_all}
use Rattle.incremental_progress.specs.Entries.{Entry, whole, cut, output_entries, part_entries}
use Rattle.incremental_progress.specs.Gaps.{of_interval, fill_parts}
use Rattle.base.specs.Lists.{All, All-map, All-append, All-unmapped, Pairwise, Pairwise-append, Pairwise-all, map_flat_map}
use Rattle.incremental_progress.proofs.Sort.{Sorted}
use Rattle.incremental_progress.proofs.Job.{from_cut, to_cut, Ascending, no_more, output, Planned, no_parts, with_part, Fits, fits_all, uncut, Status, finished, nothing, ongoing, status}
use Rattle.incremental_progress.proofs.GapLaws.{Outs, no_outs, outs_of}
use Rattle.incremental_progress.proofs.Filling.{through}
use Rattle.incremental_progress.proofs.FilledViews.{filled_starts}

abbrev marked_start : Entry → Cut
marked_start e = start (marked e)

-- ---- one output
-- an output that is not cut starts in the interval
abbrev Uncut : Option Key → Interval → Table → Type 0
Uncut k iv t = ((b : Key) → k ≡ some b → is_key t.last b ≡ false) → before t.first ≺ to_cut iv

-- a cut where the output starts
abbrev At : Interval → Table → Cut → Type 0
At iv t x = (x ≡ before t.first) × (x ≺ to_cut iv)

whole_starts : (t : Table) → start (identity t) ≡ before t.first
unfolding effective
whole_starts t = refl

cut_starts : (iv : Interval) (t : Table) → from_cut iv ≼ before t.first → start (cut_view (identity t) (to_range iv)) ≡ before t.first
unfolding effective
cut_starts iv t h = rw start_side_cut (later_left h)

cut_within : (iv : Interval) (t : Table) → from_cut iv ≼ before t.first → non_empty (overlap (own t) (to_range iv)) ≡ true → before t.first ≺ to_cut iv
cut_within iv t h n =
    let r = overlap (own t) (to_range iv) in
    let m = rw (start_side_cut (own t).start (to_range iv).start, end_side_cut (own t).end (to_range iv).end, later_left h) at (passes-≺ r.start r.end n) in
    ≺-≼-trans m (sooner-≼-right (end_cut (own t).end) (to_cut iv))

output_at : (k : Option Key) (iv : Interval) (t : Table) → from_cut iv ≼ before t.first → Uncut k iv t → All (At iv t) (map marked_start (output_entries k iv t))
unfolding output_entries
output_at none iv t h u = ((whole_starts t, rw whole_starts (u (λ b e. cc))), tt)
output_at (some b) iv t h u = go (is_key t.last b) refl (non_empty (overlap (own t) (to_range iv))) refl
  where
    go : (d : Bool) → is_key t.last b ≡ d → (n : Bool) → non_empty (overlap (own t) (to_range iv)) ≡ n
        → All (At iv t) (map marked_start (pick d (pick n (cut (identity t) (to_range iv) ∷ []) []) (whole (identity t) ∷ [])))
    go true d true n = ((cut_starts iv t h, rw (cut_starts iv t h) (cut_within iv t h n)), tt)
    go true d false n = tt
    go false d n e = ((whole_starts t, rw whole_starts (u (λ c f. let g : b ≡ c = cc in rw (← g) d))), tt)

-- ---- the outputs of an interval
abbrev out_starts : Option Key → Interval → List Table → List Cut
out_starts k iv ts = flat_map (λ t. map marked_start (output_entries k iv t)) ts

outputs_in_lem : {e c : Cut} {ts : List Table} (k : Option Key) (iv : Interval) → Ascending e c ts → from_cut iv ≼ c → All (Uncut k iv) ts
    → All (λ x. (c ≼ x) × (x ≺ to_cut iv)) (out_starts k iv ts)
unfolding flat_map
outputs_in_lem k iv no_more h u = tt
outputs_in_lem {c} k iv (output {t} {ts} i b r m a) h u =
    let mine = map marked_start (output_entries k iv t) in
    let rest = out_starts k iv ts in
    All-append (λ x. (c ≼ x) × (x ≺ to_cut iv)) mine rest
    (All-map (λ x n. (rw n.0 b, n.1)) mine (output_at k iv t (≼_trans h b) u.0))
    (All-map (λ x n. (≼_trans (≼_trans b r) n.0, n.1)) rest (outputs_in_lem k iv a (≼_trans h (≼_trans b r)) u.1))

outputs_sorted : {e c : Cut} {ts : List Table} (k : Option Key) (iv : Interval) → Ascending e c ts → from_cut iv ≼ c → All (Uncut k iv) ts
    → Pairwise ◌≼◌ (out_starts k iv ts)
unfolding flat_map
outputs_sorted k iv no_more h u = tt
outputs_sorted k iv (output {t} {l} {ts} i b r m a) h u =
    let mine = map marked_start (output_entries k iv t) in
    let rest = out_starts k iv ts in
    let here = output_at k iv t (≼_trans h b) u.0 in
    let far : from_cut iv ≼ before l = ≼_trans h (≼_trans b r) in
    Pairwise-append ◌≼◌ mine rest
    (Pairwise-all (At iv t) ◌≼◌ (λ x y p q. rw (p.0, q.0) (≼_refl (before t.first))) mine here)
    (outputs_sorted k iv a far u.1)
    (All-map {Q = λ x. All (λ y. x ≼ y) rest} (λ x p. All-map (λ y n. rw p.0 (≼_trans r n.0)) rest (outputs_in_lem k iv a far u.1)) mine here)

Pairwise-unmapped : {A B : Type 0} (R : B → B → Type 0) (f : A → B) (xs : List A) → Pairwise R (map f xs) → Pairwise (λ x y. R (f x) (f y)) xs
Pairwise-unmapped R f [] p = tt
Pairwise-unmapped R f (x ∷ xs) p = (All-unmapped (R (f x)) f xs p.0, Pairwise-unmapped R f xs p.1)

-- the same of the views that fill them
module _ (k : Option Key) (iv : Interval) {e : Cut} {ts : List Table} (a : Ascending e (from_cut iv) ts) (u : All (Uncut k iv) ts)
    (s : List Ten) (vs : List View) (t : List Ten) (f : fill_all (flat_map (output_entries k iv) ts) s ≡ got vs t) where
  filled_at : map start vs ≡ out_starts k iv ts
  filled_at = filled_starts (flat_map (output_entries k iv) ts) s vs t f ∙ map_flat_map marked_start (output_entries k iv) ts

  filled_in : All (λ v. (from_cut iv ≼ start v) × (start v ≺ to_cut iv)) vs
  filled_in = All-unmapped (λ x. (from_cut iv ≼ x) × (x ≺ to_cut iv)) start vs (rw filled_at (outputs_in_lem k iv a (≼_refl (from_cut iv)) u))

  filled_sorted : Sorted start vs
  filled_sorted = Pairwise-unmapped ◌≼◌ start vs (rw filled_at (outputs_sorted k iv a (≼_refl (from_cut iv)) u))

-- ---- the parts
fits_in : {c e : Cut} {t : Table} → Fits c e t → before t.first ≺ e
fits_in f = ≼-≺-trans f.runs (≺-≼-trans (before-≺-after f.key) f.ends)

entries_of : (p : Part) (iv : Interval) → durable p ≡ some iv → part_entries p ≡ flat_map (output_entries (open_key p) iv) p.outputs
unfolding part_entries flat_map
entries_of p iv e = rw e (append-nil _)

part_outs : (p : Part) → Ascending (to_cut (planned_interval p)) (from_cut (planned_interval p)) p.outputs → Status p
    → (s : List Ten) (vs : List View) (t : List Ten) → fill_all (part_entries p) s ≡ got vs t
    → {ivs : List Interval} {outs : List (List View)} → Outs from_cut to_cut start ivs outs
    → Outs from_cut to_cut start (listed (durable p) ++ ivs) (of_interval (durable p) vs ++ outs)
part_outs p a (nothing d e f) s vs t i o = rw e o
part_outs p a (finished d e f) s vs t i o =
    let iv = planned_interval p in
    let u : All (Uncut none iv) p.outputs = All-map (λ t h g. fits_in h) p.outputs (fits_all a) in
    let j : fill_all (flat_map (output_entries none iv) p.outputs) s ≡ got vs t = rw (entries_of p iv e, f) at i in
    rw e (outs_of (filled_in none iv a u s vs t j) (filled_sorted none iv a u s vs t j) o)
part_outs p a (ongoing b d k e f m n l) s vs t i o =
    let iv : Interval = record { start = (planned_interval p).start; end = some b } in
    let u : All (Uncut (some b) iv) p.outputs = All-map (λ t h g. fits_in (uncut t h (g b refl))) p.outputs l in
    let j : fill_all (flat_map (output_entries (some b) iv) p.outputs) s ≡ got vs t = rw (entries_of p iv e, f) at i in
    rw e (outs_of (filled_in (some b) iv a u s vs t j) (filled_sorted (some b) iv a u s vs t j) o)

-- The outputs of each interval start in it, in order.
pub outs_in : {c : Cut} {ps : List Part} → Planned c ps → (s : List Ten) (outs : List (List View)) (t : List Ten) → fill_parts ps s ≡ got outs t
    → Outs from_cut to_cut start (intervals ps) outs
unfolding fill_parts intervals flat_map
outs_in no_parts s outs t e = let f : [] ≡ outs = cc in rw (← f) no_outs
outs_in (with_part {p} {ps} h r a n) s outs t e =
    let one = through (fill_all (part_entries p) s) _ outs t e in
    let more = through (fill_parts ps one.rest) _ outs t one.second in
    let g = more.second in
    let all : of_interval (durable p) one.value ++ more.value ≡ outs = cc in
    rw (← all) (part_outs p a (status p a) s one.value one.rest one.first (outs_in n one.rest more.value more.rest more.first))
