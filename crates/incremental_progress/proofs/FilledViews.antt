-- Views that fill entries: as many, in the same order, each with its entry's effective range; and filled part by part.
-- Assumes nothing.
use mathlib.Core.Path.{◌≡◌, refl, sym, ap, ◌∙◌}
use mathlib.Core.Option.{Option, none, some}
use mathlib.Core.List.{List, [], ◌∷◌, ◌++◌, map, flat_map, flatten}
use lib.ListN.{length, length-map}
use Rattle.comparable_range.specs.Range.{Range}
use Rattle.comparable_range.specs.Cut.{Cut, start_cut}
use Rattle.records.specs.Values.{View, Part}
use Rattle.manifest.specs.Ranges.{effective}
use Rattle.incremental_progress.specs.Views.{start}
use Rattle.incremental_progress.specs.Intervals.{Interval, listed}
use Rattle.incremental_progress.specs.Parts.{durable, open_key}
use Rattle.incremental_progress.specs.Draws.{Ten, Drawn, used_up, got, next, draw, drawn_view, fill, fill_all}
use Rattle.incremental_progress.specs.Entries.{Entry, whole, cut, output_entries, part_entries}
use Rattle.incremental_progress.proofs.Marked.{marked}
use Rattle.incremental_progress.specs.Gaps.{of_interval, fill_parts}
use Rattle.incremental_progress.proofs.Filling.{through}

-- ---- each view shows what its entry does
fill_shows : (e : Entry) (s : List Ten) (v : View) (t : List Ten) → fill e s ≡ got v t → effective v ≡ effective (marked e)
unfolding effective
fill_shows (whole w) s v t e = let f : w ≡ v = cc in rw f
fill_shows (cut w r) s v t e =
    let h = through (draw w.id s) (λ ten s. got (drawn_view w r ten) s) v t e in
    let g = h.second in
    let f : drawn_view w r h.value ≡ v = cc in
    rw (← f)

pub filled_show : (es : List Entry) (s : List Ten) (vs : List View) (t : List Ten) → fill_all es s ≡ got vs t
    → map effective vs ≡ map (λ e. effective (marked e)) es
unfolding fill_all
filled_show [] s vs t e = let f : [] ≡ vs = cc in rw (← f)
filled_show (o ∷ es) s vs t e =
    let h = through (fill o s) _ vs t e in
    let k = through (fill_all es h.rest) _ vs t h.second in
    let g = k.second in
    let f : h.value ∷ k.value ≡ vs = cc in
    rw (← f, fill_shows o s h.value h.rest h.first, filled_show es h.rest k.value k.rest k.first)

pub map_map : {A B C : Type 0} (f : B → C) (g : A → B) (xs : List A) → map f (map g xs) ≡ map (λ x. f (g x)) xs
map_map f g [] = refl
map_map f g (x ∷ xs) = rw (map_map f g xs)

-- so it starts where its entry does
pub filled_starts : (es : List Entry) (s : List Ten) (vs : List View) (t : List Ten) → fill_all es s ≡ got vs t → map start vs ≡ map (λ e. start (marked e)) es
filled_starts es s vs t e =
    sym (map_map start_of effective vs) ∙ ap (map start_of) (filled_show es s vs t e) ∙ map_map start_of (λ e. effective (marked e)) es
  where
    start_of : Range → Cut
    start_of r = start_cut r.start

pub filled_length : (es : List Entry) (s : List Ten) (vs : List View) (t : List Ten) → fill_all es s ≡ got vs t → length vs ≡ length es
filled_length es s vs t e =
    sym (length-map vs effective) ∙ ap length (filled_show es s vs t e) ∙ length-map es (λ e. effective (marked e))

-- ---- one list of entries after another
pub next_next : {A B C : Type 0} (d : Drawn A) (f : A → List Ten → Drawn B) (g : B → List Ten → Drawn C) → next (next d f) g ≡ next d (λ a s. next (f a s) g)
next_next used_up f g = refl
next_next (got a s) f g = refl

pub fill_append : (es fs : List Entry) (s : List Ten)
    → fill_all (es ++ fs) s ≡ next (fill_all es s) (λ vs s. next (fill_all fs s) (λ ws s. got (vs ++ ws) s))
unfolding fill_all
fill_append [] fs s = go (fill_all fs s)
  where
    go : (d : Drawn (List View)) → d ≡ next d (λ ws s. got ws s)
    go used_up = refl
    go (got ws s) = refl
fill_append (e ∷ es) fs s = simp (fill_append es fs, next_next)

-- a part without an interval has no entries, so that nothing of it is left out
fill_part : (p : Part) (s : List Ten) (f : List Ten → Drawn (List (List View)))
    → next (fill_all (part_entries p) s) (λ vs s. next (f s) (λ outs s. got (vs ++ flatten outs) s))
    ≡ next (fill_all (part_entries p) s) (λ vs s. next (f s) (λ outs s. got (flatten (of_interval (durable p) vs ++ outs)) s))
unfolding part_entries fill_all flat_map flatten
fill_part p s f = go (durable p)
  where
    entries : Option Interval → List Entry
    entries o = flat_map (λ iv. flat_map (output_entries (open_key p) iv) p.outputs) (listed o)

    go : (o : Option Interval) → next (fill_all (entries o) s) (λ vs s. next (f s) (λ outs s. got (vs ++ flatten outs) s))
        ≡ next (fill_all (entries o) s) (λ vs s. next (f s) (λ outs s. got (flatten (of_interval o vs ++ outs)) s))
    go none = refl
    go (some iv) = refl

-- Filled part by part, the outputs are the same and the rest of the supply is too.
pub fill_parts_lem : (ps : List Part) (s : List Ten) → fill_all (flat_map part_entries ps) s ≡ next (fill_parts ps s) (λ outs s. got (flatten outs) s)
unfolding fill_parts flat_map fill_all flatten
fill_parts_lem [] s = refl
fill_parts_lem (p ∷ ps) s = simp (fill_append (part_entries p), fill_parts_lem ps, next_next) (fill_part p s (λ s. fill_parts ps s))
