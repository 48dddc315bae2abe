-- The destination: what it shows, and that a later record's commit makes of an earlier one's what it makes of the first.
-- Assumes nothing.
use Prim.Native.Nat.{◌+◌}
use native.Mathlib.Omega.{arith}
use mathlib.Core.Path.{◌≡◌, refl, ap, ap₂, ◌∙◌}
use mathlib.Core.Logic.{◌⊎◌, inl, inr}
use mathlib.Core.Bool.{Bool, false}
use mathlib.Core.List.{List, [], ◌∷◌, ◌++◌, map, flat_map, append-nil}
use Rattle.base.specs.Pick.{pick}
use Rattle.key.specs.Order.{Key}
use Rattle.comparable_range.specs.Cut.{Cut, cut_at_most, ◌≼◌, end_cut}
use Rattle.comparable_range.proofs.Cut.{≼_trans, ≼_refl, ≼-not-≺, ≺-≼-trans, order}
use Rattle.records.specs.Values.{Table, View}
use Rattle.manifest.specs.Ranges.{effective}
use Rattle.incremental_progress.specs.Intervals.{Interval, cut_out, any_holds}
use Rattle.incremental_progress.specs.Views.{start, shown}
use Rattle.incremental_progress.proofs.Marked.{piece, retained, cut_run, cut_destination}
use Rattle.base.specs.Lists.{All, All-map, All-of, All-mapped, All-unmapped, All-both, All-flatMap, All-forall, Pairwise, Pairwise-append, Pairwise-all, Pairwise-map, flat_map_append, flat_map_none}
use Rattle.base.specs.Sort.{insert, sort}
use Rattle.base.specs.StableSort.{at, alike}
use Rattle.base.proofs.StableSortLaws.{at_none}
use Rattle.incremental_progress.proofs.Sort.{alike_before, alike_after, Sorted, Untied, sort_between, insert_first, insert_next}
use Rattle.incremental_progress.proofs.Cutting.{Grown}
use Rattle.incremental_progress.proofs.Subtraction.{cuts, span_of, cut_out_cuts, Sound, All-spans}
use Rattle.incremental_progress.proofs.Pieces.{Inside, Has, Starts, floors, floors_mono, starts_cut}
use Rattle.incremental_progress.proofs.Views.{Showing, cut_inside, effective_piece, cut_run_later, shown_append, shown_cut_run}

-- ---- what it shows
shown_insert : (p : Table → Bool) (x : Key) (v : View) (vs : List View) → shown p x (insert cut_at_most start v vs) ≡ shown p x (v ∷ vs)
unfolding shown insert
shown_insert p x v [] = refl
shown_insert p x v (w ∷ vs) =
    elim (order (start v) (start w)) [
      | inl h ↦ rw (insert_first start vs h)
      | inr h ↦ rw (insert_next start vs h) (omega (arith, shown_insert p x v vs))
    ]

pub shown_sort : (p : Table → Bool) (x : Key) (vs : List View) → shown p x (sort cut_at_most start vs) ≡ shown p x vs
unfolding sort shown
shown_sort p x [] = refl
shown_sort p x (v ∷ vs) = shown_insert p x v (sort cut_at_most start vs) ∙ rw (shown_sort p x vs)

-- Outside the intervals the destination shows a key as it did, and inside not at all; and the outputs besides.
pub shown_destination : (p : Table → Bool) (x : Key) (ivs : List Interval) → All Sound ivs → (outs vs : List View) → All Showing vs
    → shown p x (cut_destination ivs outs vs) ≡ pick (any_holds ivs x) 0 (shown p x vs) + shown p x outs
unfolding cut_destination
shown_destination p x ivs a outs vs n = rw (shown_sort, shown_append, shown_cut_run p x ivs a vs n)

-- ---- sorting in between
retained_inside : (ivs : List Interval) (v : View) → Showing v → All (λ w. Inside (cuts (effective w)) (cuts (effective v))) (retained ivs v)
unfolding retained
retained_inside ivs v n =
    All-mapped _ (piece v) (cut_out ivs (effective v ∷ []))
    (All-map {Q = λ r. Inside (cuts (effective (piece v r))) (cuts (effective v))} (λ r h. rw (effective_piece v r h) h) (cut_out ivs (effective v ∷ [])) (cut_inside ivs (effective v) n))

-- no piece starts at a cut that the view does not hold
at_outside : (ivs : List Interval) (c : Cut) (v : View) → Showing v → (at cut_at_most start c (retained ivs v) ≡ []) ⊎ Has c (cuts (effective v))
at_outside ivs c v n =
    elim (order (start v) c) [
      | inr h ↦ inl (none (λ w k. alike_after (≺-≼-trans h k.starts)))
      | inl h ↦ elim (order (end_cut (effective v).end) c) [
        | inl l ↦ inl (none (λ w k. alike_before (≺-≼-trans k.runs (≼_trans k.ends l))))
        | inr l ↦ inr (h, l)
      ]
    ]
  where
    none : ((w : View) → Inside (cuts (effective w)) (cuts (effective v)) → alike cut_at_most (start w) c ≡ false) → at cut_at_most start c (retained ivs v) ≡ []
    none f = at_none cut_at_most start c (retained ivs v) (All-map f (retained ivs v) (retained_inside ivs v n))

-- of two that hold one cut the first starts no later
abbrev InOrder : View → View → Type 0
InOrder x y = (c : Cut) → Has c (cuts (effective x)) → Has c (cuts (effective y)) → start x ≼ start y

untied : (ivs : List Interval) (x y : View) → Showing x → Showing y → InOrder x y → Untied start (retained ivs) x y
untied ivs x y n m o h c =
    elim (at_outside ivs c x n) [
      | inl e ↦ inl e
      | inr k ↦ elim (at_outside ivs c y m) [ inl e ↦ inr e | inr l ↦ ≼-not-≺ (o c k l) h ]
    ]

-- where the pieces of a view start
abbrev Placed : List Interval → View → View → Type 0
Placed ivs v x = (c : Cut) → Has c (cuts (effective x)) → start x ≡ floors (start v) (map span_of ivs) c

placed : (ivs : List Interval) → All Sound ivs → (v : View) → Showing v → All (Placed ivs v) (retained ivs v)
unfolding retained
placed ivs a v n = All-forall _ (retained ivs v) each
  where
    each : (c : Cut) → All (λ x. Has c (cuts (effective x)) → start x ≡ floors (start v) (map span_of ivs) c) (retained ivs v)
    each c =
        All-mapped _ (piece v) (cut_out ivs (effective v ∷ []))
        (All-both {Q = λ r. Starts c (floors (start v) (map span_of ivs) c) (cuts r)} {R = λ r. Has c (cuts (effective (piece v r))) → start (piece v r) ≡ floors (start v) (map span_of ivs) c} (λ r h s. rw (effective_piece v r h) s) (cut_out ivs (effective v ∷ [])) (cut_inside ivs (effective v) n)
        (All-unmapped (Starts c (floors (start v) (map span_of ivs) c)) cuts (cut_out ivs (effective v ∷ []))
        (rw cut_out_cuts (starts_cut c (start v) (map span_of ivs) (cuts (effective v) ∷ []) (All-spans ivs a) (λ _. refl, tt)))))

in_order : (ivs : List Interval) (v w x y : View) → start v ≼ start w → Placed ivs v x → Placed ivs w y → InOrder x y
in_order ivs v w x y h p q c k l = rw (p c k, q c l) (floors_mono (map span_of ivs) c h)

run_in_order : (ivs : List Interval) → All Sound ivs → (vs : List View) → All Showing vs → Sorted start vs → Pairwise InOrder (cut_run ivs vs)
unfolding cut_run flat_map
run_in_order ivs a [] n s = tt
run_in_order ivs a (v ∷ vs) n s =
    let here : All (Placed ivs v) (retained ivs v) = placed ivs a v n.0 in
    Pairwise-append InOrder (retained ivs v) (flat_map (retained ivs) vs)
    (Pairwise-all (Placed ivs v) InOrder (λ x y p q. in_order ivs v v x y (≼_refl (start v)) p q) (retained ivs v) here)
    (run_in_order ivs a vs n.1 s.1)
    (All-map {Q = λ x. All (InOrder x) (flat_map (retained ivs) vs)} (λ x p. All-flatMap (λ w. (start v ≼ start w) × Showing w) (InOrder x) (retained ivs)
    (λ w h. All-map (λ y q. in_order ivs v w x y h.0 p q) (retained ivs w) (placed ivs a w h.1)) vs (All-both {R = λ w. (start v ≼ start w) × Showing w} (λ w h m. (h, m)) vs s.0 n.1))
    (retained ivs v) here)

run_showing : (ivs : List Interval) (vs : List View) → All Showing vs → All Showing (cut_run ivs vs)
unfolding cut_run
run_showing ivs vs n = All-flatMap Showing Showing (retained ivs) (λ v m. All-map (λ w h. h.runs) (retained ivs v) (retained_inside ivs v m)) vs n

-- The earlier record's outputs vanish: of each the later record's intervals leave nothing.
abbrev pub Vanish : List Interval → View → Type 0
Vanish ivs o = retained ivs o ≡ []

-- Committing an earlier record and then a later one makes of the destination what committing the later one does.
pub destination_later : {c : Cut} (es ls : List Interval) → Grown c (map span_of es) (map span_of ls) → All Sound es
    → (outs outs' vs : List View) → All (Vanish ls) outs → All Showing vs → Sorted start vs
    → cut_destination ls outs' (cut_destination es outs vs) ≡ cut_destination ls outs' vs
unfolding cut_destination cut_run at
destination_later es ls g a outs outs' vs v n s =
    sort_between start (retained ls) (cut_run es vs ++ outs) outs' bounds_pass
    ∙ ap (λ (t : List View). sort cut_at_most start (t ++ outs')) same
  where
    same : flat_map (retained ls) (cut_run es vs ++ outs) ≡ cut_run ls vs
    same = flat_map_append (retained ls) (cut_run es vs) outs
        ∙ ap₂ (λ (t u : List View). t ++ u) (cut_run_later es ls g vs n) (flat_map_none (retained ls) outs v) ∙ append-nil (cut_run ls vs)

    bounds_pass : Pairwise (Untied start (retained ls)) (cut_run es vs ++ outs)
    bounds_pass =
        Pairwise-append (Untied start (retained ls)) (cut_run es vs) outs
        (Pairwise-map Showing InOrder (Untied start (retained ls)) (λ x y p q o. untied ls x y p q o) (cut_run es vs) (run_showing es vs n) (run_in_order es a vs n s))
        (Pairwise-all (Vanish ls) (Untied start (retained ls)) (λ x y p q h c. inl (ap (at cut_at_most start c) p)) outs v)
        (All-of (λ x. All-map (λ y q h c. inr (ap (at cut_at_most start c) q)) outs v) (cut_run es vs))
