-- What a commit retains of a view: it shows what the view showed outside the intervals; and cutting by an earlier record, and
-- then by a later one, is cutting by the later one.
-- Assumes nothing.
use Prim.Native.Nat.{ℕ, ◌+◌}
use native.Mathlib.Omega.{arith}
use mathlib.Core.Path.{◌≡◌, refl, sym, ap, ◌∙◌}
use mathlib.Core.Logic.{◌⊎◌, inl, inr}
use mathlib.Core.Bool.{Bool, true, false, ◌&&◌}
use mathlib.Core.Option.{Option, none, some}
use mathlib.Core.List.{List, [], ◌∷◌, ◌++◌, map, flat_map}
use Rattle.base.specs.Pick.{pick}
use Rattle.key.specs.Order.{Key, is_equal}
use Rattle.std.specs.declared.cmp.Ordering.{Ordering}
use Rattle.std.specs.declared.cmp.Ordering.TheVariants.{Less, Equal, Greater}
use Rattle.key.proofs.Linear.{cmp_self}
use Rattle.comparable_range.specs.Range.{Range, cmp_bound, non_empty, holds, overlap, intersect_sides, meets}
use Rattle.comparable_range.specs.Cut.{Cut, cmp_cut, ◌≼◌, ◌≺◌, start_cut, end_cut}
use Rattle.comparable_range.proofs.Cut.{cut_order_is_total, ≼_trans, ≼_refl, ≼-antisym}
use Rattle.comparable_range.proofs.Lattice.{later_right, sooner_right, sooner-≼-left, ≼-later-left}
use Rattle.comparable_range.proofs.ByCuts.{cmp_start, cmp_end, ≺-passes, start_side_cut, end_side_cut}
use Rattle.comparable_range.proofs.Unions.{meets_is}
use Rattle.records.specs.Values.{Table, View}
use Rattle.records.specs.declared.ids.ViewId.{ViewId}
use Rattle.manifest.specs.Ranges.{own, cut_by, effective}
use Rattle.incremental_progress.specs.Intervals.{Interval, subtract_from, cut_out, any_holds, bit, times}
use Rattle.incremental_progress.specs.Views.{same_range, shown}
use Rattle.incremental_progress.proofs.Marked.{only_time, cut_view, piece, retained, cut_run}
use Rattle.base.specs.Lists.{All, All-map, All-unmapped, map_alike, flat_map_append, flat_map_alike, flat_map_flat_map, flat_map_map, map_flat_map, take_again}
use Rattle.incremental_progress.proofs.Cutting.{Grown}
use Rattle.incremental_progress.proofs.Subtraction.{cuts, same_cuts, span_of, cut_out_cuts, Sound, cut_out_later, times_cut_out}
use Rattle.incremental_progress.proofs.Pieces.{Inside, inside_cut}

-- ---- ranges with equal bounds are the same
pub same_range_self : (r : Range) → same_range r r ≡ true
unfolding same_range
same_range_self r = rw (cmp_start, cmp_end, cmp_self cmp_cut cut_order_is_total (start_cut r.start), cmp_self cmp_cut cut_order_is_total (end_cut r.end))

ties : (o p : Ordering) → (is_equal o && is_equal p) ≡ true → (o ≡ Equal) × (p ≡ Equal)
ties Less p e = (cc, cc)
ties Equal Less e = (cc, cc)
ties Equal Equal e = (refl, refl)
ties Equal Greater e = (cc, cc)
ties Greater p e = (cc, cc)

pub same_range_eq : (r q : Range) → same_range r q ≡ true → r ≡ q
unfolding same_range
same_range_eq r q h =
    let t = ties (cmp_bound true r.start q.start) (cmp_bound false r.end q.end) h in
    same_cuts r q (cut_order_is_total.equal _ _ (sym (cmp_start r.start q.start) ∙ t.0)) (cut_order_is_total.equal _ _ (sym (cmp_end r.end q.end) ∙ t.1))

same_or_not : (r q : Range) → (r ≡ q) ⊎ (same_range r q ≡ false)
same_or_not r q = go (same_range r q) refl
  where
    go : (b : Bool) → same_range r q ≡ b → (r ≡ q) ⊎ (same_range r q ≡ false)
    go true e = inl (same_range_eq r q e)
    go false e = inr e

-- ---- a piece
pub piece_whole : (v : View) → piece v (effective v) ≡ v
unfolding piece
piece_whole v = rw (same_range_self (effective v))

piece_part : (v : View) (r : Range) → same_range r (effective v) ≡ false → piece v r ≡ cut_view v r
unfolding piece
piece_part v r e = rw e

pub piece_table : (v : View) (r : Range) → (piece v r).table ≡ v.table
piece_table v r = elim (same_or_not r (effective v)) [ inl e ↦ rw (e, piece_whole) | inr e ↦ rw (piece_part v r e) ]

-- a view shows no more than its table has
starts_own : (v : View) → start_cut (own v.table).start ≼ start_cut (effective v).start
unfolding effective
starts_own v = go v.visible
  where
    go : (o : Option Range) → start_cut (own v.table).start ≼ start_cut (cut_by o (own v.table)).start
    go none = ≼_refl _
    go (some q) = rw start_side_cut (≼-later-left _ _)

ends_own : (v : View) → end_cut (effective v).end ≼ end_cut (own v.table).end
unfolding effective
ends_own v = go v.visible
  where
    go : (o : Option Range) → end_cut (cut_by o (own v.table)).end ≼ end_cut (own v.table).end
    go none = ≼_refl _
    go (some q) = rw end_side_cut (sooner-≼-left _ _)

overlap_inside : (v : View) (r : Range) → Inside (cuts r) (cuts (effective v)) → overlap (own v.table) r ≡ r
overlap_inside v r h =
    same_cuts _ r (rw (start_side_cut, later_right (≼_trans (starts_own v) h.starts))) (rw (end_side_cut, sooner_right (≼_trans h.ends (ends_own v))))

clipped : (v : View) (r : Range) → Inside (cuts r) (cuts (effective v)) → effective (cut_view v r) ≡ r
unfolding effective
clipped v r h = overlap_inside v r h

-- A range inside a view's effective range is the effective range of that piece of it.
pub effective_piece : (v : View) (r : Range) → Inside (cuts r) (cuts (effective v)) → effective (piece v r) ≡ r
effective_piece v r h =
    elim (same_or_not r (effective v)) [
      | inl e ↦ rw (e, piece_whole)
      | inr e ↦ rw (piece_part v r e) (clipped v r h)
    ]

-- What is retained of a view meets its table's own range, so that stop 13 never arises.
pub retained_meets_lem : (v : View) (r : Range) → Inside (cuts r) (cuts (effective v)) → meets (intersect_sides (own v.table) r) ≡ true
retained_meets_lem v r h = meets_is (own v.table) r ∙ ap (λ (q : Range). non_empty q) (overlap_inside v r h) ∙ ≺-passes r.start r.end h.runs

-- the time of a time is that time, so a piece of a piece keeps the view's time
pub time_again : (id : ViewId) → only_time (only_time id) ≡ only_time id
time_again id = rw take_again

pub cut_again : (v : View) (r q : Range) → cut_view (cut_view v r) q ≡ cut_view v q
cut_again v r q = ap (λ (id : ViewId). record { id = id; table = v.table; visible = some q }) (time_again v.id)

-- a piece of a piece is a piece
pub piece_piece : (v : View) (r q : Range) → Inside (cuts r) (cuts (effective v)) → Inside (cuts q) (cuts r) → piece (piece v r) q ≡ piece v q
piece_piece v r q h k =
    elim (same_or_not r (effective v)) [
      | inl e ↦ rw (e, piece_whole)
      | inr e ↦ rw (piece_part v r e) (go e (same_or_not q r))
    ]
  where
    -- q is not all that v shows, for then r would be
    smaller : same_range r (effective v) ≡ false → same_range q (effective v) ≡ false
    smaller e =
        elim (same_or_not q (effective v)) [
          | inr f ↦ f
          | inl f ↦
              let g : r ≡ effective v = same_cuts r (effective v) (≼-antisym (rw f at k.starts) h.starts) (≼-antisym h.ends (rw f at k.ends)) in
              cc
        ]

    go : same_range r (effective v) ≡ false → (q ≡ r) ⊎ (same_range q r ≡ false) → piece (cut_view v r) q ≡ piece v q
    go e (inl f) = rw (f, piece_part v r e) (ap (piece (cut_view v r)) (sym (clipped v r h)) ∙ piece_whole (cut_view v r))
    go e (inr f) = rw (piece_part (cut_view v r) q (rw (clipped v r h) f), piece_part v q (smaller e)) (cut_again v r q)

-- ---- what is retained of a view
-- a view that shows some place
abbrev pub Showing : View → Type 0
Showing v = start_cut (effective v).start ≺ end_cut (effective v).end

pub cut_inside : (ivs : List Interval) (r : Range) → start_cut r.start ≺ end_cut r.end → All (λ q. Inside (cuts q) (cuts r)) (cut_out ivs (r ∷ []))
cut_inside ivs r n =
    All-unmapped (λ s. Inside s (cuts r)) cuts (cut_out ivs (r ∷ []))
    (rw cut_out_cuts (inside_cut (map span_of ivs) (cuts r) (cuts r ∷ []) (record { starts = ≼_refl _; runs = n; ends = ≼_refl _ }, tt)))

pub cut_append : (ivs : List Interval) (s t : List Range) → cut_out ivs (s ++ t) ≡ cut_out ivs s ++ cut_out ivs t
unfolding cut_out
cut_append [] s t = refl
cut_append (iv ∷ ivs) s t = rw (flat_map_append (subtract_from iv) s t) (cut_append ivs _ _)

pub cut_nothing : (ivs : List Interval) → cut_out ivs [] ≡ []
unfolding cut_out flat_map
cut_nothing [] = refl
cut_nothing (iv ∷ ivs) = cut_nothing ivs

cut_each : (ivs : List Interval) (rs : List Range) → cut_out ivs rs ≡ flat_map (λ r. cut_out ivs (r ∷ [])) rs
unfolding flat_map
cut_each ivs [] = cut_nothing ivs
cut_each ivs (r ∷ rs) = cut_append ivs (r ∷ []) rs ∙ ap (λ (t : List Range). cut_out ivs (r ∷ []) ++ t) (cut_each ivs rs)

-- Cutting by an earlier record and then by a later one retains of a view what cutting by the later one does.
pub retained_later : {c : Cut} (es ls : List Interval) → Grown c (map span_of es) (map span_of ls) → (v : View) → Showing v
    → flat_map (retained ls) (retained es v) ≡ retained ls v
unfolding retained
retained_later es ls g v n =
    flat_map_map (retained ls) (piece v) _
    ∙ flat_map_alike _ (λ r. map (piece v) (cut_out ls (r ∷ []))) (cut_out es (effective v ∷ [])) (All-map (λ r h. again r h) (cut_out es (effective v ∷ [])) (cut_inside es (effective v) n))
    ∙ sym (map_flat_map (piece v) (λ r. cut_out ls (r ∷ [])) _)
    ∙ ap (map (piece v)) (sym (cut_each ls _) ∙ cut_out_later es ls g (effective v ∷ []))
  where
    again : (r : Range) → Inside (cuts r) (cuts (effective v)) → retained ls (piece v r) ≡ map (piece v) (cut_out ls (r ∷ []))
    again r h =
        rw (effective_piece v r h)
        (map_alike (piece (piece v r)) (piece v) (cut_out ls (r ∷ [])) (All-map (λ q k. piece_piece v r q h k) (cut_out ls (r ∷ [])) (cut_inside ls r h.runs)))

pub cut_run_later : {c : Cut} (es ls : List Interval) → Grown c (map span_of es) (map span_of ls) → (vs : List View) → All Showing vs
    → cut_run ls (cut_run es vs) ≡ cut_run ls vs
unfolding cut_run
cut_run_later es ls g vs a =
    flat_map_flat_map (retained ls) (retained es) vs
    ∙ flat_map_alike _ (retained ls) vs (All-map (λ v n. retained_later es ls g v n) vs a)

-- ---- what a run shows
pub shown_append : (p : Table → Bool) (x : Key) (s t : List View) → shown p x (s ++ t) ≡ shown p x s + shown p x t
unfolding shown
shown_append p x [] t = omega arith
shown_append p x (v ∷ s) t = omega (arith, shown_append p x s t)

shown_pieces : (p : Table → Bool) (x : Key) (v : View) (rs : List Range) → All (λ r. Inside (cuts r) (cuts (effective v))) rs
    → shown p x (map (piece v) rs) ≡ pick (p v.table) (times x rs) 0
unfolding shown times
shown_pieces p x v [] a = go (p v.table)
  where
    go : (b : Bool) → ◌≡◌ {A = ℕ} 0 (pick b 0 0)
    go true = refl
    go false = refl
shown_pieces p x v (r ∷ rs) a =
    rw (effective_piece v r a.0, piece_table v r, shown_pieces p x v rs a.1) (go (p v.table) (holds r x))
  where
    go : (b h : Bool) → bit (b && h) + pick b (times x rs) 0 ≡ pick b (bit h + times x rs) 0
    go true h = refl
    go false h = refl

shown_retained : (p : Table → Bool) (x : Key) (ivs : List Interval) → All Sound ivs → (v : View) → Showing v
    → shown p x (retained ivs v) ≡ pick (any_holds ivs x) 0 (bit (p v.table && holds (effective v) x))
unfolding retained times
shown_retained p x ivs a v n =
    rw (shown_pieces p x v (cut_out ivs (effective v ∷ [])) (cut_inside ivs (effective v) n), times_cut_out x ivs (effective v ∷ []) a)
    (go (p v.table) (any_holds ivs x) (holds (effective v) x))
  where
    go : (b w h : Bool) → pick b (pick w 0 (bit h + 0)) 0 ≡ pick w 0 (bit (b && h))
    go true true h = refl
    go true false h = omega arith
    go false true h = refl
    go false false h = refl

-- Outside the intervals a run shows a key as it did, and inside not at all.
pub shown_cut_run : (p : Table → Bool) (x : Key) (ivs : List Interval) → All Sound ivs → (vs : List View) → All Showing vs
    → shown p x (cut_run ivs vs) ≡ pick (any_holds ivs x) 0 (shown p x vs)
unfolding cut_run flat_map shown
shown_cut_run p x ivs a [] n = go (any_holds ivs x)
  where
    go : (b : Bool) → ◌≡◌ {A = ℕ} 0 (pick b 0 0)
    go true = refl
    go false = refl
shown_cut_run p x ivs a (v ∷ vs) n =
    rw (shown_append, shown_retained p x ivs a v n.0, shown_cut_run p x ivs a vs n.1) (go (any_holds ivs x))
  where
    go : (w : Bool) → pick w 0 (bit (p v.table && holds (effective v) x)) + pick w 0 (shown p x vs)
        ≡ pick w 0 (bit (p v.table && holds (effective v) x) + shown p x vs)
    go true = refl
    go false = refl
