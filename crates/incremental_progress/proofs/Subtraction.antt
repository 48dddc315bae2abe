-- Subtraction of durable intervals from ranges, bound for bound, by way of cuts.
-- Assumes nothing.
use mathlib.Core.Path.{◌≡◌, refl, sym, ap, ap₂, ◌∙◌}
use mathlib.Core.Bool.{Bool, true, false, not, ◌&&◌}
use mathlib.Core.Option.{Option, none, some}
use mathlib.Core.List.{List, [], ◌∷◌, map, flat_map, cons≢nil, head-eq_of_cons-eq, tail-eq_of_cons-eq}
use Rattle.base.specs.Pick.{pick}
use Rattle.key.specs.Order.{Key}
use Rattle.std.specs.Prelude.{None, Some}
use Rattle.comparable_range.specs.Range.{Range, non_empty, holds, start_side, end_side, chosen, overlap, intersect_sides, intersect}
use Rattle.comparable_range.specs.Cut.{Cut, cut_at_most, ◌≼◌, later, sooner, start_cut, end_cut}
use Rattle.comparable_range.proofs.Cut.{≺-≼, below-≼, ≼-above, cut_below_not}
use Rattle.comparable_range.proofs.Lattice.{later_left, later_right, sooner_left, sooner_right}
use Rattle.comparable_range.proofs.ByCuts.{start_injective, end_injective, passes_by_cuts, passes-≺, holds_by_cuts, start_side_cut, end_side_cut}
use Rattle.incremental_progress.specs.Intervals.{Interval, listed, part_before, part_from, subtract_from, cut_out, start_bound, end_bound, to_range, any_holds, bit, times}
use Rattle.base.specs.Lists.{All, All-mapped, map_append}
use Rattle.incremental_progress.proofs.Span as span
use Rattle.incremental_progress.proofs.Span.{Span, keep, until, since, less, within, keep_none, times_less, absorb, commute}
use Rattle.incremental_progress.proofs.Cutting.{Proper, cut_spans, any_within, times_cut, Grown, recut}

abbrev pub cuts : Range → Span
cuts r = record { from = start_cut r.start; to = end_cut r.end }

-- ---- cuts tell ranges apart
pub same_cuts : (r q : Range) → start_cut r.start ≡ start_cut q.start → end_cut r.end ≡ end_cut q.end → r ≡ q
same_cuts r q s e =
    let p : r.start ≡ q.start = start_injective s in
    let t : r.end ≡ q.end = end_injective e in
    λ i. record { start = p i; end = t i }

pub cuts_injective : (rs qs : List Range) → map cuts rs ≡ map cuts qs → rs ≡ qs
cuts_injective [] [] e = refl
cuts_injective [] (q ∷ qs) e = absurd (cons≢nil (sym e))
cuts_injective (r ∷ rs) [] e = absurd (cons≢nil e)
cuts_injective (r ∷ rs) (q ∷ qs) e =
    let h = head-eq_of_cons-eq e in
    ap₂ (λ (x : Range) (xs : List Range). x ∷ xs) (same_cuts r q (ap (λ (i : Span). i.from) h) (ap (λ (i : Span). i.to) h))
    (cuts_injective rs qs (tail-eq_of_cons-eq e))

-- ---- intersect
pub intersect_cuts : (r q : Range) → map cuts (listed (intersect r q))
    ≡ keep (record { from = later (start_cut r.start) (start_cut q.start); to = sooner (end_cut r.end) (end_cut q.end) })
unfolding intersect_sides keep
intersect_cuts r q =
    rw (passes_by_cuts, cut_below_not, ← start_side_cut r.start q.start, ← end_side_cut r.end q.end) (go (cut_at_most _ _))
  where
    go : (t : Bool) → map cuts (listed (chosen r q (pick (not t) (Some (start_side r.start q.start, end_side r.end q.end)) None))) ≡ pick t [] (cuts (overlap r q) ∷ [])
    go true = refl
    go false = refl

-- ---- subtract
abbrev pub span_of : Interval → Span
span_of iv = cuts (to_range iv)

pub part_before_cuts : (s : Option Key) (r : Range) → map cuts (listed (part_before s r)) ≡ keep (until (cuts r) (start_cut (start_bound s)))
unfolding part_before
part_before_cuts none r = sym (keep_none (rw (sooner_right (below-≼ _)) (below-≼ _)))
part_before_cuts (some k) r = rw (intersect_cuts, later_left (below-≼ _))

pub part_from_cuts : (e : Option Key) (r : Range) → map cuts (listed (part_from e r)) ≡ keep (since (cuts r) (end_cut (end_bound e)))
unfolding part_from
part_from_cuts none r = sym (keep_none (rw (later_right (≼-above _)) (≼-above _)))
part_from_cuts (some k) r = rw (intersect_cuts, sooner_left (≼-above _))

pub subtract_cuts : (iv : Interval) (r : Range) → map cuts (subtract_from iv r) ≡ less (span_of iv) (cuts r)
unfolding subtract_from less
subtract_cuts iv r = rw (map_append, part_before_cuts iv.start r, part_from_cuts iv.end r)

pub subtract_all_cuts : (iv : Interval) (rs : List Range) → map cuts (flat_map (subtract_from iv) rs) ≡ flat_map (less (span_of iv)) (map cuts rs)
unfolding flat_map
subtract_all_cuts iv [] = refl
subtract_all_cuts iv (r ∷ rs) = rw (map_append cuts (subtract_from iv r), subtract_cuts iv r, subtract_all_cuts iv rs)

pub cut_out_cuts : (ivs : List Interval) (rs : List Range) → map cuts (cut_out ivs rs) ≡ cut_spans (map span_of ivs) (map cuts rs)
unfolding cut_out cut_spans
cut_out_cuts [] rs = refl
cut_out_cuts (iv ∷ ivs) rs = cut_out_cuts ivs _ ∙ ap (cut_spans (map span_of ivs)) (subtract_all_cuts iv rs)

-- ---- counts
abbrev pub Valid : Interval → Type 0
Valid iv = non_empty (to_range iv) ≡ true

pub valid_proper : (iv : Interval) → Valid iv → Proper (span_of iv)
valid_proper iv v = ≺-≼ (passes-≺ (start_bound iv.start) (end_bound iv.end) v)

pub holds_within : (r : Range) (x : Key) → holds r x ≡ within (cuts r) x
unfolding within
holds_within r x = holds_by_cuts r x

times_cuts : (x : Key) (rs : List Range) → times x rs ≡ span.times x (map cuts rs)
unfolding times span.times
times_cuts x [] = refl
times_cuts x (r ∷ rs) = rw (holds_within r x, times_cuts x rs)

pub any_cuts : (ivs : List Interval) (x : Key) → any_holds ivs x ≡ any_within (map span_of ivs) x
unfolding any_holds any_within
any_cuts [] x = refl
any_cuts (iv ∷ ivs) x = rw (holds_within (to_range iv) x, any_cuts ivs x)

-- an interval that does not end before it starts
abbrev pub Sound : Interval → Type 0
Sound iv = Proper (span_of iv)

pub All-spans : (ivs : List Interval) → All Sound ivs → All Proper (map span_of ivs)
All-spans ivs a = All-mapped Proper span_of ivs a

-- Of the ranges that are left, as many hold a key as did before, if no interval holds it, and else none.
pub times_cut_out : (x : Key) (ivs : List Interval) (rs : List Range) → All Sound ivs → times x (cut_out ivs rs) ≡ pick (any_holds ivs x) 0 (times x rs)
times_cut_out x ivs rs a = rw (times_cuts, cut_out_cuts, times_cut x (map span_of ivs) (map cuts rs) (All-spans ivs a), ← any_cuts, ← times_cuts)

pub times_subtract : (x : Key) (iv : Interval) (r : Range) → Valid iv → times x (subtract_from iv r) ≡ bit (holds r x && not (holds (to_range iv) x))
times_subtract x iv r v =
    rw (times_cuts, subtract_cuts, times_less x (span_of iv) (cuts r) (valid_proper iv v), holds_within r x, holds_within (to_range iv) x)
    (go (within (span_of iv) x) (within (cuts r) x))
  where
    go : (w h : Bool) → pick w 0 (bit h) ≡ bit (h && not w)
    go true true = refl
    go true false = refl
    go false true = refl
    go false false = refl

-- ---- exact laws
-- Two intervals with one start, the first ending no later: cutting both is cutting the second.
pub subtract_absorbs : (iv jv : Interval) (r : Range) → Valid iv → iv.start ≡ jv.start → end_cut (end_bound iv.end) ≼ end_cut (end_bound jv.end)
    → flat_map (subtract_from jv) (subtract_from iv r) ≡ subtract_from jv r
subtract_absorbs iv jv r v s e =
    cuts_injective _ _ (rw (subtract_all_cuts, subtract_cuts, subtract_cuts jv r, s) (absorb (cuts r) (rw s at (valid_proper iv v)) e))

-- Two intervals of which the first ends where the second starts, or before: either order gives the same.
pub subtract_commutes : (iv jv : Interval) (r : Range) → Valid iv → Valid jv → end_cut (end_bound iv.end) ≼ start_cut (start_bound jv.start)
    → flat_map (subtract_from jv) (subtract_from iv r) ≡ flat_map (subtract_from iv) (subtract_from jv r)
subtract_commutes iv jv r v w e =
    cuts_injective _ _ (rw (subtract_all_cuts jv, subtract_all_cuts iv, subtract_cuts iv, subtract_cuts jv) (commute (cuts r) (valid_proper iv v) e (valid_proper jv w)))

-- Cutting by an earlier record and then by a later one is cutting by the later one.
pub cut_out_later : {c : Cut} (es ls : List Interval) → Grown c (map span_of es) (map span_of ls) → (rs : List Range)
    → cut_out ls (cut_out es rs) ≡ cut_out ls rs
cut_out_later es ls g rs = cuts_injective _ _ (rw (cut_out_cuts ls, cut_out_cuts es, cut_out_cuts ls rs) (recut g (map cuts rs)))
