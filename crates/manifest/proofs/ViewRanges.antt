-- A table's own range starts included, so it passes the test exactly if the keys are in order; cut by a visible range that
-- starts included or unbounded, it still starts included.
-- Assumes nothing.
use mathlib.Core.Path.{◌≡◌, refl, sym, ap, ◌∙◌}
use mathlib.Core.Bool.{Bool, true, false, not, ◌&&◌, and_self, and-true, and-false, false≢true}
use mathlib.Core.Option.{Option, none, some}
use Rattle.base.specs.Pick.{and_first, and_second}
use Rattle.key.specs.Order.{Key}
use Rattle.comparable_range.specs.declared.Side.{Side}
use Rattle.comparable_range.specs.declared.Side.TheVariants.{First, Second}
use Rattle.comparable_range.specs.Range.{Bound, unbounded, included, excluded, Range, of, cmp_bound, bounds_pass, non_empty, holds, start_side, overlap}
use Rattle.comparable_range.specs.Cut.{start_cut, end_cut}
use Rattle.comparable_range.proofs.Cut.{≺-≼-trans, ≼-≺-trans}
use Rattle.comparable_range.proofs.Lattice.{≼-later-left, sooner-≼-left}
use Rattle.comparable_range.proofs.ByCuts.{start_side_cut, end_side_cut, passes-≺, ≺-passes}
use Rattle.comparable_range.proofs.Keyless.{included_start_is_held}
use Rattle.comparable_range.proofs.Intersection.{overlap_holds}
use Rattle.comparable_range.proofs.Unions.{meets_is as ranges-meet}
use Rattle.records.specs.Values.{Table, View}
use Rattle.manifest.specs.Ranges.{last_bound, own, cut_by, effective}
use Rattle.manifest.specs.Checks.{reaches, keys_in_order, is_excluded, meets_own, table_passes}
use Rattle.manifest.specs.Laws.{StartsHeld, seen_through, OwnHoldsFirst, EffectiveStartIsHeld, EffectiveHoldsWhatBothHold}

-- ---- check 5
pub own_passes : (t : Table) → non_empty (own t) ≡ keys_in_order t
unfolding keys_in_order bounds_pass
own_passes t = go t.first t.last
  where
    go : (k : Key) (l : Option Key) → bounds_pass (included k) (last_bound l) ≡ reaches k l
    go k none = refl
    go k (some l) = refl

-- a visible range does not start excluded
abbrev pub starts_plain : Option Range → Bool
starts_plain none = true
starts_plain (some r) = not (is_excluded r.start)

-- the keys are in order, then the visible range does not start excluded, then the effective range passes the test
pub meets_is : (v : View) → table_passes v ≡ (keys_in_order v.table && (starts_plain v.visible && non_empty (effective v)))
unfolding table_passes effective
meets_is v = go v.visible
  where
    t : Table
    t = v.table

    go :
        (o : Option Range)
        → (keys_in_order t && meets_own (own t) o) ≡ (keys_in_order t && (starts_plain o && non_empty (cut_by o (own t))))
    go none = rw (own_passes t, and_self, and-true)
    go (some r) = ap (λ b. keys_in_order t && (not (is_excluded r.start) && b)) (ranges-meet (own t) r)

-- what is cut out of a range passes the test only if the range does
cut_from : (r q : Range) → non_empty (overlap r q) ≡ true → non_empty r ≡ true
cut_from r q h =
    let c = rw (start_side_cut r.start q.start, end_side_cut r.end q.end) at (passes-≺ (overlap r q).start (overlap r q).end h) in
    ≺-passes r.start r.end (≺-≼-trans (≼-≺-trans (≼-later-left (start_cut r.start) (start_cut q.start)) c) (sooner-≼-left (end_cut r.end) (end_cut q.end)))

effective_in_order : (v : View) → non_empty (effective v) ≡ true → keys_in_order v.table ≡ true
unfolding effective
effective_in_order v = go v.visible
  where
    go : (o : Option Range) → non_empty (cut_by o (own v.table)) ≡ true → keys_in_order v.table ≡ true
    go none h = sym (own_passes v.table) ∙ h
    go (some r) h = sym (own_passes v.table) ∙ cut_from (own v.table) r h

implied : (k p m : Bool) → (m ≡ true → k ≡ true) → (k && (p && m)) ≡ (p && m)
implied true p m h = refl
implied false p false h = sym (and-false p)
implied false p true h = absurd (false≢true (h refl))

-- so the last two of the three decide
pub meets_alone : (v : View) → table_passes v ≡ (starts_plain v.visible && non_empty (effective v))
meets_alone v = meets_is v ∙ implied (keys_in_order v.table) (starts_plain v.visible) (non_empty (effective v)) (effective_in_order v)

-- ---- the keys held
pub own_holds_first : OwnHoldsFirst
own_holds_first t h = included_start_is_held (own t) t.first refl (own_passes t ∙ h)

pub effective_holds_what_both_hold : EffectiveHoldsWhatBothHold
unfolding effective
effective_holds_what_both_hold v x = go v.visible
  where
    go : (o : Option Range) → holds (cut_by o (own v.table)) x ≡ (holds (own v.table) x && seen_through o x)
    go none = sym (and-true (holds (own v.table) x))
    go (some r) = overlap_holds (own v.table) r x

-- ---- the start
-- a range that starts included and passes the test
starts_held : (r : Range) (k : Key) → r.start ≡ included k → non_empty r ≡ true → StartsHeld r
starts_held r k s p = record { key = k; start = s; held = included_start_is_held r k s p }

-- of an included start and one that is not excluded, the greater is included
greater_start :
    (k : Key) (s e : Bound)
    → not (is_excluded s) ≡ true
    → bounds_pass (of (start_side (included k) s) (included k) s) e ≡ true
    → StartsHeld (record { start = of (start_side (included k) s) (included k) s; end = e })
unfolding start_side cmp_bound
greater_start k unbounded e h p = starts_held _ k refl p
greater_start k (included j) e h p = go (start_side (included k) (included j)) p
  where
    go :
        (d : Side)
        → bounds_pass (of d (included k) (included j)) e ≡ true
        → StartsHeld (record { start = of d (included k) (included j); end = e })
    go First p = starts_held _ k refl p
    go Second p = starts_held _ j refl p
greater_start k (excluded j) e h p = absurd (false≢true h)

pub effective_start_is_held : EffectiveStartIsHeld
unfolding effective
effective_start_is_held v h = go v.visible (and_second (keys_in_order t) _ (sym (meets_is v) ∙ h))
  where
    t : Table
    t = v.table

    go : (o : Option Range) → (starts_plain o && non_empty (cut_by o (own t))) ≡ true → StartsHeld (cut_by o (own t))
    go none p = starts_held (own t) t.first refl p
    go (some r) p =
        let a = not (is_excluded r.start) in
        let b = non_empty (overlap (own t) r) in
        greater_start t.first r.start _ (and_first a b p) (and_second a b p)
