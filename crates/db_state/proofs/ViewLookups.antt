-- Lookups in one view: the keys of an intersection are those of both, and the tests are tests of cuts.
-- Assumes nothing.
use mathlib.Core.Path.{◌≡◌, refl, sym, ap, ◌∙◌}
use mathlib.Core.Bool.{Bool, true, false, ◌&&◌, and-true, false≢true}
use mathlib.Core.Option.{Option, none, some}
use Rattle.base.specs.Pick.{pick, and_first, and_second}
use Rattle.key.specs.Order.{Key, cmp_key, at_most, is_less, key_at_most, key_below}
use Rattle.std.specs.declared.cmp.Ordering.{Ordering}
use Rattle.std.specs.declared.cmp.Ordering.TheVariants.{Less, Equal, Greater}
use Rattle.key.proofs.Linear.{key_order_is_total}
use Rattle.comparable_range.specs.declared.Side.TheVariants.{First, Second}
use Rattle.comparable_range.specs.Range.{Sides}
use Rattle.std.specs.Prelude.{None, Some}
use Rattle.comparable_range.specs.Range.{included, excluded, Range, holds, start_holds, end_holds, intersect_sides, chosen}
use Rattle.comparable_range.specs.Laws.{held_by}
use Rattle.comparable_range.proofs.Intersection.{intersect_holds_what_both_hold}
use Rattle.format.specs.Joint.{Joint, from, range, chosen as joint-chosen, intersect as joint-intersect}
use Rattle.records.specs.Values.{View}
use Rattle.manifest.specs.Ranges.{own, effective}
use Rattle.manifest.specs.Laws.{seen_through}
use Rattle.manifest.proofs.ViewRanges.{effective_holds_what_both_hold}
use Rattle.db_state.specs.Lookup.{start_key, cut_to_view, calculate_view_range, end_before, to_next, cut_to_visible, compacted_intersection}
use Rattle.db_state.specs.LookupLaws.{held_in, shown_by, CalculateViewRangeHoldsWhatIsShown, LastIntersectionHoldsWhatBothHold, IntersectionHoldsWhatIsSeenToTheNext, CompactedIntersectionHoldsOnlyAskedKeys, CompactedIntersectionHoldsTheViewsKeys, CompactedIntersectionEndsAtTheNextStart}

-- ---- ranges with suppliers
chosen_holds : (j k : Joint) (s : Sides) (x : Key) → held_in (joint-chosen j k s) x ≡ held_by (chosen (range j) (range k) s) x
chosen_holds j k None x = refl
chosen_holds j k (Some (First, First)) x = refl
chosen_holds j k (Some (First, Second)) x = refl
chosen_holds j k (Some (Second, First)) x = refl
chosen_holds j k (Some (Second, Second)) x = refl

both_hold : (j k : Joint) (x : Key) → held_in (joint-intersect j k) x ≡ (holds (range j) x && holds (range k) x)
unfolding joint-intersect
both_hold j k x = chosen_holds j k (intersect_sides (range j) (range k)) x ∙ intersect_holds_what_both_hold (range j) (range k) x

-- ---- calculate_view_range
pub calculate_view_range_holds_what_is_shown : CalculateViewRangeHoldsWhatIsShown
unfolding calculate_view_range
calculate_view_range_holds_what_is_shown v asked x = go v.visible v.table.last
  where
    go : (o : Option Range) (l : Option Key) → held_in (cut_to_view o l (effective v) asked) x ≡ (holds asked x && shown_by o l (effective v) x)
    go (some r) l = both_hold (from Second asked) (from First r) x
    go none (some k) = both_hold (from Second asked) (from First (effective v)) x
    go none none = sym (and-true (holds asked x))

-- ---- compacted_intersection
pub last_intersection_holds_what_both_hold : LastIntersectionHoldsWhatBothHold
unfolding compacted_intersection
last_intersection_holds_what_both_hold v asked x = both_hold (from First (effective v)) (from Second asked) x

visible_holds : (o : Option Range) (m : Option Joint) (x : Key) → held_in (cut_to_visible o m) x ≡ (held_in m x && seen_through o x)
visible_holds none none x = refl
visible_holds none (some j) x = sym (and-true (holds (range j) x))
visible_holds (some r) none x = refl
visible_holds (some r) (some j) x = both_hold j (from First r) x

pub intersection_holds_what_is_seen_to_the_next : IntersectionHoldsWhatIsSeenToTheNext
unfolding compacted_intersection
intersection_holds_what_is_seen_to_the_next v next asked x =
    visible_holds v.visible (joint-intersect (from First (to_next v next)) (from Second asked)) x
    ∙ ap (λ b. b && seen_through v.visible x) (both_hold (from First (to_next v next)) (from Second asked) x)

pub compacted_intersection_holds_only_asked_keys : CompactedIntersectionHoldsOnlyAskedKeys
compacted_intersection_holds_only_asked_keys v none asked x h =
    and_second (holds (effective v) x) (holds asked x) (sym (last_intersection_holds_what_both_hold v asked x) ∙ h)
compacted_intersection_holds_only_asked_keys v (some next) asked x h =
    and_second (holds (to_next v next) x) (holds asked x)
    (and_first _ (seen_through v.visible x) (sym (intersection_holds_what_is_seen_to_the_next v next asked x) ∙ h))

-- ---- up to the next view's start
both_true : (s t : Bool) → s ≡ true → t ≡ true → (s && t) ≡ true
both_true s t h k = rw (h, k)

-- a key at or below another that is not the other is below it
below_unequal : (x k : Key) → key_at_most x k ≡ true → (x ≡ k → ⊥) → key_below x k ≡ true
below_unequal x k h n = go (cmp_key x k) refl h
  where
    go : (o : Ordering) → cmp_key x k ≡ o → at_most o ≡ true → is_less o ≡ true
    go Less e h = refl
    go Equal e h = absurd (n (key_order_is_total.equal x k e))
    go Greater e h = absurd (false≢true h)

-- the end at a key k holds what the view holds up to it
end_reaches : (v : View) (x k : Key) → holds (effective v) x ≡ true → key_at_most x k ≡ true → end_holds (end_before v k) x ≡ true
unfolding end_holds
end_reaches v x k h l = go (holds (effective v) k) refl
  where
    go : (t : Bool) → holds (effective v) k ≡ t → end_holds (pick t (included k) (excluded k)) x ≡ true
    go true e = l
    go false e = below_unequal x k l (λ q. let z : false ≡ true = sym e ∙ (ap (λ y. holds (effective v) y) (sym q) ∙ h) in false≢true z)

to_next_holds : (v next : View) (x : Key) → holds (effective v) x ≡ true → key_at_most x (start_key next) ≡ true → holds (to_next v next) x ≡ true
unfolding holds
to_next_holds v next x h l =
    both_true _ _ (and_first (start_holds (effective v).start x) (end_holds (effective v).end x) h) (end_reaches v x (start_key next) h l)

pub compacted_intersection_holds_the_views_keys : CompactedIntersectionHoldsTheViewsKeys
compacted_intersection_holds_the_views_keys v none asked x a h u =
    last_intersection_holds_what_both_hold v asked x ∙ both_true _ _ h a
compacted_intersection_holds_the_views_keys v (some next) asked x a h u =
    intersection_holds_what_is_seen_to_the_next v next asked x
    ∙ both_true _ _ (both_true _ _ (to_next_holds v next x h u) a)
    (and_second (holds (own v.table) x) (seen_through v.visible x) (sym (effective_holds_what_both_hold v x) ∙ h))

-- ---- and no further
-- at or below, and not below
equal_at : (x k : Key) → key_at_most x k ≡ true → key_below x k ≡ false → x ≡ k
equal_at x k h n = go (cmp_key x k) refl h n
  where
    go : (o : Ordering) → cmp_key x k ≡ o → at_most o ≡ true → is_less o ≡ false → x ≡ k
    go Less e h n = absurd (false≢true (sym n))
    go Equal e h n = key_order_is_total.equal x k e
    go Greater e h n = absurd (false≢true h)

end_at : (v : View) (x k : Key) → end_holds (end_before v k) x ≡ true → key_below x k ≡ false → (x ≡ k) × (holds (effective v) x ≡ true)
unfolding end_holds
end_at v x k h n = go (holds (effective v) k) refl h
  where
    go : (t : Bool) → holds (effective v) k ≡ t → end_holds (pick t (included k) (excluded k)) x ≡ true → (x ≡ k) × (holds (effective v) x ≡ true)
    go true e h = let q = equal_at x k h n in (q, ap (λ y. holds (effective v) y) q ∙ e)
    go false e h = absurd (false≢true (sym n ∙ h))

pub compacted_intersection_ends_at_the_next_start : CompactedIntersectionEndsAtTheNextStart
unfolding holds
compacted_intersection_ends_at_the_next_start v next asked x h n =
    let a = and_first _ (seen_through v.visible x) (sym (intersection_holds_what_is_seen_to_the_next v next asked x) ∙ h) in
    let b = and_first (holds (to_next v next) x) (holds asked x) a in
    end_at v x (start_key next) (and_second (start_holds (effective v).start x) (end_holds (end_before v (start_key next)) x) b) n
