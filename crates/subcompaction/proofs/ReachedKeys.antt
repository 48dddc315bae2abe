-- No boundary is left out: a key whose bytes before reach the next threshold is one, if a range is left for it.
-- Assumes nothing.
use Prim.Native.Nat.{ℕ, suc, ◌+◌, ◌-◌, ◌*◌, ◌<◌, ◌≤◌}
use native.Mathlib.Nat.{suc-mul}
use native.Mathlib.Omega.{arith}
use mathlib.Core.Path.{◌≡◌, refl, sym, ap, subst, ◌∙◌}
use mathlib.Core.Logic.{inl, inr}
use mathlib.Core.Bool.{true}
use mathlib.Core.List.{List, [], ◌∷◌, ◌++◌, map}
use Rattle.base.specs.Lists.{All, All-map}
use Rattle.base.specs.Pick.{pick}
use Rattle.base.specs.SortLaws.{decided}
use Rattle.key.specs.Order.{Key, key_at_most, key_below}
use Rattle.records.specs.Values.{Anchor, Anchors}
use Rattle.manifest.specs.Checks.{total}
use Rattle.incremental_progress.specs.Members.{In, here, further}
use Rattle.subcompaction.specs.Boundaries.{target, prepared, boundaries_from, boundaries, chosen}
use Rattle.subcompaction.specs.PlanLaws.{Smallest, count_below, MayOpen, EachReachedKeyOpens}
use Rattle.key.proofs.KeyOrder.{keys_ordered, at_most_of_not, at_most_both}
use Rattle.subcompaction.proofs.Boundaries.{opens, opens_there, prepared_there}
use Rattle.subcompaction.proofs.OneRange.{Ordered, prepared_ordered, un_prepared}

-- one of a list
middle_has : (P : Anchor → Type 0) (before : Anchors) (x : Anchor) (after : Anchors) → All P (before ++ (x ∷ after)) → P x
middle_has P [] x after h = h.0
middle_has P (y ∷ before) x after h = middle_has P before x after h.1

next_threshold : (goal threshold m n bytes : ℕ) → n ≡ 1 + m → threshold + n * goal ≤ bytes → threshold + goal + m * goal ≤ bytes
next_threshold goal threshold m n bytes e h =
    let s : n ≡ suc m = omega arith in
    let p : n * goal ≡ m * goal + goal = ap (λ w. w * goal) s ∙ suc-mul m goal in
    omega arith

module _ (goal : ℕ) (x : Anchor) (after : Anchors) where
  from_opens :
      (left threshold reached : ℕ) (last : Key) (before : Anchors)
      → Ordered (before ++ (x ∷ after))
      → key_below last x.key ≡ true
      → (n : ℕ) → n ≡ count_below x.key (boundaries_from goal left threshold reached last (before ++ (x ∷ after)))
      → n < left
      → threshold + n * goal ≤ reached + total before
      → In x.key (boundaries_from goal left threshold reached last (before ++ (x ∷ after)))
  unfolding boundaries_from total count_below
  from_opens left threshold reached last [] o b n e l r =
      rw (opens_there left threshold reached last x.key (omega arith) (omega arith) b) (here refl)
  from_opens left threshold reached last (f ∷ before) o b n e l r =
      elim (decided (opens left threshold reached last f.key)) [
        | inl h ↦
            let t = boundaries_from goal (left - 1) (threshold + goal) (reached + f.bytes) f.key (before ++ (x ∷ after)) in
            let g : n ≡ pick (key_below f.key x.key) 1 0 + count_below x.key t = rw h at e in
            rw h
            (elim (decided (key_below f.key x.key)) [
              | inl k ↦
                  let m = count_below x.key t in
                  let s : n ≡ 1 + m = rw k at g in
                  further
                  (from_opens (left - 1) (threshold + goal) (reached + f.bytes) f.key before o.1 k m refl (omega arith)
                  (omega (arith, next_threshold goal threshold m n _ s r)))
              | inr k ↦ here (at_most_both x.key f.key (at_most_of_not f.key x.key k) (middle_has (λ y. key_at_most f.key y.key ≡ true) before x after o.0))
            ])
        | inr h ↦ rw h (from_opens left threshold (reached + f.bytes) last before o.1 b n (rw h at e) l (omega arith))
      ]

-- ---- of anchors in order
module _ (parts goal : ℕ) where
  ordered_opens :
      (l before : Anchors) (x : Anchor) (after : Anchors)
      → l ≡ before ++ (x ∷ after)
      → Ordered l
      → (All (λ y. key_at_most x.key y.key ≡ true) l → ⊥)
      → suc (count_below x.key (boundaries parts goal l)) < parts
      → suc (count_below x.key (boundaries parts goal l)) * goal ≤ total before
      → In x.key (boundaries parts goal l)
  unfolding boundaries
  ordered_opens [] before x after e o s n r = absurd (s tt)
  ordered_opens (p ∷ l) before x after e o s n r =
      elim (decided (key_below p.key x.key)) [
        | inl b ↦
            let same = ap (boundaries_from goal (parts - 1) goal 0 p.key) e in
            let k = count_below x.key (boundaries_from goal (parts - 1) goal 0 p.key (p ∷ l)) in
            subst (In x.key) (sym same)
            (from_opens goal x after (parts - 1) goal 0 p.key before (subst Ordered e o) b k (ap (count_below x.key) same) (omega arith)
            (omega (arith, suc-mul k goal)))
        | inr b ↦
            let m = at_most_of_not p.key x.key b in
            absurd (s (m, All-map (λ y k. keys_ordered.trans x.key p.key y.key m k) l o.0))
      ]

-- ---- those chosen
module _ (parts least : ℕ) (a : Anchors) where
  abbrev aim : ℕ
  aim = target parts least (total a)

  abbrev found : List Key
  found = boundaries parts aim (prepared a)

  least_is_smallest : (x : Anchor) (before after : Anchors) → prepared a ≡ before ++ (x ∷ after) → All (λ y. key_at_most x.key y.key ≡ true) (prepared a) → Smallest x.key a
  least_is_smallest x before after e h =
      record {
        there = middle_has (λ y. In y.key (map (λ z. z.key) a)) before x after (subst (All (λ y. In y.key (map (λ z. z.key) a))) e (prepared_there a));
        least = un_prepared (λ y. key_at_most x.key y.key ≡ true) a h;
      }

  may_open : (k : Key) → MayOpen parts aim a found k → In k found
  may_open k m =
      let s = m.split in
      let x = s.anchor in
      let e : k ≡ x.key = sym s.key in
      rw e
      (ordered_opens parts aim (prepared a) s.before x s.after s.is (prepared_ordered a)
      (λ h. m.not_smallest (rw e (least_is_smallest x s.before s.after s.is h)))
      (subst (λ y. suc (count_below y found) < parts) e m.one_left)
      (subst (λ y. suc (count_below y found) * aim ≤ total s.before) e m.reach))

pub each_reached_key_opens : EachReachedKeyOpens
unfolding chosen
each_reached_key_opens parts least a k h m = rw h (may_open parts least a k (rw h at m))
