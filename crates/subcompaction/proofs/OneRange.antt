-- When one unbounded range results: no boundary is chosen, since too few bytes stand before the last key or all keys are one.
-- Assumes nothing.
use Prim.Native.Nat.{ℕ, ◌+◌, ◌-◌, ◌<◌, ◌≤◌}
use native.Mathlib.Omega.{arith}
use mathlib.Core.Path.{◌≡◌, refl, sym, ap, subst, ◌∙◌}
use mathlib.Core.Logic.{◌⊎◌, inl, inr}
use mathlib.Core.Bool.{Bool, true, false, ◌||◌, true≢false}
use mathlib.Core.List.{List, [], ◌∷◌, ◌++◌, map}
use lib.ListN.{length}
use lib.Dec.{leb, eqb}
use borrow.Author.Tests.{leb-true, leb-false, eqb-true, le-leb, eq-eqb}
use Rattle.base.specs.Lists.{All, Pairwise, All-map}
use Rattle.base.specs.Sort.{insert, sort}
use Rattle.base.specs.SortLaws.{decided}
use Rattle.base.proofs.SortLaws.{sort_sorted, length_sort}
use Rattle.key.specs.Order.{Key, key_at_most, key_below}
use Rattle.comparable_range.specs.Range.{unbounded}
use Rattle.records.specs.Values.{Anchor, Anchors}
use Rattle.manifest.specs.Checks.{total}
use Rattle.incremental_progress.specs.Members.{In}
use Rattle.subcompaction.specs.Boundaries.{target, unsplit, prepared, boundaries_from, boundaries, chosen, ranges_from, select_boundaries}
use Rattle.subcompaction.specs.PlanLaws.{NoneReaches, every_key, UnsplitCases, OneRangeResults}
use Rattle.key.proofs.KeyOrder.{keys_ordered, at_most_self, not_below_lem, at_most_of_not}
use Rattle.subcompaction.proofs.Ranges.{ranges_count}
use Rattle.subcompaction.proofs.Boundaries.{opens, Opens, why, opens_there, prepared_there, prepared_least}

-- ---- what holds of each in order holds of each given
module _ (P : Anchor → Type 0) where
  un_insert : (x : Anchor) (l : Anchors) → All P (insert key_at_most (λ a. a.key) x l) → P x × All P l
  unfolding insert
  un_insert x [] h = h
  un_insert x (y ∷ l) h =
      elim (decided (key_at_most x.key y.key)) [
        | inl e ↦ rw e at h
        | inr e ↦ let f = rw e at h in let t = un_insert x l f.1 in (t.0, (f.0, t.1))
      ]

  un_sort : (l : Anchors) → All P (sort key_at_most (λ a. a.key) l) → All P l
  unfolding sort
  un_sort [] h = tt
  un_sort (x ∷ l) h = let t = un_insert x (sort key_at_most (λ a. a.key) l) h in (t.0, un_sort l t.1)

  pub un_prepared : (a : Anchors) → All P (prepared a) → All P a
  unfolding prepared
  un_prepared a h = un_sort a h

abbrev pub Ordered : Anchors → Type 0
Ordered = Pairwise (λ x y. key_at_most x.key y.key ≡ true)

pub prepared_ordered : (a : Anchors) → Ordered (prepared a)
unfolding prepared
prepared_ordered a = sort_sorted keys_ordered (λ x. x.key) a

-- ---- the last of some
record Last (l : Anchors) : Type 0 where
  front : Anchors
  last : Anchor
  is : l ≡ front ++ (last ∷ [])

last_of : (x : Anchor) (l : Anchors) → Last (x ∷ l)
last_of x [] = record { front = []; last = x; is = refl }
last_of x (y ∷ l) = let t = last_of y l in record { front = x ∷ t.front; last = t.last; is = ap (λ m. x ∷ m) t.is }

some_last : (l : Anchors) → 0 < length l → Last l
some_last [] h = absurd (omega arith)
some_last (x ∷ l) h = last_of x l

last_has : (P : Anchor → Type 0) (front : Anchors) (z : Anchor) → All P (front ++ (z ∷ [])) → P z
last_has P [] z h = h.0
last_has P (x ∷ front) z h = last_has P front z h.1

last_greatest : (front : Anchors) (z : Anchor) → Ordered (front ++ (z ∷ [])) → All (λ x. key_at_most x.key z.key ≡ true) (front ++ (z ∷ []))
last_greatest [] z h = (at_most_self z.key, tt)
last_greatest (x ∷ front) z h = (last_has (λ y. key_at_most x.key y.key ≡ true) front z h.0, last_greatest front z h.1)

-- ---- from a place on
module _ (goal left threshold : ℕ) (last : Key) where
  shut : (reached : ℕ) (k : Key) → (Opens left threshold reached last k → ⊥) → opens left threshold reached last k ≡ false
  shut reached k n = elim (decided (opens left threshold reached last k)) [ inl o ↦ absurd (n (why left threshold reached last k o)) | inr o ↦ o ]

  none_short : (reached : ℕ) (front : Anchors) (z : Anchor) → reached + total front < threshold → boundaries_from goal left threshold reached last (front ++ (z ∷ [])) ≡ []
  unfolding boundaries_from total
  none_short reached [] z h = rw (shut reached z.key (λ o. omega (arith, o.reaches)))
  none_short reached (a ∷ front) z h =
      rw (shut reached a.key (λ o. omega (arith, o.reaches))) (none_short (reached + a.bytes) front z (omega arith))

  none_above : (reached : ℕ) (l : Anchors) → All (λ x. key_below last x.key ≡ false) l → boundaries_from goal left threshold reached last l ≡ []
  unfolding boundaries_from
  none_above reached [] h = refl
  none_above reached (a ∷ l) h =
      rw (shut reached a.key (λ o. true≢false (sym o.above ∙ h.0))) (none_above (reached + a.bytes) l h.1)

  -- one at least was left, and none opened at the last
  shut_last : (reached : ℕ) (front : Anchors) (z : Anchor) → 0 < left → boundaries_from goal left threshold reached last (front ++ (z ∷ [])) ≡ [] → (reached + total front < threshold) ⊎ (key_below last z.key ≡ false)
  unfolding boundaries_from total
  shut_last reached [] z n e =
      elim (decided (leb threshold reached)) [
        | inl h ↦
            elim (decided (key_below last z.key)) [
              | inl b ↦ absurd (let f = rw (opens_there left threshold reached last z.key n (leb-true threshold reached h) b) at e in let y : ◌≡◌ {A = ℕ} 0 1 = cc in omega arith)
              | inr b ↦ inr b
            ]
        | inr h ↦ inl (omega (arith, leb-false threshold reached h))
      ]
  shut_last reached (a ∷ front) z n e =
      elim (decided (opens left threshold reached last a.key)) [
        | inl o ↦ absurd (let f = rw o at e in let y : ◌≡◌ {A = ℕ} 0 1 = cc in omega arith)
        | inr o ↦ elim (shut_last (reached + a.bytes) front z n (rw o at e)) [ inl h ↦ inl (omega arith) | inr b ↦ inr b ]
      ]

-- ---- of anchors in order
module _ (parts goal : ℕ) where
  ordered_none :
      (l front : Anchors) (z : Anchor)
      → l ≡ front ++ (z ∷ [])
      → Ordered l
      → 1 < parts
      → boundaries parts goal l ≡ []
      → (total front < goal) ⊎ All (λ x. key_at_most z.key x.key ≡ true) l
  unfolding boundaries
  ordered_none [] front z e o n b = inr tt
  ordered_none (p ∷ l) front z e o n b =
      elim (shut_last goal (parts - 1) goal p.key 0 front z (omega arith) (sym (ap (boundaries_from goal (parts - 1) goal 0 p.key) e) ∙ b)) [
        | inl h ↦ inl (omega arith)
        | inr h ↦
            let m = at_most_of_not p.key z.key h in
            inr (m, All-map (λ x k. keys_ordered.trans z.key p.key x.key m k) l o.0)
      ]

  none_ordered :
      (l front : Anchors) (z : Anchor)
      → l ≡ front ++ (z ∷ [])
      → Ordered l
      → (total front < goal) ⊎ All (λ x. key_at_most z.key x.key ≡ true) l
      → boundaries parts goal l ≡ []
  unfolding boundaries
  none_ordered [] front z e o s = refl
  none_ordered (p ∷ l) front z e o (inl h) =
      ap (boundaries_from goal (parts - 1) goal 0 p.key) e ∙ none_short goal (parts - 1) goal p.key 0 front z (omega arith)
  none_ordered (p ∷ l) front z e o (inr h) =
      let g = subst (All (λ x. key_at_most x.key z.key ≡ true)) (sym e) (last_greatest front z (subst Ordered e o)) in
      none_above goal (parts - 1) goal p.key 0 (p ∷ l)
      (All-map (λ x k. not_below_lem p.key x.key (keys_ordered.trans x.key z.key p.key k h.0)) (p ∷ l) g)

  -- the largest key is the smallest
  pub one_key :
      {l m : Anchors} (front : Anchors) (p z : Anchor)
      → l ≡ p ∷ m
      → l ≡ front ++ (z ∷ [])
      → Ordered l
      → p.key ≡ z.key
      → boundaries parts goal l ≡ []
  one_key {l} {m} front p z e f o k =
      let q = subst Ordered e o in
      none_ordered l front z f o
      (inr (subst (All (λ x. key_at_most z.key x.key ≡ true)) (sym e) (subst (λ y. All (λ (x : Anchor). key_at_most y x.key ≡ true) (p ∷ m)) k (at_most_self p.key, q.0))))

-- ---- those chosen
record Divided (parts goal bytes : ℕ) : Type 0 where
  parts_left : 1 < parts
  below : goal < bytes

divided : (parts goal bytes : ℕ) → unsplit parts goal bytes ≡ false → Divided parts goal bytes
unfolding unsplit
divided parts goal bytes h =
    let t = neither (leb parts 1 || eqb goal 0) (leb bytes goal) h in
    let s = neither (leb parts 1) (eqb goal 0) t.0 in
    record { parts_left = leb-false parts 1 s.0; below = leb-false bytes goal t.1 }
  where
    neither : (x y : Bool) → (x || y) ≡ false → (x ≡ false) × (y ≡ false)
    neither true y e = absurd (true≢false e)
    neither false y e = (refl, e)

some_given : (l : Anchors) → 0 < total l → 0 < length l
unfolding total
some_given [] h = absurd (omega arith)
some_given (x ∷ l) h = omega arith

-- more boundaries make more ranges
one_from : (ks : List Key) → ranges_from unbounded ks ≡ every_key → ks ≡ []
one_from [] e = refl
one_from (k ∷ ks) e = absurd (let n = sym (ranges_count unbounded (k ∷ ks)) ∙ ap length e in omega arith)

pub unsplit_cases : UnsplitCases
unfolding unsplit
unsplit_cases parts goal bytes = (λ e. from (leb parts 1) (eqb goal 0) (leb bytes goal) refl refl refl e, λ h. to h)
  where
    from : (x y z : Bool) → leb parts 1 ≡ x → eqb goal 0 ≡ y → leb bytes goal ≡ z → (x || y || z) ≡ true → (parts ≤ 1) ⊎ ((goal ≡ 0) ⊎ (bytes ≤ goal))
    from true y z p q r e = inl (leb-true parts 1 p)
    from false true z p q r e = inr (inl (eqb-true goal 0 q))
    from false false true p q r e = inr (inr (leb-true bytes goal r))
    from false false false p q r e = absurd (true≢false (sym e))

    second : (x y : Bool) → y ≡ true → (x || y) ≡ true
    second true y e = refl
    second false y e = e

    to : (parts ≤ 1) ⊎ ((goal ≡ 0) ⊎ (bytes ≤ goal)) → (leb parts 1 || eqb goal 0 || leb bytes goal) ≡ true
    to (inl h) = rw (le-leb parts 1 h)
    to (inr (inl h)) = ap (λ x. x || leb bytes goal) (second (leb parts 1) (eqb goal 0) (eq-eqb goal 0 h))
    to (inr (inr h)) = second (leb parts 1 || eqb goal 0) (leb bytes goal) (le-leb bytes goal h)

module _ (parts least : ℕ) (a : Anchors) where
  abbrev aim : ℕ
  aim = target parts least (total a)

  last_there : (q : Last (prepared a)) → In q.last.key (map (λ y. y.key) a)
  last_there q =
      last_has (λ x. In x.key (map (λ y. y.key) a)) q.front q.last
      (subst (All (λ x. In x.key (map (λ y. y.key) a))) q.is (prepared_there a))

  why_none : Last (prepared a) → 1 < parts → boundaries parts aim (prepared a) ≡ [] → NoneReaches aim a
  why_none q n e =
      record {
        front = q.front;
        last = q.last;
        is = q.is;
        short = elim (ordered_none parts aim (prepared a) q.front q.last q.is (prepared_ordered a) n e) [
          | inl h ↦ inl h
          | inr h ↦ inr (record { there = last_there q; least = un_prepared (λ x. key_at_most q.last.key x.key ≡ true) a h })
        ];
      }

  some_prepared : 0 < total a → Last (prepared a)
  unfolding prepared
  some_prepared h = some_last (prepared a) (omega (arith, length_sort key_at_most (λ x. x.key) a, some_given a h))

  chosen_none : NoneReaches aim a → boundaries parts aim (prepared a) ≡ []
  chosen_none n =
      none_ordered parts aim (prepared a) n.front n.last n.is (prepared_ordered a)
      (elim n.short [ inl h ↦ inl h | inr s ↦ inr (prepared_least n.last.key a s) ])

  said : chosen parts least a ≡ [] → (unsplit parts aim (total a) ≡ true) ⊎ NoneReaches aim a
  unfolding chosen
  said e =
      elim (decided (unsplit parts aim (total a))) [
        | inl h ↦ inl h
        | inr h ↦
            let d = divided parts aim (total a) h in
            inr (why_none (some_prepared (omega (arith, d.below))) d.parts_left (rw h at e))
      ]

  shown : (unsplit parts aim (total a) ≡ true) ⊎ NoneReaches aim a → chosen parts least a ≡ []
  unfolding chosen
  shown (inl h) = rw h
  shown (inr n) = elim (decided (unsplit parts aim (total a))) [ inl h ↦ rw h | inr h ↦ rw h (chosen_none n) ]

pub one_range_results : OneRangeResults
unfolding select_boundaries ranges_from
one_range_results parts least a =
    (λ e. said parts least a (one_from (chosen parts least a) e), λ h. ap (ranges_from unbounded) (shown parts least a h))
