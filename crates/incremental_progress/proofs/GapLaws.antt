-- Items written gap by gap, with each interval's outputs after the gap before it, stand as the stable sort by start puts them.
-- Assumes nothing.
use Prim.Native.Nat.{ℕ, zero, suc}
use native.Mathlib.Omega.{arith}
use mathlib.Core.Path.{◌≡◌, refl, sym, ap, ◌∙◌}
use mathlib.Core.Logic.{inl, inr}
use mathlib.Core.Bool.{false}
use mathlib.Core.List.{List, [], ◌∷◌, ◌++◌, map, flatten, append-nil}
use lib.Dec.{eqb, eqb-zero-suc, eqb-suc-zero, eqb-suc-suc}
use Rattle.base.specs.Pick.{pick}
use Rattle.comparable_range.specs.Cut.{Cut, cut_at_most, ◌≼◌, ◌≺◌}
use Rattle.incremental_progress.specs.Gaps.{Placed, in_gap, by_gap}
use Rattle.comparable_range.proofs.Cut.{≼_trans, ≺-≼, ≺-≼-trans, order}
use Rattle.base.specs.Lists.{All, All-map, All-append, All-mapped, Pairwise, Pairwise-append}
use Rattle.base.specs.Sort.{sort}
use Rattle.base.specs.StableSort.{alike, at}
use Rattle.base.proofs.StableSortLaws.{at_none, at_append, sort_stable}
use Rattle.incremental_progress.proofs.Sort.{cut_preorder, alike_before, alike_after, Sorted, sort_sorted, sort_unique}

-- ---- gaps between intervals that ascend
module _ {I : Type 0} (from to : I → Cut) where
  -- each starts at or after the end of the one before it, the first at or after a cut, and none ends before it starts
  pub data Ascends : Cut → List I → Type 0 where
    none_left : {c : Cut} → Ascends c []
    then : {c : Cut} {i : I} {is : List I} → c ≼ from i → from i ≼ to i → Ascends (to i) is → Ascends c (i ∷ is)

  -- the second cut falls in the gap of that number; the first gap starts at the first cut
  pub data FallsIn : Cut → List I → ℕ → Cut → Type 0 where
    in_last : {c s : Cut} → c ≼ s → FallsIn c [] zero s
    in_first : {c s : Cut} {i : I} {is : List I} → c ≼ s → s ≺ from i → FallsIn c (i ∷ is) zero s
    in_later : {c s : Cut} {i : I} {is : List I} {g : ℕ} → FallsIn (to i) is g s → FallsIn c (i ∷ is) (suc g) s

  -- then it stands at or after the first cut
  pub falls_from : {c s : Cut} {is : List I} {g : ℕ} → Ascends c is → FallsIn c is g s → c ≼ s
  falls_from a (in_last h) = h
  falls_from a (in_first h k) = h
  falls_from (then h k a) (in_later l) = ≼_trans (≼_trans h k) (falls_from a l)

module _ {A : Type 0} where
  -- ---- the items of all gaps but the first, by the numbers that their gaps have then
  abbrev lower_to : ℕ → A → List (Placed A) → List (Placed A)
  lower_to zero a ps = ps
  lower_to (suc g) a ps = record { gap = g; item = a } ∷ ps

  lower : List (Placed A) → List (Placed A)
  lower [] = []
  lower (p ∷ ps) = lower_to p.gap p.item (lower ps)

  in_lower : (n : ℕ) (ps : List (Placed A)) → in_gap (suc n) ps ≡ in_gap n (lower ps)
  unfolding in_gap lower
  in_lower n [] = refl
  in_lower n (p ∷ ps) = go p.gap p.item (in_lower n ps)
    where
      go : (g : ℕ) (a : A) → in_gap (suc n) ps ≡ in_gap n (lower ps)
          → pick (eqb g (suc n)) (a ∷ in_gap (suc n) ps) (in_gap (suc n) ps) ≡ in_gap n (lower_to g a (lower ps))
      go zero a e = rw (eqb-zero-suc n) e
      go (suc g) a e = rw (eqb-suc-suc g n, e)

  by_lower : (n : ℕ) (outs : List (List A)) (ps : List (Placed A)) → by_gap (suc n) outs ps ≡ by_gap n outs (lower ps)
  unfolding by_gap
  by_lower n [] ps = in_lower n ps
  by_lower n (os ∷ outs) ps = rw (in_lower n ps, by_lower (suc n) outs ps)

module _ {A : Type 0} (start : A → Cut) where
  -- items of one gap that stand in the order of their starts
  abbrev pub InStep : Placed A → Placed A → Type 0
  InStep p q = p.gap ≡ q.gap → start p.item ≼ start q.item

  -- those of the first gap
  All-first : (P : A → Type 0) (ps : List (Placed A)) → All (λ p. p.gap ≡ 0 → P p.item) ps → All P (in_gap 0 ps)
  unfolding in_gap
  All-first P [] a = tt
  All-first P (p ∷ ps) a = go p.gap p.item a.0 (All-first P ps a.1)
    where
      go : (g : ℕ) (x : A) → (g ≡ 0 → P x) → All P (in_gap 0 ps) → All P (pick (eqb g 0) (x ∷ in_gap 0 ps) (in_gap 0 ps))
      go zero x f b = (f refl, b)
      go (suc g) x f b = rw (eqb-suc-zero g) b

  -- those of the others
  All-lower : (P : Placed A → Type 0) (ps : List (Placed A))
      → All (λ p. (g : ℕ) → p.gap ≡ suc g → P (record { gap = g; item = p.item })) ps → All P (lower ps)
  unfolding lower
  All-lower P [] a = tt
  All-lower P (p ∷ ps) a = go p.gap p.item a.0 (All-lower P ps a.1)
    where
      go : (g : ℕ) (x : A) → ((n : ℕ) → g ≡ suc n → P (record { gap = n; item = x })) → All P (lower ps) → All P (lower_to g x (lower ps))
      go zero x f b = b
      go (suc g) x f b = (f g refl, b)

  sorted_first : (ps : List (Placed A)) → Pairwise InStep ps → Sorted start (in_gap 0 ps)
  unfolding in_gap
  sorted_first [] s = tt
  sorted_first (p ∷ ps) s = go p.gap p.item s.0 (sorted_first ps s.1)
    where
      go : (g : ℕ) (x : A) → All (InStep (record { gap = g; item = x })) ps → Sorted start (in_gap 0 ps)
          → Sorted start (pick (eqb g 0) (x ∷ in_gap 0 ps) (in_gap 0 ps))
      go zero x f b = (All-first (λ y. start x ≼ start y) ps (All-map (λ q h e. h (sym e)) ps f), b)
      go (suc g) x f b = rw (eqb-suc-zero g) b

  lower_in_step : (ps : List (Placed A)) → Pairwise InStep ps → Pairwise InStep (lower ps)
  unfolding lower
  lower_in_step [] s = tt
  lower_in_step (p ∷ ps) s = go p.gap p.item s.0 (lower_in_step ps s.1)
    where
      go : (g : ℕ) (x : A) → All (InStep (record { gap = g; item = x })) ps → Pairwise InStep (lower ps) → Pairwise InStep (lower_to g x (lower ps))
      go zero x f b = b
      go (suc g) x f b = (All-lower (InStep (record { gap = g; item = x })) ps (All-map (λ q h n e i. h (ap suc i ∙ sym e)) ps f), b)

  -- ---- those that start at a cut
  at_first : (d : Cut) (ps : List (Placed A)) → All (λ p. (g : ℕ) → p.gap ≡ suc g → alike cut_at_most (start p.item) d ≡ false) ps
      → at cut_at_most start d (map (λ p. p.item) ps) ≡ at cut_at_most start d (in_gap 0 ps)
  unfolding in_gap at
  at_first d [] a = refl
  at_first d (p ∷ ps) a = rw (at_first d ps a.1) (go p.gap p.item a.0)
    where
      go : (g : ℕ) (x : A) → ((n : ℕ) → g ≡ suc n → alike cut_at_most (start x) d ≡ false)
          → pick (alike cut_at_most (start x) d) (x ∷ at cut_at_most start d (in_gap 0 ps)) (at cut_at_most start d (in_gap 0 ps)) ≡ at cut_at_most start d (pick (eqb g 0) (x ∷ in_gap 0 ps) (in_gap 0 ps))
      go zero x f = refl
      go (suc g) x f = rw (eqb-suc-zero g, f g refl)

  at_lower : (d : Cut) (ps : List (Placed A)) → All (λ p. p.gap ≡ 0 → alike cut_at_most (start p.item) d ≡ false) ps
      → at cut_at_most start d (map (λ p. p.item) ps) ≡ at cut_at_most start d (map (λ p. p.item) (lower ps))
  unfolding lower at
  at_lower d [] a = refl
  at_lower d (p ∷ ps) a = rw (at_lower d ps a.1) (go p.gap p.item a.0)
    where
      go : (g : ℕ) (x : A) → (g ≡ 0 → alike cut_at_most (start x) d ≡ false)
          → pick (alike cut_at_most (start x) d) (x ∷ at cut_at_most start d (map (λ p. p.item) (lower ps))) (at cut_at_most start d (map (λ p. p.item) (lower ps)))
          ≡ at cut_at_most start d (map (λ p. p.item) (lower_to g x (lower ps)))
      go zero x f = rw (f refl)
      go (suc g) x f = refl

  none_late : {d e : Cut} (xs : List A) → d ≺ e → All (λ x. e ≼ start x) xs → at cut_at_most start d xs ≡ []
  none_late {d} xs h a = at_none cut_at_most start d xs (All-map (λ x k. alike_after (≺-≼-trans h k)) xs a)

  none_early : {d e : Cut} (xs : List A) → e ≼ d → All (λ x. start x ≺ e) xs → at cut_at_most start d xs ≡ []
  none_early {d} xs h a = at_none cut_at_most start d xs (All-map (λ x k. alike_before (≺-≼-trans k h)) xs a)

-- ---- the theorem
module _ {I : Type 0} (from to : I → Cut) where
  falls_only : {c s : Cut} {n : ℕ} (g : ℕ) → n ≡ suc g → FallsIn from to c [] n s → ⊥
  falls_only g e (in_last h) = omega arith

  falls_first : {c s : Cut} {i : I} {is : List I} {n : ℕ} → n ≡ 0 → FallsIn from to c (i ∷ is) n s → (c ≼ s) × (s ≺ from i)
  falls_first e (in_first h k) = (h, k)
  falls_first e (in_later l) = absurd (omega arith)

  falls_later : {c s : Cut} {i : I} {is : List I} {n g : ℕ} → n ≡ suc g → FallsIn from to c (i ∷ is) n s → FallsIn from to (to i) is g s
  falls_later e (in_first h k) = absurd (omega arith)
  falls_later {g} e (in_later {g = m} l) = let i : m ≡ g = omega arith in rw i at l

  module _ {A : Type 0} (start : A → Cut) where
    -- the item starts in its gap
    abbrev pub InPlace : Cut → List I → Placed A → Type 0
    InPlace c is p = FallsIn from to c is p.gap (start p.item)

    -- the outputs of each interval start in it and ascend
    pub data Outs : List I → List (List A) → Type 0 where
      no_outs : Outs [] []
      outs_of :
          {i : I} {is : List I} {os : List A} {outs : List (List A)}
          → All (λ x. (from i ≼ start x) × (start x ≺ to i)) os
          → Sorted start os
          → Outs is outs
          → Outs (i ∷ is) (os ∷ outs)

    lower_in_place : (c : Cut) (i : I) (is : List I) (ps : List (Placed A)) → All (InPlace c (i ∷ is)) ps → All (InPlace (to i) is) (lower ps)
    lower_in_place c i is ps a = All-lower start (InPlace (to i) is) ps (All-map (λ p l g e. falls_later e l) ps a)

    items_from : {c : Cut} {is : List I} (ps : List (Placed A)) → Ascends from to c is → All (InPlace c is) ps → All (λ x. c ≼ start x) (map (λ p. p.item) ps)
    items_from ps a l = All-mapped _ (λ p. p.item) ps (All-map (λ p k. falls_from from to a k) ps l)

    outs_from : {c : Cut} {is : List I} {outs : List (List A)} → Ascends from to c is → Outs is outs → All (λ x. c ≼ start x) (flatten outs)
    unfolding flatten
    outs_from a no_outs = tt
    outs_from {c = c} (then h k a) (outs_of {i = i} {is = is} {os = os} {outs = outs} f s r) =
        All-append _ os (flatten outs) (All-map (λ x m. ≼_trans h m.0) os f) (All-map (λ x m. ≼_trans (≼_trans h k) m) (flatten outs) (outs_from {c = to i} {is = is} a r))

    by_from : {c : Cut} {is : List I} {outs : List (List A)} (ps : List (Placed A)) → Ascends from to c is → Outs is outs → All (InPlace c is) ps
        → All (λ x. c ≼ start x) (by_gap 0 outs ps)
    unfolding by_gap
    by_from ps a no_outs l = All-first start _ ps (All-map (λ p k e. falls_from from to a k) ps l)
    by_from ps (then {c} {i} {is} h k a) (outs_of {os} {outs} f s r) l =
        All-append _ (in_gap 0 ps) (os ++ by_gap 1 outs ps)
        (All-first start _ ps (All-map (λ p m e. (falls_first e m).0) ps l))
        (All-append _ os (by_gap 1 outs ps) (All-map (λ x m. ≼_trans h m.0) os f)
        (rw by_lower (All-map (λ x m. ≼_trans (≼_trans h k) m) (by_gap 0 outs (lower ps)) (by_from {c = to i} {is = is} (lower ps) a r (lower_in_place c i is ps l)))))

    -- those that start at a cut stand as they did
    at_by : {c : Cut} {is : List I} {outs : List (List A)} (ps : List (Placed A)) → Ascends from to c is → Outs is outs → All (InPlace c is) ps
        → (d : Cut) → at cut_at_most start d (by_gap 0 outs ps) ≡ at cut_at_most start d (map (λ p. p.item) ps) ++ at cut_at_most start d (flatten outs)
    unfolding by_gap flatten at
    at_by ps a no_outs l d =
        sym (at_first start d ps (All-map (λ p k g e. absurd (falls_only g e k)) ps l)) ∙ sym (append-nil _)
    at_by ps (then {c} {i} {is} h k a) (outs_of {os} {outs} f s r) l d =
        let low = lower_in_place c i is ps l in
        let rest = map (λ p. p.item) (lower ps) in
        let after : All (λ x. to i ≼ start x) rest = items_from (lower ps) a low in
        rw (at_append cut_at_most start d (in_gap 0 ps) (os ++ by_gap 1 outs ps), at_append cut_at_most start d os (by_gap 1 outs ps), at_append cut_at_most start d os (flatten outs))
        (rw (by_lower 0 outs ps, at_by {c = to i} {is = is} (lower ps) a r low d)
        (elim (order (from i) d) [
          | inr m ↦
              let far : d ≺ to i = ≺-≼-trans m k in
              rw (none_late start os m (All-map (λ x n. n.0) os f), none_late start rest far after, none_late start (flatten outs) far (outs_from a r))
              (rw (at_first start d ps (All-map (λ p n g e. alike_after (≺-≼-trans far (falls_from from to a (falls_later e n)))) ps l)))
          | inl m ↦
              rw (none_early start (in_gap 0 ps) m (All-first start _ ps (All-map (λ p n e. (falls_first e n).1) ps l)))
              (rw (at_lower start d ps (All-map (λ p n e. alike_before (≺-≼-trans (falls_first e n).1 m)) ps l))
              (elim (order (to i) d) [
                | inl n ↦ rw (none_early start os n (All-map (λ x n. n.1) os f))
                | inr n ↦ rw (none_late start rest n after)
              ]))
        ]))

    by_sorted : {c : Cut} {is : List I} {outs : List (List A)} (ps : List (Placed A)) → Ascends from to c is → Outs is outs → All (InPlace c is) ps
        → Pairwise (InStep start) ps → Sorted start (by_gap 0 outs ps)
    unfolding by_gap
    by_sorted ps a no_outs l s = sorted_first start ps s
    by_sorted ps (then {c} {i} {is} h k a) (outs_of {os} {outs} f t r) l s =
        let low = lower_in_place c i is ps l in
        let rest = by_gap 0 outs (lower ps) in
        let after : All (λ x. to i ≼ start x) rest = by_from (lower ps) a r low in
        let own = All-map (λ x m. m.0) os f in
        let from_on = All-append (λ x. from i ≼ start x) os rest own (All-map (λ x m. ≼_trans k m) rest after) in
        rw (by_lower 0 outs ps)
        (Pairwise-append (λ x y. start x ≼ start y) (in_gap 0 ps) (os ++ rest) (sorted_first start ps s)
        (Pairwise-append (λ x y. start x ≼ start y) os rest t (by_sorted {c = to i} {is = is} (lower ps) a r low (lower_in_step start ps s))
        (All-map (λ x m. All-map (λ y n. ≼_trans (≺-≼ m.1) n) rest after) os f))
        (All-map (λ x m. All-map (λ y n. ≼_trans (≺-≼ m) n) (os ++ rest) from_on) (in_gap 0 ps)
        (All-first start (λ x. start x ≺ from i) ps (All-map (λ p m e. (falls_first e m).1) ps l))))

    -- Items start in their gaps, those of one gap in order, and outputs in their intervals, those of one in order: then
    -- gap by gap they stand as the stable sort puts them.
    pub by_gap_is_sort :
        {c : Cut} {is : List I} {outs : List (List A)} (ps : List (Placed A))
        → Ascends from to c is
        → Outs is outs
        → All (InPlace c is) ps
        → Pairwise (InStep start) ps
        → by_gap 0 outs ps ≡ sort cut_at_most start (map (λ p. p.item) ps ++ flatten outs)
    by_gap_is_sort {outs} ps a o l s =
        sort_unique start (by_gap 0 outs ps) (sort cut_at_most start all) (by_sorted ps a o l s) (sort_sorted start all)
        (λ d. at_by ps a o l d ∙ sym (at_append cut_at_most start d (map (λ p. p.item) ps) (flatten outs)) ∙ sym (sort_stable cut_preorder start d all))
      where
        all : List A
        all = map (λ p. p.item) ps ++ flatten outs
