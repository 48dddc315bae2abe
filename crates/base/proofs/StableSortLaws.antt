-- Laws of the stable sort: it keeps those of each key in their order, and nothing else that is sorted does.
-- Assumes nothing.
use Rattle.std.specs.Prelude.{◌≡◌, ◌⊎◌, Bool, ◌&&◌}
use Rattle.std.proofs.Math.Path.{refl}
use Rattle.std.proofs.Common.{sym, ◌∙◌, true≢false}
use Rattle.std.proofs.Math.Logic.{inl, inr}
use Rattle.std.proofs.Math.Bool.{true, false}
use mathlib.Core.List.{List, [], ◌∷◌, ◌++◌, flat_map}
use Rattle.base.specs.Pick.{pick, and_first, and_second}
use Rattle.base.specs.Sort.{insert, sort, Preorder}
use Rattle.base.specs.SortLaws.{decided, Sorted}
use Rattle.base.specs.StableSortLaws.{Untied}
use Rattle.base.proofs.SortLaws.{insert_first, insert_next, All-sort, sort_sorted, below_trans}
use Rattle.base.specs.StableSort.{alike, at, Permutation, none, more, exchanged, through}
use Rattle.base.specs.Lists.{All, All-map, Pairwise}

-- ---- keys that are alike, and that are not
module _ {K : Type 0} (le : K → K → Bool) where
  pub alike_above : {c d : K} → le c d ≡ false → alike le c d ≡ false
  unfolding alike
  alike_above h = rw h

  pub alike_below : {c d : K} → le d c ≡ false → alike le c d ≡ false
  unfolding alike
  alike_below {c} {d} h = rw h (go (le c d))
    where
      go : (b : Bool) → (b && false) ≡ false
      go true = refl
      go false = refl

  both_alike : {c d : K} → le c d ≡ true → le d c ≡ true → alike le c d ≡ true
  unfolding alike
  both_alike h k = rw (h, k)

  alike_first : {c d : K} → alike le c d ≡ true → le c d ≡ true
  unfolding alike
  alike_first {c} {d} h = and_first (le c d) (le d c) h

  alike_second : {c d : K} → alike le c d ≡ true → le d c ≡ true
  unfolding alike
  alike_second {c} {d} h = and_second (le c d) (le d c) h

-- ---- those of a key
module _ {A K : Type 0} (le : K → K → Bool) (key : A → K) where
  pub at_append : (c : K) (xs ys : List A) → at le key c (xs ++ ys) ≡ at le key c xs ++ at le key c ys
  unfolding at
  at_append c [] ys = refl
  at_append c (x ∷ xs) ys = rw (at_append c xs ys) (go (alike le (key x) c))
    where
      go : (b : Bool) → pick b (x ∷ (at le key c xs ++ at le key c ys)) (at le key c xs ++ at le key c ys) ≡ pick b (x ∷ at le key c xs) (at le key c xs) ++ at le key c ys
      go true = refl
      go false = refl

  pub at_none : (c : K) (xs : List A) → All (λ y. alike le (key y) c ≡ false) xs → at le key c xs ≡ []
  unfolding at
  at_none c [] a = refl
  at_none c (x ∷ xs) a = rw a.0 (at_none c xs a.1)

  at_here : {x : A} (c : K) (xs : List A) → alike le (key x) c ≡ true → at le key c (x ∷ xs) ≡ x ∷ at le key c xs
  unfolding at
  at_here c xs h = rw h

  at_tail : {x y : A} (xs ys : List A) → x ≡ y → (c : K) → at le key c (x ∷ xs) ≡ at le key c (y ∷ ys) → at le key c xs ≡ at le key c ys
  unfolding at
  at_tail {x} {y} xs ys p c e = go (alike le (key x) c) (alike le (key y) c) (rw p) e
    where
      go : (a b : Bool) → a ≡ b → pick a (x ∷ at le key c xs) (at le key c xs) ≡ pick b (y ∷ at le key c ys) (at le key c ys) → at le key c xs ≡ at le key c ys
      go true true q e = cc
      go true false q e = cc
      go false true q e = cc
      go false false q e = e

  -- ---- the same elements
  same : (xs : List A) → Permutation xs xs
  same [] = none
  same (x ∷ xs) = more x (same xs)

  insert_permutes : (x : A) (ys : List A) → Permutation (x ∷ ys) (insert le key x ys)
  unfolding insert
  insert_permutes x [] = same (x ∷ [])
  insert_permutes x (y ∷ ys) =
      elim (decided (le (key x) (key y))) [
        | inl h ↦ rw h (same (x ∷ y ∷ ys))
        | inr h ↦ rw h (through (exchanged x y ys) (more y (insert_permutes x ys)))
      ]

  pub sort_permutes : (xs : List A) → Permutation xs (sort le key xs)
  unfolding sort
  sort_permutes [] = none
  sort_permutes (x ∷ xs) = through (more x (sort_permutes xs)) (insert_permutes x (sort le key xs))

module _ {A K : Type 0} {le : K → K → Bool} (o : Preorder le) (key : A → K) where
  at_most_itself : (c : K) → le c c ≡ true
  at_most_itself c = elim (decided (le c c)) [ inl h ↦ h | inr h ↦ o.total c c h ]

  at_head : (x : A) (xs : List A) → at le key (key x) (x ∷ xs) ≡ x ∷ at le key (key x) xs
  at_head x xs = at_here le key (key x) xs (both_alike le (at_most_itself (key x)) (at_most_itself (key x)))

  -- ---- those of each key keep their order: what a stable sort keeps
  -- of two that are not alike at most one is alike c
  at_swap : (c : K) {x y : A} (zs : List A) → le (key x) (key y) ≡ false → at le key c (x ∷ y ∷ zs) ≡ at le key c (y ∷ x ∷ zs)
  unfolding at
  at_swap c {x} {y} zs h = go (alike le (key x) c) (alike le (key y) c) refl refl
    where
      go : (a b : Bool) → alike le (key x) c ≡ a → alike le (key y) c ≡ b
          → pick a (x ∷ pick b (y ∷ at le key c zs) (at le key c zs)) (pick b (y ∷ at le key c zs) (at le key c zs))
          ≡ pick b (y ∷ pick a (x ∷ at le key c zs) (at le key c zs)) (pick a (x ∷ at le key c zs) (at le key c zs))
      go true true p q =
          absurd (true≢false (sym (o.trans (key x) c (key y) (alike_first le p) (alike_second le q)) ∙ h))
      go true false p q = refl
      go false true p q = refl
      go false false p q = refl

  at_insert : (c : K) (x : A) (ys : List A) → at le key c (insert le key x ys) ≡ at le key c (x ∷ ys)
  unfolding insert at
  at_insert c x [] = refl
  at_insert c x (y ∷ ys) =
      elim (decided (le (key x) (key y))) [
        | inl h ↦ rw (insert_first le key ys h)
        | inr h ↦ rw (insert_next le key ys h, at_insert c x ys) (sym (at_swap c ys h))
      ]

  pub sort_stable : (c : K) (xs : List A) → at le key c (sort le key xs) ≡ at le key c xs
  unfolding sort at
  sort_stable c [] = refl
  sort_stable c (x ∷ xs) = at_insert c x (sort le key xs) ∙ rw (sort_stable c xs)

  -- ---- and only the sort does both
  -- x is below y, and y ∷ ys is sorted: none is alike x
  at_later : {x y : A} (ys : List A) → le (key y) (key x) ≡ false → Sorted le key (y ∷ ys) → at le key (key x) (y ∷ ys) ≡ []
  at_later {x} {y} ys h t =
      at_none le key (key x) (y ∷ ys)
      (alike_above le h, All-map (λ z k. alike_above le (below_trans o key {x = y} {y = x} {z = z} h k)) ys t.0)

  pub sort_unique : (xs ys : List A) → Sorted le key xs → Sorted le key ys → ((c : K) → at le key c xs ≡ at le key c ys) → xs ≡ ys
  unfolding at
  sort_unique [] [] s t e = refl
  sort_unique [] (y ∷ ys) s t e = let h = e (key y) in cc (at_head y ys)
  sort_unique (x ∷ xs) [] s t e = let h = e (key x) in cc (at_head x xs)
  sort_unique (x ∷ xs) (y ∷ ys) s t e = go (decided (le (key x) (key y))) (decided (le (key y) (key x))) (λ f. sort_unique xs ys s.1 t.1 f)
    where
      go : (le (key x) (key y) ≡ true) ⊎ (le (key x) (key y) ≡ false) → (le (key y) (key x) ≡ true) ⊎ (le (key y) (key x) ≡ false)
          → (((c : K) → at le key c xs ≡ at le key c ys) → xs ≡ ys) → Path (List A) (x ∷ xs) (y ∷ ys)
      go (inl h) (inl k) ih =
          let q = at_head x xs in
          let r = at_here le key {x = y} (key x) ys (both_alike le k h) in
          let m = e (key x) in
          let w : x ≡ y = cc in
          let z = ih (λ c. at_tail le key xs ys w c (e c)) in
          cc
      go (inl h) (inr k) ih = let m = e (key x) in cc (at_head x xs, at_later {x = x} ys k t)
      go (inr h) k ih = let m = e (key y) in cc (at_head y ys, at_later {x = y} xs h s)

  -- So two lists that have those of each key alike are sorted alike.
  pub sort_alike : (xs ys : List A) → ((c : K) → at le key c xs ≡ at le key c ys) → sort le key xs ≡ sort le key ys
  sort_alike xs ys e =
      sort_unique (sort le key xs) (sort le key ys) (sort_sorted o key xs) (sort_sorted o key ys) (λ c. sort_stable c xs ∙ e c ∙ sym (sort_stable c ys))

  -- ---- sorting in between
  module _ (f : A → List A) where
    at_flat_map_insert : (c : K) (x : A) (ys : List A) → All (Untied le key f x) ys → at le key c (flat_map f (insert le key x ys)) ≡ at le key c (flat_map f (x ∷ ys))
    unfolding insert flat_map
    at_flat_map_insert c x [] a = refl
    at_flat_map_insert c x (y ∷ ys) a =
        elim (decided (le (key x) (key y))) [
          | inl h ↦ rw (insert_first le key ys h)
          | inr h ↦
              rw (insert_next le key ys h, at_append le key c (f y) (flat_map f (insert le key x ys)), at_flat_map_insert c x ys a.1, at_append le key c (f x) (flat_map f ys), at_append le key c (f x) (f y ++ flat_map f ys), at_append le key c (f y) (flat_map f ys))
              (elim (a.0 h c) [ inl e ↦ rw e | inr e ↦ rw e ])
        ]

    at_flat_map_sort : (c : K) (xs : List A) → Pairwise (Untied le key f) xs → at le key c (flat_map f (sort le key xs)) ≡ at le key c (flat_map f xs)
    unfolding sort flat_map
    at_flat_map_sort c [] p = refl
    at_flat_map_sort c (x ∷ xs) p =
        at_flat_map_insert c x (sort le key xs) (All-sort le key (Untied le key f x) xs p.0)
        ∙ rw (at_append le key c (f x) (flat_map f (sort le key xs)), at_flat_map_sort c xs p.1, at_append le key c (f x) (flat_map f xs))

    -- Sorting before the cut changes nothing that sorting after it does not.
    pub sort_between : (xs outs : List A) → Pairwise (Untied le key f) xs → sort le key (flat_map f (sort le key xs) ++ outs) ≡ sort le key (flat_map f xs ++ outs)
    sort_between xs outs p = sort_alike _ _ (λ c. rw (at_append le key c (flat_map f (sort le key xs)) outs, at_flat_map_sort c xs p, at_append le key c (flat_map f xs) outs))
