-- Two lists, element by element: parts of both, the second mapped, and what is true of each.
-- Assumes nothing.
use mathlib.Core.List.{List, [], ◌∷◌, ◌++◌, map}
use lib.ListN.{length, take, drop}
use Rattle.base.specs.Lists.{All}
use Rattle.base.specs.Rows.{Each}

module _ {A B : Type 0} (R : A → B → Type 0) where
  pub each_front : (xs us : List A) (ys : List B) → Each R (xs ++ us) ys → Each R xs (take (length xs) ys)
  each_front [] us ys e = tt
  each_front (x ∷ xs) us [] e = absurd e
  each_front (x ∷ xs) us (y ∷ ys) e = (e.0, each_front xs us ys e.1)

  pub each_back : (xs us : List A) (ys : List B) → Each R (xs ++ us) ys → Each R us (drop (length xs) ys)
  each_back [] us ys e = e
  each_back (x ∷ xs) us [] e = absurd e
  each_back (x ∷ xs) us (y ∷ ys) e = each_back xs us ys e.1

  pub each_map : {C : Type 0} (S : A → C → Type 0) (f : B → C) → ((x : A) (y : B) → R x y → S x (f y)) → (xs : List A) (ys : List B) → Each R xs ys → Each S xs (map f ys)
  each_map S f h [] [] e = tt
  each_map S f h [] (y ∷ ys) e = absurd e
  each_map S f h (x ∷ xs) [] e = absurd e
  each_map S f h (x ∷ xs) (y ∷ ys) e = (h x y e.0, each_map S f h xs ys e.1)

  pub each_turn : (S : A → B → Type 0) → ((x : A) (y : B) → R x y → S x y) → (xs : List A) (ys : List B) → Each R xs ys → Each S xs ys
  each_turn S h [] [] e = tt
  each_turn S h [] (y ∷ ys) e = absurd e
  each_turn S h (x ∷ xs) [] e = absurd e
  each_turn S h (x ∷ xs) (y ∷ ys) e = (h x y e.0, each_turn S h xs ys e.1)

  -- of the second, from what is true of the first
  pub each_all : (P : A → Type 0) (Q : B → Type 0) → ((x : A) (y : B) → R x y → P x → Q y) → (xs : List A) (ys : List B) → Each R xs ys → All P xs → All Q ys
  each_all P Q h [] [] e a = tt
  each_all P Q h [] (y ∷ ys) e a = absurd e
  each_all P Q h (x ∷ xs) [] e a = absurd e
  each_all P Q h (x ∷ xs) (y ∷ ys) e a = (h x y e.0 a.0, each_all P Q h xs ys e.1 a.1)
