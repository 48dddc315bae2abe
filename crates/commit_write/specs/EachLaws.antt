-- Two lists, element by element: how long they are, and one pair after another.
-- Assumes nothing.
use Rattle.std.specs.Prelude.{suc, ◌≡◌, refl, List, [], ◌∷◌, ◌++◌, length}
use Rattle.std.proofs.Common.{ap}
use Rattle.base.specs.Rows.{Each}

module _ {A B : Type 0} (R : A → B → Type 0) where
  pub each_length : (xs : List A) (ys : List B) → Each R xs ys → length xs ≡ length ys
  each_length [] [] e = refl
  each_length [] (y ∷ ys) e = absurd e
  each_length (x ∷ xs) [] e = absurd e
  each_length (x ∷ xs) (y ∷ ys) e = ap suc (each_length xs ys e.1)

  pub each_append : (xs us : List A) (ys vs : List B) → Each R xs ys → Each R us vs → Each R (xs ++ us) (ys ++ vs)
  each_append [] us [] vs e d = d
  each_append [] us (y ∷ ys) vs e d = absurd e
  each_append (x ∷ xs) us [] vs e d = absurd e
  each_append (x ∷ xs) us (y ∷ ys) vs e d = (e.0, each_append xs us ys vs e.1 d)
