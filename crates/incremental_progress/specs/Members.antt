-- The elements of a list.
use Rattle.std.specs.Prelude.{◌≡◌, List, ◌∷◌}

pub data In {A : Type 0} (a : A) : List A → Type 0 where
  here : {x : A} {xs : List A} → a ≡ x → In a (x ∷ xs)
  further : {x : A} {xs : List A} → In a xs → In a (x ∷ xs)
