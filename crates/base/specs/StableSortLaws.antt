-- What two elements share no key by, once they are cut into pieces. The laws of the stable sort are in proofs/StableSortLaws.antt.
-- Assumes nothing.
use Rattle.std.specs.Prelude.{◌≡◌, ◌⊎◌, Bool, false, List, []}
use Rattle.base.specs.StableSort.{at}

module _ {A K : Type 0} (le : K → K → Bool) (key : A → K) where
  -- Each element is cut into pieces by f. The pieces of x share no key with those of a later y that is below it.
  abbrev pub Untied : (A → List A) → A → A → Type 0
  Untied f x y = le (key x) (key y) ≡ false → (c : K) → (at le key c (f x) ≡ []) ⊎ (at le key c (f y) ≡ [])
