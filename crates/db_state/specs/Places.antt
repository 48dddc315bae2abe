-- Runs and views called by place, from 0.
use Rattle.std.specs.Prelude.{ℕ, zero, suc, List, [], ◌∷◌}
use Rattle.std.proofs.Math.Option.{Option, none, some}
use Rattle.base.specs.Outcome.{Outcome, stop, answer, and_then}
use Rattle.records.specs.Values.{View, Image}
use Rattle.manifest.specs.Checks.{image_given}

unfoldable pub at : {A : Type 0} → List A → ℕ → Option A
at [] n = none
at (a ∷ l) zero = some a
at (a ∷ l) (suc n) = at l n

-- stop 9: it is not in the image
abbrev pub placed : {A : Type 0} → Option A → Outcome A
placed none = stop 9
placed (some a) = answer a

unfoldable pub view_at : Image → ℕ → ℕ → Outcome View
view_at i run view = and_then (placed (at i run)) (λ r. placed (at r.views view))

-- the view at a place of an image that is the whole of a buffer
unfoldable pub view_given : List ℕ → ℕ → ℕ → Outcome View
view_given l run view = and_then (image_given l) (λ i. view_at i run view)
