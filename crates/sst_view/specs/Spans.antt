-- What the code's answers say of the bytes s that they point into.
use Rattle.std.specs.Prelude.{ℕ, ◌≡◌, List}
use Rattle.base.specs.Outcome.{Outcome, answer}
use Rattle.base.specs.Outcome as outcome
use Rattle.records.specs.Values.{View}
use Rattle.records.specs.Spans.{view_in, ViewReadInside}
use Rattle.records.specs.declared.views.ViewRead.{ViewRead}
use Rattle.records.specs.declared.views.ViewRead.TheVariants.{At, Stop}

abbrev pub view_outcome : List ℕ → ViewRead → Outcome View
view_outcome s (At v) = answer (view_in s v)
view_outcome s (Stop k) = outcome.stop k

-- the view that an outcome has stands where the answer says
pub record ViewPlaced (s : List ℕ) (o : Outcome View) (r : ViewRead) : Type 0 where
  pub meaning : view_outcome s r ≡ o
  pub inside : ViewReadInside s r
