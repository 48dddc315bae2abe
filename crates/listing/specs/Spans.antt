-- What the code's answers say.
use Rattle.std.specs.Prelude.{ℕ, ◌+◌, ◌≤◌, ◌≡◌, List, length, drop}
use Rattle.format.specs.Got.{Got, got}
use Rattle.records.specs.Found.{values_of}
use Rattle.listing.specs.declared.Reached.{Reached}

-- the place past some values that are there, and past the text that was measured or written for them
pub record ReachedPast {A : Type 0} (s : List ℕ) (g : Got (List A)) (to : ℕ) (text : List ℕ) (r : Reached) : Type 0 where
  pub is : g ≡ got (values_of g) (drop r.next s)
  pub inside : r.next ≤ length s
  pub long : r.to ≡ to + length text
