-- A bound that is an argument of its own.
use Rattle.std.specs.Prelude.{ℕ, zero, suc, List, [], ◌∷◌, length, leb}
use Rattle.base.specs.Outcome.{Outcome, stop, answer, and_then, check}
use Rattle.key.specs.Order.{Key}
use Rattle.comparable_range.specs.Range.{Bound, unbounded, included, excluded, bound_of}
use Rattle.format.specs.Whole.{key_given}
use Rattle.format.specs.declared.given.Given.{Given}
use Rattle.format.specs.declared.given.Given.TheVariants.{Bound as GivenBound, Stop as GivenStop}

-- It is given by the number of its kind, and its key. An unbounded one has no key, so bytes that are given for it are left
-- over.
abbrev pub nothing_left : List ℕ → Outcome Bound
nothing_left [] = answer unbounded
nothing_left (b ∷ l) = stop 1

unfoldable pub bound_given : ℕ → List ℕ → Outcome Bound
bound_given zero l = check 3 (leb (length l) 65536) (nothing_left l)
bound_given (suc zero) l = and_then (key_given l) (λ k. answer (included k))
bound_given (suc (suc zero)) l = and_then (key_given l) (λ k. answer (excluded k))
bound_given (suc (suc (suc n))) l = stop 2

-- what the code keeps of it
abbrev pub given_of : Key → Given → Outcome Bound
given_of k (GivenBound j) = answer (bound_of j k)
given_of k (GivenStop n) = stop n
