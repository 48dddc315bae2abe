-- The one shape of a call's outcome: the number of a stop, or the answer.
use Rattle.std.specs.Prelude.{ℕ, ◌≤◌, ◌≡◌, Bool, List, ◌++◌, length, drop, leb}
use Rattle.std.proofs.Common.{arith, length-append, length-drop}
use Rattle.base.specs.Pick.{pick}
use Rattle.base.specs.declared.Written.{Written}
use Rattle.base.specs.declared.Written.TheVariants.{Wrote, Stop}
use Rattle.base.specs.declared.Tested.{Tested}
use Rattle.base.specs.declared.Tested.TheVariants.{Is, Stop as TestedStop}

pub data Outcome (A : Type 0) : Type 0 where
  stop : ℕ → Outcome A
  answer : A → Outcome A

-- one step after another: the first stop is the outcome
abbrev pub and_then : {A B : Type 0} → Outcome A → (A → Outcome B) → Outcome B
and_then (stop n) f = stop n
and_then (answer a) f = f a

-- stop n unless its test passes
abbrev pub check : {A : Type 0} → ℕ → Bool → Outcome A → Outcome A
check n passes rest = pick passes rest (stop n)

-- a buffer with bytes at its front
abbrev pub over : List ℕ → List ℕ → List ℕ
over b d = b ++ drop (length b) d

-- what a lent buffer holds afterwards: a stop leaves it as it was
abbrev pub lent : List ℕ → Outcome (List ℕ) → List ℕ
lent d (stop n) = d
lent d (answer b) = over b d

-- bytes written into a buffer of that many bytes: 16 if it is shorter than the answer
abbrev pub written_to : ℕ → List ℕ → Outcome (List ℕ)
written_to room b = check 16 (leb (length b) room) (answer b)

-- what such a call reports of its outcome
abbrev pub reported : Outcome (List ℕ) → Written
reported (stop n) = Stop n
reported (answer b) = Wrote (length b)

-- what a test's answer says
abbrev pub test_of : Tested → Outcome Bool
test_of (Is t) = answer t
test_of (TestedStop n) = stop n

-- a buffer keeps its length
pub over_length : (b d : List ℕ) → length b ≤ length d → length (over b d) ≡ length d
over_length b d h = rw (length-append, length-drop) (omega arith)
