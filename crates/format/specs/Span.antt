-- What bounds that stand in one of two slices say, and the answers on them.
use Rattle.std.specs.Prelude.{ℕ, ◌≡◌, List, []}
use Rattle.std.proofs.Math.Option.{Option, none, some}
use Rattle.base.specs.Outcome.{Outcome, stop, answer, and_then}
use Rattle.key.specs.Order.{Key}
use Rattle.comparable_range.specs.Range.{Bound, unbounded, included, excluded, of}
use Rattle.format.specs.Range.{BoundInside, bound_in}
use Rattle.format.specs.Joint.{Supply, Joint}
use Rattle.format.specs.declared.span.Supplied.{Supplied}
use Rattle.format.specs.declared.span.JointSpan.{JointSpan}
use Rattle.std.specs.Prelude.{Option as Optional, None, Some}
use Rattle.format.specs.declared.span.Joined.{Joined}
use Rattle.format.specs.declared.span.Joined.TheVariants.{Range as JoinedRange, Nothing as NoRange, Stop}

-- ---- a bound that stands in a, if its side is the first, or in b
abbrev pub SuppliedInside : List ℕ → List ℕ → Supplied → Type 0
SuppliedInside a b x = BoundInside (of x.side a b) x.bound

abbrev pub supplied_bound : List ℕ → List ℕ → Supplied → Bound
supplied_bound a b x = bound_in (of x.side a b) x.bound

abbrev pub supply_in : List ℕ → List ℕ → Supplied → Supply
supply_in a b x = record { side = x.side; bound = supplied_bound a b x }

-- the key of a bound, empty where it has none
abbrev pub bound_key : Bound → Key
bound_key unbounded = []
bound_key (included k) = k
bound_key (excluded k) = k

-- ---- a range of such bounds
abbrev pub joint_in : List ℕ → List ℕ → JointSpan → Joint
joint_in a b j = record { start = supply_in a b j.start; end = supply_in a b j.end }

pub record JointInside (a b : List ℕ) (j : JointSpan) : Type 0 where
  pub start : SuppliedInside a b j.start
  pub end : SuppliedInside a b j.end

-- ---- an intersection
abbrev pub Met : Type 0
Met = Optional JointSpan

abbrev pub met_in : List ℕ → List ℕ → Met → Option Joint
met_in a b None = none
met_in a b (Some j) = some (joint_in a b j)

abbrev pub MetInside : List ℕ → List ℕ → Met → Type 0
MetInside a b None = Unit
MetInside a b (Some j) = JointInside a b j

-- the intersection is the one that the answer tells of, and its bounds stand where the answer says
pub record MetFound (a b : List ℕ) (o : Option Joint) (r : Met) : Type 0 where
  pub meaning : met_in a b r ≡ o
  pub inside : MetInside a b r

-- ---- what a call answers
abbrev pub joint_of : List ℕ → List ℕ → Joined → Outcome (Option Joint)
joint_of a b (JoinedRange s e) = answer (some (record { start = supply_in a b s; end = supply_in a b e }))
joint_of a b NoRange = answer none
joint_of a b (Stop n) = stop n

abbrev pub JoinedInside : List ℕ → List ℕ → Joined → Type 0
JoinedInside a b (JoinedRange s e) = SuppliedInside a b s × SuppliedInside a b e
JoinedInside a b NoRange = Unit
JoinedInside a b (Stop n) = Unit

pub record JointFound (a b : List ℕ) (g : Outcome (Option Joint)) (r : Joined) : Type 0 where
  pub meaning : joint_of a b r ≡ g
  pub inside : JoinedInside a b r

-- ---- the key of a bound of what a call answers
-- no byte where there is no range, and for an unbounded bound
abbrev pub start_key : Option Joint → Key
start_key none = []
start_key (some j) = bound_key j.start.bound

abbrev pub end_key : Option Joint → Key
end_key none = []
end_key (some j) = bound_key j.end.bound

abbrev pub start_key_of : Outcome (Option Joint) → Outcome Key
start_key_of g = and_then g (λ j. answer (start_key j))

abbrev pub end_key_of : Outcome (Option Joint) → Outcome Key
end_key_of g = and_then g (λ j. answer (end_key j))

-- the key of an outcome, no byte after a stop
abbrev pub key_of : Outcome Key → Key
key_of (stop n) = []
key_of (answer k) = k
