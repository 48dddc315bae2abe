-- What the code's answers say of the bytes s that they point into.
use Rattle.std.specs.Prelude.{ℕ, ◌+◌, ◌≤◌, ◌^◌, ◌≡◌, Bool, true, false, List, length, drop, leb, ltb}
use Rattle.base.specs.Pick.{pick}
use Rattle.base.specs.Outcome.{Outcome, answer}
use Rattle.base.specs.Outcome as outcome
use Rattle.comparable_range.specs.declared.Kind.{Kind}
use Rattle.comparable_range.specs.declared.Kind.TheVariants.{Unbounded, Included, Excluded}
use Rattle.format.specs.Got.{Got, got, stop}
use Rattle.comparable_range.specs.Range.{Bound}
use Rattle.format.specs.Range.{bound_in, range_in, BoundInside}
use Rattle.format.specs.declared.range.BoundSpan.{BoundSpan}
use Rattle.format.specs.declared.span.RangeSpan.{RangeSpan}
use Rattle.records.specs.Spans.{view_in}
use Rattle.records.specs.declared.tables.TableSpan.{TableSpan}
use Rattle.records.specs.declared.views.ViewSpan.{ViewSpan}
use Rattle.manifest.specs.Ranges.{effective}
use Rattle.manifest.specs.Checks.{Checks}
use Rattle.manifest.specs.Faults.{fault_of}
use Rattle.manifest.specs.declared.images.Judged.{Judged}
use Rattle.manifest.specs.declared.images.Judged.TheVariants.{At, Stop}

-- ---- ranges
-- the bounds of a table's own range
abbrev pub first_span : TableSpan → BoundSpan
first_span t = record { kind = Included; at = t.first_at; len = t.first_len }

abbrev pub last_kind : Bool → Kind
last_kind flagged = pick flagged Included Unbounded

abbrev pub last_span : TableSpan → BoundSpan
last_span t = record { kind = last_kind t.flagged; at = t.last_at; len = t.last_len }

-- r stands for the bound
pub record BoundFound (s : List ℕ) (b : Bound) (r : BoundSpan) : Type 0 where
  pub is : bound_in s r ≡ b
  pub inside : BoundInside s r

-- the bounds are those of the view's effective range
pub record EffectiveFound (s : List ℕ) (v : ViewSpan) (r : RangeSpan) : Type 0 where
  pub meaning : range_in s r.start r.end ≡ effective (view_in s v)
  pub start : BoundInside s r.start
  pub end : BoundInside s r.end

-- ---- checks
abbrev pub plain_kind : Kind → Bool
plain_kind Unbounded = true
plain_kind Included = true
plain_kind Excluded = false

abbrev pub plain_start : ViewSpan → Bool
plain_start v = pick v.shown (plain_kind v.start.kind) true

unfoldable pub size_fits : ℕ → ℕ → Bool
size_fits offset len = leb (offset + len) (2 ^ 53)

-- ---- what was read, with the number of the first check that it fails
abbrev pub faults : {A : Type 0} → (A → Checks) → Got A → Got ℕ
faults checks (got a r) = got (fault_of (checks a)) r
faults checks (stop k) = stop k

abbrev pub judged : List ℕ → Judged → Got ℕ
judged s (At next fault) = got fault (drop next s)
judged s (Stop k) = stop k

abbrev pub JudgedInside : List ℕ → Judged → Type 0
JudgedInside s (At next fault) = next ≤ length s
JudgedInside s (Stop k) = Unit

pub record JudgedFound (s : List ℕ) (g : Got ℕ) (r : Judged) : Type 0 where
  pub meaning : judged s r ≡ g
  pub inside : JudgedInside s r

-- the same of a whole buffer
abbrev pub outcome_fault : {A : Type 0} → (A → Checks) → Outcome A → Outcome ℕ
outcome_fault checks (outcome.stop k) = outcome.stop k
outcome_fault checks (answer a) = answer (fault_of (checks a))

abbrev pub judged_whole : Judged → Outcome ℕ
judged_whole (At next fault) = answer fault
judged_whole (Stop k) = outcome.stop k

pub record JudgedWhole {A : Type 0} (s : List ℕ) (checks : A → Checks) (o : Outcome A) (r : Judged) : Type 0 where
  pub meaning : judged_whole r ≡ outcome_fault checks o
  pub inside : JudgedInside s r

-- a reading from the front, of a buffer of n bytes: bytes that remain are stop 1
abbrev pub ended_by : ℕ → Judged → Judged
ended_by n (At next fault) = pick (ltb next n) (Stop 1) (At next fault)
ended_by n (Stop k) = Stop k
