-- A range: start kind 2 bits, end kind 2 bits, 4 of padding; then the start key and the end key, where the kind has one.
use Rattle.std.specs.Prelude.{ℕ, zero, suc, ◌+◌, ◌*◌, ◌/◌, ◌%◌, ◌≤◌, ◌≡◌, List, [], ◌∷◌, ◌++◌, length, take, drop, eqb, ltb}
use Rattle.base.specs.Pick.{pick}
use Rattle.base.specs.Outcome.{Outcome, answer}
use Rattle.base.specs.Outcome as outcome
use Rattle.format.specs.Whole.{whole}
use Rattle.comparable_range.specs.Range.{Bound, unbounded, included, excluded, Range, bound_of}
use Rattle.comparable_range.specs.declared.Kind.{Kind}
use Rattle.comparable_range.specs.declared.Kind.TheVariants.{Unbounded, Included, Excluded}
use Rattle.format.specs.Got.{Got, got, stop, and_then}
use Rattle.format.specs.Key.{read_key, write_key}
use Rattle.format.specs.declared.range.Head.{Head}
use Rattle.format.specs.declared.range.Head.TheVariants.{Kinds, Stop as HeadStop}
use Rattle.format.specs.declared.range.BoundSpan.{BoundSpan}
use Rattle.format.specs.declared.range.BoundRead.{BoundRead}
use Rattle.format.specs.declared.range.BoundRead.TheVariants.{At as BoundAt, Stop as BoundStop}
use Rattle.format.specs.declared.range.RangeRead.{RangeRead}
use Rattle.format.specs.declared.range.RangeRead.TheVariants.{At, Stop}

-- ---- the head byte
-- kinds: 0 unbounded, 1 included, 2 excluded
abbrev pub kind_of : ℕ → Kind
kind_of zero = Unbounded
kind_of (suc zero) = Included
kind_of (suc (suc n)) = Excluded

abbrev pub kind_number : Kind → ℕ
kind_number Unbounded = 0
kind_number Included = 1
kind_number Excluded = 2

-- stop 2 for a kind that is 3 and for padding that is not zero
unfoldable pub head_of : ℕ → Head
head_of b =
    pick (ltb (b / 64) 3)
    (pick (ltb (b / 16 % 4) 3) (pick (eqb (b % 16) 0) (Kinds (kind_of (b / 64)) (kind_of (b / 16 % 4))) (HeadStop 2)) (HeadStop 2))
    (HeadStop 2)

abbrev pub head_byte : Kind → Kind → ℕ
head_byte ks ke = kind_number ks * 64 + kind_number ke * 16

-- ---- bounds
unfoldable pub read_bound : Kind → List ℕ → Got Bound
read_bound Unbounded l = got unbounded l
read_bound Included l = and_then (read_key l) (λ k r. got (included k) r)
read_bound Excluded l = and_then (read_key l) (λ k r. got (excluded k) r)

abbrev pub kind_of_bound : Bound → Kind
kind_of_bound unbounded = Unbounded
kind_of_bound (included k) = Included
kind_of_bound (excluded k) = Excluded

unfoldable pub write_bound : Bound → List ℕ
write_bound unbounded = []
write_bound (included k) = write_key k
write_bound (excluded k) = write_key k

-- ---- ranges
abbrev pub headed : Head → List ℕ → Got Range
headed (HeadStop n) l = stop n
headed (Kinds ks ke) l = and_then (read_bound ks l) (λ s r. and_then (read_bound ke r) (λ e q. got (record { start = s; end = e }) q))

-- the head byte decides which keys follow
unfoldable pub read_range : List ℕ → Got Range
read_range [] = stop 1
read_range (b ∷ l) = headed (head_of b) l

unfoldable pub write_range : Range → List ℕ
write_range r = head_byte (kind_of_bound r.start) (kind_of_bound r.end) ∷ (write_bound r.start ++ write_bound r.end)

-- ---- what the code's answers say of the bytes s
abbrev pub bound_in : List ℕ → BoundSpan → Bound
bound_in s b = bound_of b.kind (take b.len (drop b.at s))

abbrev pub range_in : List ℕ → BoundSpan → BoundSpan → Range
range_in s start end = record { start = bound_in s start; end = bound_in s end }

abbrev pub BoundInside : List ℕ → BoundSpan → Type 0
BoundInside s b = b.at + b.len ≤ length s

-- the bound that a reader finds stands where the answer says
abbrev pub bound_read : List ℕ → BoundRead → Got Bound
bound_read s (BoundAt b next) = got (bound_in s b) (drop next s)
bound_read s (BoundStop n) = stop n

abbrev pub BoundReadInside : List ℕ → BoundRead → Type 0
BoundReadInside s (BoundAt b next) = BoundInside s b × (next ≤ length s)
BoundReadInside s (BoundStop n) = Unit

pub record BoundFound (s : List ℕ) (g : Got Bound) (r : BoundRead) : Type 0 where
  pub meaning : bound_read s r ≡ g
  pub inside : BoundReadInside s r

abbrev pub range_read : List ℕ → RangeRead → Got Range
range_read s (At start end next) = got (range_in s start end) (drop next s)
range_read s (Stop n) = stop n

abbrev pub RangeInside : List ℕ → RangeRead → Type 0
RangeInside s (At start end next) = BoundInside s start × (BoundInside s end × (next ≤ length s))
RangeInside s (Stop n) = Unit

-- the range that a reader finds stands where the answer says
pub record RangeFound (s : List ℕ) (g : Got Range) (r : RangeRead) : Type 0 where
  pub meaning : range_read s r ≡ g
  pub inside : RangeInside s r

-- the range that is the whole of a buffer
abbrev pub range_given : List ℕ → RangeRead → Outcome Range
range_given s (At start end next) = answer (range_in s start end)
range_given s (Stop n) = outcome.stop n

pub record RangeWhole (s : List ℕ) (r : RangeRead) : Type 0 where
  pub meaning : range_given s r ≡ whole read_range s
  pub inside : RangeInside s r
