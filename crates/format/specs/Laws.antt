-- The promises on layouts: reading and writing invert each other; and on ranges of two suppliers. Their proofs are in proofs/.
use Rattle.std.specs.Prelude.{ℕ, ◌≤◌, ◌<◌, ◌^◌, ◌≡◌, List, ◌++◌, length}
use Rattle.std.proofs.Math.Option.{map}
use Rattle.base.specs.Bytes.{Bytes}
use Rattle.key.specs.Order.{Key}
use Rattle.comparable_range.specs.Range.{Bound, unbounded, included, excluded, Range}
use Rattle.comparable_range.specs.Range as plain
use Rattle.format.specs.Got.{Got, got}
use Rattle.format.specs.Number.{read_number, write_number}
use Rattle.format.specs.Key.{read_key, write_key}
use Rattle.format.specs.Range.{read_range, write_range}
use Rattle.format.specs.Joint.{Joint, range, intersect}

-- what an accepted front of a list is: the writing of its value, which is within the ceilings
pub record Written {A : Type 0} (write : A → List ℕ) (Within : A → Type 0) (l : List ℕ) (v : A) (r : List ℕ) : Type 0 where
  pub bytes : l ≡ write v ++ r
  pub within : Within v

-- A value within the ceilings is read back from its writing, and only writings are accepted.
pub record Layout {A : Type 0} (read : List ℕ → Got A) (write : A → List ℕ) (Within : A → Type 0) : Type 0 where
  pub back : (v : A) (r : List ℕ) → Within v → read (write v ++ r) ≡ got v r
  pub only : (l : List ℕ) (v : A) (r : List ℕ) → Bytes l → read l ≡ got v r → Written write Within l v r

-- ---- for numbers of any width, keys, ranges
abbrev pub NumberLayout : Type 0
NumberLayout = (n : ℕ) → Layout (read_number n) (write_number n) (λ v. v < 256 ^ n)

abbrev pub KeyWithin : Key → Type 0
KeyWithin k = length k ≤ 1024

abbrev pub BoundWithin : Bound → Type 0
BoundWithin unbounded = Unit
BoundWithin (included k) = KeyWithin k
BoundWithin (excluded k) = KeyWithin k

pub record RangeWithin (r : Range) : Type 0 where
  pub start : BoundWithin r.start
  pub end : BoundWithin r.end

abbrev pub KeyLayout : Type 0
KeyLayout = Layout read_key write_key KeyWithin

abbrev pub RangeLayout : Type 0
RangeLayout = Layout read_range write_range RangeWithin

-- ---- ranges of two suppliers
-- without the suppliers, their intersection is the one of the plain ranges
abbrev pub JointIntersectForgets : Type 0
JointIntersectForgets = (j k : Joint) → map range (intersect j k) ≡ plain.intersect (range j) (range k)
