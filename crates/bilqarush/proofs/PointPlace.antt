-- The key of a point stands behind the head byte and its length: a range that is a point is the writing of its bounds, and
-- its start is included.
-- Assumes nothing.
use Prim.Native.Nat.{ℕ, ◌+◌, ◌≤◌}
use native.Mathlib.Omega.{arith}
use mathlib.Core.Path.{◌≡◌, refl, ◌∙◌}
use mathlib.Core.Bool.{Bool, true, false}
use mathlib.Core.Option.{none, some}
use mathlib.Core.List.{List, [], ◌∷◌, ◌++◌, append-nil}
use lib.ListN.{length, take, drop, length-append}
use lib.Seq.{take-append_seam}
use lib.Dec.{leb}
use Rattle.base.specs.Pick.{pick}
use Rattle.base.specs.Outcome.{Outcome, stop, answer, and_then, check}
use Rattle.key.specs.Order.{Key, cmp_key, is_equal}
use Rattle.comparable_range.specs.Range.{Bound, unbounded, included, excluded, Range, non_empty}
use Rattle.format.specs.Got.{Got, got}
use Rattle.format.specs.Got as gets
use Rattle.format.specs.Number.{write_number}
use Rattle.format.specs.Key.{write_key}
use Rattle.format.specs.Range.{read_range, write_bound, write_range, head_byte, kind_of_bound}
use Rattle.format.specs.Whole.{ended, whole}
use Rattle.format.proofs.Layouts.{number_length}
use Rattle.format.proofs.RangeLayouts.{range_layout}
use Rattle.bytes_range.specs.Prefix.{point_of, as_point}
use Rattle.bilqarush.specs.Calls.{range_given, as_point_outcome}
use Rattle.bilqarush.specs.Laws.{PointIsThere}

-- ---- the range that was read
pub record Read (g : Outcome Range) (k : Key) : Type 0 where
  pub range : Range
  pub is : g ≡ answer range
  pub point : as_point range ≡ some k

checked : (t : Bool) (r : Range) (k : Key) → and_then (check 4 t (answer r)) (λ q. answer (as_point q)) ≡ answer (some k) → as_point r ≡ some k
checked true r k e = cc
checked false r k e = absurd (let z : ◌≡◌ {A = ℕ} 0 1 = cc in omega arith)

read : (g : Outcome Range) (k : Key) → and_then (and_then g (λ r. check 4 (non_empty r) (answer r))) (λ r. answer (as_point r)) ≡ answer (some k) → Read g k
read (stop n) k e = absurd (let z : ◌≡◌ {A = ℕ} 0 1 = cc in omega arith)
read (answer r) k e = record { range = r; is = refl; point = checked (non_empty r) r k e }

all_read : (t : Bool) (g : Got Range) (r : Range) → check 3 t (ended g) ≡ answer r → g ≡ got r []
all_read true (gets.stop n) r e = absurd (let z : ◌≡◌ {A = ℕ} 0 1 = cc in omega arith)
all_read true (got q []) r e = cc
all_read true (got q (b ∷ l)) r e = absurd (let z : ◌≡◌ {A = ℕ} 0 1 = cc in omega arith)
all_read false g r e = absurd (let z : ◌≡◌ {A = ℕ} 0 1 = cc in omega arith)

whole_is : (l : List ℕ) (r : Range) → whole read_range l ≡ answer r → read_range l ≡ got r []
unfolding whole
whole_is l r e = all_read (leb (length l) 65536) (read_range l) r e

-- ---- its start
same_key : (t : Bool) (a k : Key) → pick t (some a) none ≡ some k → included a ≡ included k
same_key true a k e = cc
same_key false a k e = absurd (let z : ◌≡◌ {A = ℕ} 0 1 = cc in omega arith)

start_is : (s e : Bound) (k : Key) → point_of s e ≡ some k → s ≡ included k
unfolding point_of
start_is unbounded e k h = absurd (let z : ◌≡◌ {A = ℕ} 0 1 = cc in omega arith)
start_is (included a) unbounded k h = absurd (let z : ◌≡◌ {A = ℕ} 0 1 = cc in omega arith)
start_is (included a) (included b) k h = same_key (is_equal (cmp_key a b)) a k h
start_is (included a) (excluded b) k h = absurd (let z : ◌≡◌ {A = ℕ} 0 1 = cc in omega arith)
start_is (excluded a) e k h = absurd (let z : ◌≡◌ {A = ℕ} 0 1 = cc in omega arith)

-- ---- its place
pub record There (l : List ℕ) (k : Key) : Type 0 where
  pub room : 3 + length k ≤ length l
  pub key : take (length k) (drop 3 l) ≡ k

behind : (h : ℕ) (n : List ℕ) (k w : List ℕ) → length n ≡ 2 → There (h ∷ ((n ++ k) ++ w)) k
behind h [] k w e = absurd (omega arith)
behind h (x ∷ []) k w e = absurd (omega arith)
behind h (x ∷ y ∷ []) k w e = record { room = rw length-append (omega arith); key = take-append_seam k w }
behind h (x ∷ y ∷ z ∷ n) k w e = absurd (omega arith)

written : (s e : Bound) (k : Key) → s ≡ included k → There (write_range (record { start = s; end = e })) k
unfolding write_range write_bound write_key
written s e k h =
    rw h (behind (head_byte (kind_of_bound (included k)) (kind_of_bound e)) (write_number 2 (length k)) k (write_bound e) (number_length 2 (length k)))

pub point_is_there : PointIsThere
unfolding as_point_outcome range_given
point_is_there l k bytes e =
    let r = read (whole read_range l) k e in
    let b = (range_layout.only l r.range [] bytes (whole_is l r.range r.is)).bytes ∙ append-nil (write_range r.range) in
    let t = written r.range.start r.range.end k (start_is r.range.start r.range.end k r.point) in
    (rw b t.room, rw b t.key)
