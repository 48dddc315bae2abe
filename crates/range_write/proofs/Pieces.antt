-- Bytes that are put one after another.
-- Assumes nothing.
use Prim.Native.Nat.{ℕ, ◌+◌, ◌≤◌}
use native.Mathlib.Omega.{arith}
use mathlib.Core.Path.{◌≡◌, sym, ap, ◌∙◌}
use mathlib.Core.List.{List, [], ◌++◌}
use lib.ListN.{length, length-append}
use Rattle.base.specs.Splice.{splice, splice_none, length_splice, splice_splice}
use Rattle.range_write.specs.Put.{Put}

-- ---- one piece
pub put_length : {d : List ℕ} {to : ℕ} {x e : List ℕ} {past : ℕ} → Put d to x e past → to + length x ≤ length d → length e ≡ length d
put_length {d} {to} {x} p h = ap length p.is ∙ length_splice d to x h

pub put_here : (d : List ℕ) (to : ℕ) (x : List ℕ) {e : List ℕ} {past : ℕ} → e ≡ splice d to x → past ≡ to + length x → Put d to x e past
put_here d to x e p = record { is = e; past_is = p }

pub put_none : (d : List ℕ) (to : ℕ) → Put d to [] d to
put_none d to = record { is = sym (splice_none d to); past_is = omega arith }

-- other bytes that are the same
pub put_same : {d : List ℕ} {to : ℕ} {x y e : List ℕ} {past : ℕ} → Put d to x e past → x ≡ y → Put d to y e past
put_same {d} {to} {x} {y} {e} {past} p q = rw q at p

pub same_room : (d : List ℕ) (to : ℕ) {x y : List ℕ} → x ≡ y → to + length y ≤ length d → to + length x ≤ length d
same_room d to q h = rw q h

pub same_length : {d : List ℕ} {to : ℕ} {x y e : List ℕ} {past : ℕ} → Put d to x e past → x ≡ y → to + length y ≤ length d → length e ≡ length d
same_length {d} {to} p q h = put_length p (same_room d to q h)

-- ---- two
module _ (d : List ℕ) (to : ℕ) (x y : List ℕ) (room : to + length (x ++ y) ≤ length d) where
  size : length (x ++ y) ≡ length x + length y
  size = length-append x y

  pub first_room : to + length x ≤ length d
  first_room = omega (arith, size, room)

  module _ {e : List ℕ} {a : ℕ} (p : Put d to x e a) where
    pub second_room : a + length y ≤ length e
    second_room = rw (put_length p first_room) (omega (arith, size, room, p.past_is))

    pub both_put : {f : List ℕ} {b : ℕ} → Put e a y f b → Put d to (x ++ y) f b
    both_put {f} {b} q =
        record {
          is = q.is ∙ ap (λ l. splice l a y) p.is ∙ splice_splice d to x y a p.past_is first_room;
          past_is = omega (arith, size, p.past_is, q.past_is);
        }

    pub both_length : {f : List ℕ} {b : ℕ} → Put e a y f b → length f ≡ length d
    both_length q = put_length q second_room ∙ put_length p first_room

-- ---- three
module _ (d : List ℕ) (to : ℕ) (x y z : List ℕ) (room : to + length (x ++ (y ++ z)) ≤ length d) where
  pub one_room : to + length x ≤ length d
  one_room = first_room d to x (y ++ z) room

  module _ {e : List ℕ} {a : ℕ} (p : Put d to x e a) where
    rest_room : a + length (y ++ z) ≤ length e
    rest_room = second_room d to x (y ++ z) room p

    pub two_room : a + length y ≤ length e
    two_room = first_room e a y z rest_room

    module _ {f : List ℕ} {b : ℕ} (q : Put e a y f b) where
      pub three_room : b + length z ≤ length f
      three_room = second_room e a y z rest_room q

      pub all_put : {g : List ℕ} {c : ℕ} → Put f b z g c → Put d to (x ++ (y ++ z)) g c
      all_put r = both_put d to x (y ++ z) room p (both_put e a y z rest_room q r)

      pub all_length : {g : List ℕ} {c : ℕ} → Put f b z g c → length g ≡ length d
      all_length r = put_length (all_put r) room
