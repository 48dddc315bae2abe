-- What the loops that write keep, and how the pieces of a key come together.
-- Assumes nothing.
use Prim.Native.Nat.{ℕ, zero, suc, ◌+◌, ◌-◌, ◌<◌, ◌≤◌, ◌/◌, ◌%◌}
use native.Mathlib.Omega.{arith}
use native.Mathlib.Numerals.{add-one}
use native.Mathlib.Nat.{le_antisymm, add-zero}
use mathlib.Core.Path.{◌≡◌, sym, ◌∙◌, ap}
use mathlib.Core.List.{List, [], ◌∷◌, ◌++◌, append_assoc, append-nil}
use lib.ListN.{length, get_or, set, length-append}
use lib.Seq.{paste, paste-zero, paste-suc, length-paste, take-length}
use Rattle.base.specs.Splice.{splice, splice_none, set_splice, length_splice, splice_splice}
use Rattle.format.specs.Number.{write_number}
use Rattle.format.specs.Key.{write_key}
use Rattle.format.proofs.Layouts.{number_length, key_length}

-- ---- put: the first i bytes of src stand in their place
pub record Pasted (d : List ℕ) (at : ℕ) (src out : List ℕ) (i : ℕ) : Type 0 where
  pub room : at + length src ≤ length d
  pub upto : i ≤ length src
  pub is : out ≡ paste d at src i

pub pasted_none : (d : List ℕ) (at : ℕ) (src : List ℕ) → at + length src ≤ length d → Pasted d at src d 0
pasted_none d at src h = record { room = h; upto = omega arith; is = paste-zero d at src }

module _ {d : List ℕ} {at : ℕ} {src out : List ℕ} {i : ℕ} (p : Pasted d at src out i) where
  pub length_kept : length out ≡ length d
  length_kept = ap length p.is ∙ length-paste d at src i (omega (arith, p.room, p.upto)) p.upto

  pub in_out : i < length src → at + i < length out
  in_out h = rw length_kept (omega (arith, p.room))

  pub pasted_more : i < length src → Pasted d at src (set out (at + i) (get_or src i 0)) (i + 1)
  pasted_more h =
      record {
        room = p.room;
        upto = omega arith;
        is = rw (p.is, add-one) (paste-suc d at src i 0 (omega (arith, p.room)) h);
      }

  pub pasted_all : length src ≤ i → out ≡ splice d at src
  pasted_all h = p.is ∙ rw (le_antisymm p.upto h, take-length)

pub ruleset pastes = (pasted_none, length_kept, in_out, pasted_more, pasted_all)

-- ---- put_number: the last bytes stand in their place, and i bytes of rest are left
pub record Counted (d : List ℕ) (at v n : ℕ) (out : List ℕ) (rest i : ℕ) : Type 0 where
  pub room : at + n ≤ length d
  pub tail : List ℕ
  pub long : i + length tail ≡ n
  pub is : out ≡ splice d (at + i) tail
  pub all : write_number n v ≡ write_number i rest ++ tail

pub counted_none : (d : List ℕ) (at v n : ℕ) → at + n ≤ length d → Counted d at v n d v n
counted_none d at v n h =
    record { room = h; tail = []; long = add-zero n; is = sym (splice_none d (at + n)); all = sym (append-nil (write_number n v)) }

split_last : (i rest : ℕ) → 0 < i → write_number i rest ≡ write_number (i - 1) (rest / 256) ++ (rest % 256 ∷ [])
unfolding write_number
split_last zero rest h = absurd (omega arith)
split_last (suc i) rest h = let z : suc i - 1 ≡ i = omega arith in rw z

module _ {d : List ℕ} {at v n : ℕ} {out : List ℕ} {rest i : ℕ} (p : Counted d at v n out rest i) where
  pub counted_length : length out ≡ length d
  counted_length = ap length p.is ∙ length_splice d (at + i) p.tail (omega (arith, p.room, p.long))

  pub last_in_lem : 0 < i → at + (i - 1) < length out
  last_in_lem h = rw counted_length (omega (arith, p.room, p.long))

  pub counted_more : 0 < i → Counted d at v n (set out (at + (i - 1)) (rest % 256)) (rest / 256) (i - 1)
  counted_more h =
      let z : at + i ≡ at + (i - 1) + 1 = omega arith in
      record {
        room = p.room;
        tail = rest % 256 ∷ p.tail;
        long = omega (arith, p.long);
        is = rw (p.is, z) (set_splice d (at + (i - 1)) p.tail (rest % 256) (omega (arith, p.room, p.long)));
        all = p.all ∙ rw (split_last i rest h) (append_assoc (write_number (i - 1) (rest / 256)) (rest % 256 ∷ []) p.tail);
      }

  pub counted_all : i ≤ 0 → out ≡ splice d at (write_number n v)
  unfolding write_number
  counted_all h =
      let z : i ≡ 0 = omega arith in
      p.is ∙ rw (p.all, z, add-zero)

pub ruleset counts = (counted_none, counted_length, last_in_lem, counted_more, counted_all)

-- ---- put_key: the length, then the two pieces
module _ (d : List ℕ) (at : ℕ) (p q : List ℕ) (room : at + length (write_key (p ++ q)) ≤ length d) where
  size : length (write_key (p ++ q)) ≡ 2 + (length p + length q)
  size = key_length (p ++ q) ∙ rw length-append

  pub number_room : at + 2 ≤ length d
  number_room = omega (arith, size, room)

  pub key_end : at + 2 + length p + length q ≡ at + length (write_key (p ++ q))
  key_end = omega (arith, size)

  module _ {d₁ : List ℕ} (e₁ : d₁ ≡ splice d at (write_number 2 (length p + length q))) where
    length₁ : length d₁ ≡ length d
    length₁ = ap length e₁ ∙ length_splice d at (write_number 2 (length p + length q)) (omega (arith, number_length 2 (length p + length q), size, room))

    pub first_room : at + 2 + length p ≤ length d₁
    first_room = omega (arith, length₁, size, room)

    module _ {d₂ : List ℕ} (e₂ : d₂ ≡ splice d₁ (at + 2) p) where
      length₂ : length d₂ ≡ length d
      length₂ = ap length e₂ ∙ length_splice d₁ (at + 2) p first_room ∙ length₁

      pub second_room : at + 2 + length p + length q ≤ length d₂
      second_room = omega (arith, length₂, size, room)

      pub key_put : {d₃ : List ℕ} → d₃ ≡ splice d₂ (at + 2 + length p) q → d₃ ≡ splice d at (write_key (p ++ q))
      unfolding write_key
      key_put e₃ =
          let n = write_number 2 (length p + length q) in
          let l = number_length 2 (length p + length q) in
          let a : d₂ ≡ splice d at (n ++ p) = e₂ ∙ rw e₁ (splice_splice d at n p (at + 2) (omega (arith, l)) (omega (arith, l, size, room))) in
          let b : length (n ++ p) ≡ 2 + length p = rw (length-append, l) in
          e₃
          ∙ rw a (splice_splice d at (n ++ p) q (at + 2 + length p) (omega (arith, b)) (omega (arith, b, size, room)) ∙ ap (splice d at) (append_assoc n p q))
          ∙ ap (λ k. splice d at (write_number 2 k ++ (p ++ q))) (sym (length-append p q))

pub ruleset key_puts = (number_room, key_end, first_room, second_room, key_put)
