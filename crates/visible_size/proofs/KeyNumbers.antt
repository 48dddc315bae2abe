-- The number of a key, byte by byte: no number of i bytes is above that of i bytes 255, and eight of those are at most 1.
-- Assumes nothing.
use Rattle.std.proofs.Common.{◌≡◌, ℕ, zero, suc, ◌+◌, ◌-◌, ◌<◌, ◌≤◌, min, Bool, ◌&&◌, T, List, [], ◌∷◌, ◌++◌, ◌∙◌, inl, inr, eq-or-lt_of_le, length, get_or, take, drop, pos, refl, add-one, arith, lit≤, drop_of_length-le, drop-cons}
use Rattle.std.proofs.lemmas.List.{length_push}
use lib.Seq.{take-nil}
use lib.Ieee.{Float, nan, binary64, of_bits, of_int, add, mul, div, le}
use lib.Ieee.Fits.{and_l, and_r}
use Rattle.base.specs.Bytes.{Bytes, bytes_tail}
use Rattle.base.specs.Table.{all_below, below_all}
use Rattle.visible_size.specs.Steps.{zero64, one64, scale, with_bytes, key_fraction}
use Rattle.visible_size.specs.Numbers.{InUnit, KeyNumber}
use Rattle.visible_size.proofs.Scales.{scales, in_table}
use Rattle.visible_size.proofs.Floats.{plain, AtMost, at_most_same, product_grows, sum_grows, whole_grows, le_trans_plain, zero_least}

abbrev byte255 : Float
byte255 = of_int binary64 (pos 255)

-- the number of so many bytes 255
unfoldable pub greatest : ℕ → Float
greatest zero = zero64
greatest (suc i) = add binary64 (greatest i) (mul binary64 byte255 (scale i))

-- what is computed of each place
abbrev placed : ℕ → Bool
placed i = plain (scale i) && (plain (mul binary64 byte255 (scale i)) && (plain (greatest (suc i)) && le (greatest (suc i)) one64))

all_placed : T (all_below placed 8)
unfolding greatest scale add mul div of_int of_bits le
all_placed = tt

record Placed (i : ℕ) : Type 0 where
  pub scale_plain : T (plain (scale i))
  pub part_plain : T (plain (mul binary64 byte255 (scale i)))
  pub sum_plain : T (plain (greatest (suc i)))
  pub most : T (le (greatest (suc i)) one64)

place : (i : ℕ) → i < 8 → Placed i
place i h =
    let a = plain (scale i) in
    let b = plain (mul binary64 byte255 (scale i)) in
    let c = plain (greatest (suc i)) in
    let d = le (greatest (suc i)) one64 in
    let t : T (a && (b && (c && d))) = below_all placed 8 all_placed i h in
    let u = and_r a (b && (c && d)) t in
    let v = and_r b (c && d) u in
    record { scale_plain = and_l a _ t; part_plain = and_l b _ u; sum_plain = and_l c d v; most = and_r c d v }

byte_grows : (b : ℕ) → b < 256 → AtMost (of_int binary64 (pos b)) byte255
byte_grows b h = whole_grows b 255 (omega arith) (unfold of_int in tt)

-- one byte more
pub step : (i b : ℕ) (x : Float) → i < 8 → b < 256 → AtMost x (greatest i) → AtMost (add binary64 x (mul binary64 (of_int binary64 (pos b)) (scale i))) (greatest (suc i))
unfolding greatest
step i b x h k p =
    let q = place i h in
    sum_grows p (product_grows (byte_grows b k) (at_most_same (scale i) q.scale_plain) q.part_plain) q.sum_plain

pub none_yet : AtMost zero64 (greatest 0)
unfolding greatest of_bits
none_yet = at_most_same zero64 tt

zero_within : InUnit zero64
unfolding of_bits le
zero_within = record { least = tt; most = tt }

one_plain : T (plain one64)
unfolding of_bits
one_plain = tt

pub bounded : (i : ℕ) (x : Float) → i ≤ 8 → AtMost x (greatest i) → InUnit x
bounded zero x h p = record { least = zero_least x p.plain_less; most = le_trans_plain x zero64 one64 p.plain_less (unfold of_bits in tt) one_plain (unfold greatest in p.order) zero_within.most }
bounded (suc i) x h p =
    let q = place i h in
    record {
      least = zero_least x p.plain_less;
      most = le_trans_plain x (greatest (suc i)) one64 p.plain_less p.plain_more one_plain p.order q.most;
    }

-- n bytes more, from place i
pub with_bytes_within : (n i : ℕ) (x : Float) (l : List ℕ) → i + n ≤ 8 → Bytes l → AtMost x (greatest i) → InUnit (with_bytes x i (take n l))
unfolding with_bytes
with_bytes_within zero i x l h b p = bounded i x (omega arith) p
with_bytes_within (suc n) i x [] h b p = bounded i x (omega arith) p
with_bytes_within (suc n) i x (y ∷ l) h b p =
    with_bytes_within n (suc i) (add binary64 x (mul binary64 (of_int binary64 (pos y)) (scale i))) l (omega arith) (bytes_tail b) (step i y x (omega arith) (b.below 0) p)

-- ---- the loop of `key_fraction`
pub record Counting (part : List ℕ) (i : ℕ) (x : Float) : Type 0 where
  pub upto : i ≤ 8
  pub within : AtMost x (greatest i)
  pub rest : with_bytes x i (take (8 - i) (drop i part)) ≡ key_fraction part

pub begin : (part : List ℕ) → Counting part 0 zero64
unfolding key_fraction
begin part = record { upto = lit≤ tt; within = none_yet; rest = refl }

module _ {part : List ℕ} {i : ℕ} {x : Float} (p : Counting part i x) where
  pub one_more : {r : Float} → i < 8 → i < length part → get_or part i 0 < 256 → r ≡ scale i → Counting part (i + 1) (add binary64 x (mul binary64 (of_int binary64 (pos (get_or part i 0))) r))
  unfolding with_bytes
  one_more {r} h l b e =
      let m : 8 - i ≡ suc (8 - suc i) = omega arith in
      rw (e, add-one) (record {
        upto = h;
        within = step i (get_or part i 0) x h b p.within;
        rest = rw (drop-cons part i 0 l, m) at p.rest;
      })

  pub eight_read : 8 ≤ i → KeyNumber part x
  unfolding with_bytes
  eight_read h =
      let m : 8 - i ≡ 0 = omega arith in
      record { meaning = rw m at p.rest; within = bounded i x p.upto p.within }

  pub all_read : length part ≤ i → KeyNumber part x
  unfolding with_bytes
  all_read h =
      record { meaning = rw (drop_of_length-le part h, take-nil) at p.rest; within = bounded i x p.upto p.within }

  -- the byte at i and its scale, as the code has the two
  pub pair_more :
      {X : Type 0} (ys : List X) (z : X) {b : ℕ} {f r : Float}
      → i ≡ length ys
      → i < length part
      → i < 8
      → get_or part i 0 < 256
      → b ≡ get_or part i 0
      → f ≡ of_int binary64 (pos b)
      → r ≡ get_or scales i nan
      → Counting part (length (ys ++ (z ∷ []))) (add binary64 x (mul binary64 f r))
  pair_more {X} ys z {b} {f} {r} n l h w e g k =
      rw (length_push ys z, ← n, g, e) (one_more h l w (k ∙ in_table i h))

  pub pairs_read : i ≡ min (length part) 8 → KeyNumber part x
  pairs_read h = elim (eq-or-lt_of_le p.upto) [ inl e ↦ eight_read (omega arith) | inr l ↦ all_read (omega arith) ]
