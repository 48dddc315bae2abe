-- What the loop of `big_endian` keeps: v is the number of the bytes read so far. And the exits of `number_at`.
-- Assumes nothing.
use Prim.Native.Nat.{ℕ, suc, ◌+◌, ◌*◌, ◌-◌, ◌^◌, ◌<◌, ◌≤◌}
use native.Mathlib.Nat.{pow-succ', pow-le-pow_right, add-sub_cancel_left}
use native.Mathlib.Numerals.{add-one}
use native.Mathlib.Omega.{arith}
use mathlib.Core.Path.{◌≡◌, refl, sym}
use mathlib.Core.List.{List}
use lib.ListN.{length, get_or, take, drop, length-drop, drop_of_length-le}
use lib.Seq.{drop-cons, drop-drop}
use lib.Dec.{lit<}
use mir.Val.{Fits}
use mir.Syntax.{w64}
use borrow.Author.Tests.{le-leb, lt-leb}
use Rattle.key.specs.Word.{digits, WordAt}
use Rattle.format.specs.Got.{got}
use Rattle.format.specs.Number.{read_number, number_of}
use Rattle.format.specs.declared.Number.TheVariants.{Value, Short}

pub record Reading (t : List ℕ) (i v : ℕ) : Type 0 where
  pub rest : digits v (drop i t) ≡ digits 0 t
  pub small : v < 256 ^ i

pub start : (t : List ℕ) → Reading t 0 0
start t = record { rest = refl; small = omega arith }

module _ {t : List ℕ} {i v : ℕ} (p : Reading t i v) where
  pub read_all : length t ≤ i → v ≡ digits 0 t
  unfolding digits
  read_all h = rw (← p.rest, drop_of_length-le t {i = i} h)

  fits : i < length t → length t ≤ 8 → (v + 1) * 256 ≤ 2 ^ 64
  fits h k =
      let n : suc i ≤ 8 = omega arith in
      let q : 256 ^ suc i ≤ 256 ^ 8 = pow-le-pow_right (lit< tt) n in
      let e : 256 ^ suc i ≡ 256 * 256 ^ i = rw pow-succ' in
      omega (arith, e, q, p.small)

  pub product_fits : i < length t → length t ≤ 8 → Fits w64 (v * 256)
  product_fits h k = omega (arith, fits h k)

  pub sum_fits : {b : ℕ} → i < length t → length t ≤ 8 → b < 256 → Fits w64 (v * 256 + b)
  sum_fits h k m = omega (arith, fits h k)

  pub one_more : {b : ℕ} → i < length t → b ≡ get_or t i 0 → b < 256 → Reading t (i + 1) (v * 256 + b)
  unfolding digits
  one_more {b} h e m =
      record {
        rest = rw (add-one, e) (rw (drop-cons t i 0 h) at p.rest);
        small = rw (add-one, pow-succ') (omega (arith, p.small));
      }

pub ruleset kept = (start, read_all, product_fits, sum_fits, one_more)

-- ---- number_at and number_there
module _ (s : List ℕ) (at n : ℕ) where
  pub number_past : length s < at → 0 < n → number_of n s at Short ≡ read_number n (drop at s)
  unfolding read_number
  number_past h k = rw (drop_of_length-le s {i = at} (omega arith), lt-leb n 0 k)

  pub number_cut : at ≤ length s → length s - at < n → number_of n s at Short ≡ read_number n (drop at s)
  unfolding read_number
  number_cut h l = rw (length-drop, lt-leb n (length s - at) l)

  module _ {v : ℕ} (e : v ≡ digits 0 (take (at + n - at) (drop at s))) where
    pub number_is : at + n ≤ length s → read_number n (drop at s) ≡ got v (drop (at + n) s)
    unfolding read_number
    number_is h =
        rw (le-leb n (length (drop at s)) (rw length-drop (omega arith)), drop-drop, e, add-sub_cancel_left)

    pub number_read : at ≤ length s → n ≤ length s - at → number_of n s at (Value v) ≡ read_number n (drop at s)
    number_read h l = sym (number_is (omega arith))

  pub number_word : {v : ℕ} → WordAt s at v → n ≡ 8 → at + n ≤ length s → read_number n (drop at s) ≡ got v (drop (at + n) s)
  unfolding read_number
  number_word w q h = rw (le-leb n (length (drop at s)) (rw length-drop (omega arith)), drop-drop, w.value, q)

pub ruleset number_exits = (number_past, number_cut, number_is, number_read, number_word)
