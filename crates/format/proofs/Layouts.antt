-- Numbers of any width, and keys, are layouts: reading and writing invert each other.
-- Assumes nothing.
use Prim.Native.Nat.{ℕ, zero, suc, ◌+◌, ◌*◌, ◌/◌, ◌%◌, ◌^◌, ◌≤◌, ◌<◌}
use native.Mathlib.Nat.{pow-succ'}
use native.Mathlib.Omega.{arith}
use mathlib.Core.Path.{◌≡◌, refl, sym, ap, ◌∙◌}
use mathlib.Core.Bool.{Bool, true, false}
use mathlib.Core.List.{List, [], ◌∷◌, ◌++◌, append_assoc}
use lib.ListN.{length, get_or, take, drop, length-append, take-append-drop}
use lib.Seq.{take-suc, take_all, length-take-le, take_at, drop_at}
use lib.Dec.{leb}
use borrow.Author.Tests.{le-leb, leb-true}
use Rattle.base.specs.Pick.{pick}
use Rattle.base.specs.Bytes.{Bytes, bytes_take}
use Rattle.format.specs.Got.{Got, got, stop, and_then}
use Rattle.key.specs.Word.{digits}
use Rattle.format.specs.Number.{read_number, write_number}
use Rattle.format.specs.Key.{read_bytes, read_key, write_key}
use Rattle.format.specs.Laws.{Written, NumberLayout, KeyLayout, KeyWithin}

-- what two readers in a row found each
pub record Came {A B : Type 0} (g : Got A) (f : A → List ℕ → Got B) (b : B) (q : List ℕ) : Type 0 where
  pub value : A
  pub rest : List ℕ
  pub first : g ≡ got value rest
  pub second : f value rest ≡ got b q

pub came : {A B : Type 0} (g : Got A) (f : A → List ℕ → Got B) (b : B) (q : List ℕ) → and_then g f ≡ got b q → Came g f b q
came (got a r) f b q e = record { value = a; rest = r; first = refl; second = e }
came (stop n) f b q e = absurd (let z : ◌≡◌ {A = ℕ} 0 1 = cc in omega arith)

-- a test that found something passed
pub passed : {A : Type 0} (t : Bool) (g : Got A) (n : ℕ) (a : A) (r : List ℕ) → pick t g (stop n) ≡ got a r → (t ≡ true) × (g ≡ got a r)
passed true g n a r e = (refl, e)
passed false g n a r e = absurd (let z : ◌≡◌ {A = ℕ} 0 1 = cc in omega arith)

-- ---- n bytes
pub bytes_back : (n : ℕ) (k r : List ℕ) → length k ≡ n → read_bytes n (k ++ r) ≡ got k r
unfolding read_bytes
bytes_back n k r e =
    rw (le-leb n (length (k ++ r)) (rw length-append (omega arith)), take_at k r n e, drop_at k r n e)

pub record Split (n : ℕ) (l k r : List ℕ) : Type 0 where
  pub bytes : l ≡ k ++ r
  pub long : length k ≡ n

pub bytes_only : (n : ℕ) (l k r : List ℕ) → read_bytes n l ≡ got k r → Split n l k r
unfolding read_bytes
bytes_only n l k r e =
    let h = passed (leb n (length l)) (got (take n l) (drop n l)) 1 k r e in
    let a : k ≡ take n l = cc in
    let b : r ≡ drop n l = cc in
    record {
      bytes = rw (a, b) (sym (take-append-drop n l));
      long = rw a (length-take-le n l (leb-true n (length l) h.0));
    }

-- ---- numbers of n bytes
digits_last : (v : ℕ) (l : List ℕ) (b : ℕ) → digits v (l ++ (b ∷ [])) ≡ digits v l * 256 + b
unfolding digits
digits_last v [] b = refl
digits_last v (x ∷ l) b = digits_last (v * 256 + x) l b

pub number_length : (n v : ℕ) → length (write_number n v) ≡ n
unfolding write_number
number_length zero v = refl
number_length (suc n) v = rw (length-append, number_length n (v / 256)) (omega arith)

digits_written : (n v : ℕ) → v < 256 ^ n → digits 0 (write_number n v) ≡ v
unfolding write_number digits
digits_written zero v h = omega arith
digits_written (suc n) v h =
    let k : v / 256 < 256 ^ n = omega (arith, rw pow-succ' at h) in
    digits_last 0 (write_number n (v / 256)) (v % 256) ∙ rw (digits_written n (v / 256) k) (omega arith)

-- a list of n bytes is the writing of its number, which fits
record Number (n : ℕ) (l : List ℕ) : Type 0 where
  written : write_number n (digits 0 l) ≡ l
  small : digits 0 l < 256 ^ n

written_digits : (n : ℕ) (l : List ℕ) → Bytes l → length l ≡ n → Number n l
unfolding write_number digits
written_digits zero [] b e = record { written = refl; small = omega arith }
written_digits zero (x ∷ l) b e = absurd (omega arith)
written_digits (suc n) l b e =
    let front = take n l in
    let last = get_or l n 0 in
    let s : l ≡ front ++ (last ∷ []) = sym (take_all (suc n) l (omega arith)) ∙ take-suc l n 0 (omega arith) in
    let ih = written_digits n front (bytes_take n l b) (length-take-le n l (omega arith)) in
    let d : digits 0 l ≡ digits 0 front * 256 + last = ap (digits 0) s ∙ digits_last 0 front last in
    let m : last < 256 = b.below n in
    let q : (digits 0 front * 256 + last) / 256 ≡ digits 0 front = omega arith in
    let r : (digits 0 front * 256 + last) % 256 ≡ last = omega arith in
    record {
      written = rw (d, q, r, ih.written) (sym s);
      small = rw (d, pow-succ') (omega (arith, ih.small));
    }

pub number_layout : NumberLayout
unfolding read_number
number_layout n = record { back = back; only = only }
  where
    back : (v : ℕ) (r : List ℕ) → v < 256 ^ n → read_number n (write_number n v ++ r) ≡ got v r
    back v r h =
        rw (
          le-leb n (length (write_number n v ++ r)) (rw (length-append, number_length n v) (omega arith)),
          take_at (write_number n v) r n (number_length n v),
          drop_at (write_number n v) r n (number_length n v),
          digits_written n v h,
        )

    only : (l : List ℕ) (v : ℕ) (r : List ℕ) → Bytes l → read_number n l ≡ got v r → Written (write_number n) (λ v. v < 256 ^ n) l v r
    only l v r b e =
        let h = passed (leb n (length l)) (got (digits 0 (take n l)) (drop n l)) 1 v r e in
        let a : v ≡ digits 0 (take n l) = cc in
        let c : r ≡ drop n l = cc in
        let w = written_digits n (take n l) (bytes_take n l b) (length-take-le n l (leb-true n (length l) h.0)) in
        record { bytes = rw (a, c, w.written) (sym (take-append-drop n l)); within = rw a w.small }

-- ---- keys
pub key_length : (k : List ℕ) → length (write_key k) ≡ 2 + length k
unfolding write_key
key_length k = rw (length-append, number_length 2 (length k))

pub key_layout : KeyLayout
unfolding read_key write_key
key_layout = record { back = back; only = only }
  where
    back : (k : List ℕ) (r : List ℕ) → length k ≤ 1024 → read_key (write_key k ++ r) ≡ got k r
    back k r h =
        rw (append_assoc, (number_layout 2).back (length k) (k ++ r) (omega arith), le-leb (length k) 1024 h) (bytes_back (length k) k r refl)

    only : (l k r : List ℕ) → Bytes l → read_key l ≡ got k r → Written write_key KeyWithin l k r
    only l k r b e =
        let c = came (read_number 2 l) _ k r e in
        let w = (number_layout 2).only l c.value c.rest b c.first in
        let p = passed (leb c.value 1024) (read_bytes c.value c.rest) 3 k r c.second in
        let s = bytes_only c.value c.rest k r p.1 in
        record {
          bytes = w.bytes ∙ rw (s.bytes, s.long, append_assoc);
          within = rw s.long (leb-true c.value 1024 p.0);
        }
