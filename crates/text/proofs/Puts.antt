-- What the loops of `decimal_len`, `put_decimal` and `put_hex` keep.
-- Assumes nothing.
use Prim.Native.Nat.{ℕ, ◌+◌, ◌*◌, ◌-◌, ◌/◌, ◌%◌, ◌^◌, ◌<◌, ◌≤◌}
use native.Mathlib.Omega.{arith}
use native.Mathlib.Numerals.{add-one}
use mathlib.Core.Path.{◌≡◌, refl, sym, ap, ◌∙◌}
use mathlib.Core.List.{List, [], ◌∷◌, ◌++◌, append_assoc, append-nil}
use lib.ListN.{length, get_or, take, set, length-append}
use lib.Seq.{take-suc, take_all, length-take-le}
use Rattle.std.proofs.lemmas.List.{nil_from_length}
use mir.Val.{Fits}
use mir.Syntax.{w64}
use Rattle.base.specs.Splice.{splice, splice_none, set_splice, set_is_splice, length_splice, splice_splice}
use Rattle.text.specs.Text.{glyph, decimal, hex}
use Rattle.text.proofs.Glyph.{by_ten}
use Rattle.text.proofs.Decimal.{decimal_one, decimal_more, decimal_is_short}
use Rattle.text.proofs.Hex.{hex_length, hex_append}

-- ---- the number of digits
some : (n : ℕ) → n < 2 ^ 64 → 1 ≤ length (decimal n)
some n h = (decimal_is_short n 20 (omega arith) (omega arith)).0

in_twenty : (n : ℕ) → n < 2 ^ 64 → length (decimal n) ≤ 20
in_twenty n h = (decimal_is_short n 20 (omega arith) (omega arith)).1

one_less : (n : ℕ) → 10 ≤ n → n < 2 ^ 64 → length (decimal n) ≡ length (decimal (n / 10)) + 1
one_less n h s = rw (decimal_more n h s, length-append)

-- ---- decimal_len: len counts the digits of n past those of rest, and one of these
pub record Measured (n rest len : ℕ) : Type 0 where
  pub whole : n < 2 ^ 64
  pub small : rest < 2 ^ 64
  pub is : length (decimal n) + 1 ≡ len + length (decimal rest)

pub measured_none : (n : ℕ) → n < 2 ^ 64 → Measured n n 1
measured_none n h = record { whole = h; small = h; is = omega arith }

module _ {n rest len : ℕ} (p : Measured n rest len) where
  pub len_fits : Fits w64 (len + 1)
  len_fits = omega (arith, p.is, some rest p.small, in_twenty n p.whole)

  pub measured_more : 10 ≤ rest → Measured n (rest / 10) (len + 1)
  measured_more h =
      record { whole = p.whole; small = omega (arith, p.small); is = omega (arith, p.is, one_less rest h p.small) }

  pub measured_all : rest < 10 → len ≡ length (decimal n)
  measured_all h = omega (arith, p.is, ap length (decimal_one rest h))

pub ruleset measures = (measured_none, len_fits, measured_more, measured_all)

-- ---- put_decimal: from i on stand the last digits, the tail. The front is left to put: the digits of rest, until none are left
pub record Counted (d : List ℕ) (at n : ℕ) (out : List ℕ) (rest i : ℕ) : Type 0 where
  pub room : at + length (decimal n) ≤ length d
  pub small : rest < 2 ^ 64
  pub front : List ℕ
  pub tail : List ℕ
  pub place : i ≡ at + length front
  pub is : out ≡ splice d i tail
  pub all : decimal n ≡ front ++ tail
  pub left : at < i → front ≡ decimal rest

pub end_fits : (d : List ℕ) (at n : ℕ) {m : ℕ} → at + length (decimal n) ≤ length d → m ≡ length (decimal n) → length d < 2 ^ 64 → Fits w64 (at + m)
end_fits d at n h e k = omega arith

pub counted_none : (d : List ℕ) (at n : ℕ) {m : ℕ} → at + length (decimal n) ≤ length d → n < 2 ^ 64 → m ≡ length (decimal n) → Counted d at n d n (at + m)
counted_none d at n {m} h s e =
    record {
      room = h;
      small = s;
      front = decimal n;
      tail = [];
      place = ap (λ k. at + k) e;
      is = sym (splice_none d (at + m));
      all = sym (append-nil (decimal n));
      left = λ _. refl;
    }

module _ {d : List ℕ} {at n : ℕ} {out : List ℕ} {rest i : ℕ} (p : Counted d at n out rest i) where
  fills : i + length p.tail ≤ length d
  fills = omega (arith, p.room, p.place, ap length p.all ∙ length-append p.front p.tail)

  pub counted_length : length out ≡ length d
  counted_length = ap length p.is ∙ length_splice d i p.tail fills

  pub place_in : at < i → i - 1 < length out
  place_in h = rw counted_length (omega (arith, fills))

  -- the digit before the tail, where the digits before it are given
  longer :
      at < i
      → (l : List ℕ)
      → p.front ≡ l ++ (glyph (rest % 10) ∷ [])
      → (at < i - 1 → l ≡ decimal (rest / 10))
      → Counted d at n (set out (i - 1) (glyph (rest % 10))) (rest / 10) (i - 1)
  longer h l e f =
      let z : i ≡ i - 1 + 1 = omega arith in
      record {
        room = p.room;
        small = omega (arith, p.small);
        front = l;
        tail = glyph (rest % 10) ∷ p.tail;
        place = omega (arith, p.place, ap length e ∙ length-append l (glyph (rest % 10) ∷ []));
        is = rw p.is (ap (λ k. set (splice d k p.tail) (i - 1) (glyph (rest % 10))) z ∙ set_splice d (i - 1) p.tail (glyph (rest % 10)) (omega (arith, fills)));
        all = p.all ∙ rw e (append_assoc l (glyph (rest % 10) ∷ []) p.tail);
        left = f;
      }

  pub counted_more : {x : ℕ} → at < i → x ≡ glyph (rest % 10) → Counted d at n (set out (i - 1) x) (rest / 10) (i - 1)
  counted_more {x} h e =
      rw e (by_ten
      rest
      (λ s. let o : p.front ≡ glyph (rest % 10) ∷ [] = p.left h ∙ decimal_one rest s ∙ ap (λ k. glyph k ∷ []) (omega arith) in
      longer h [] o (λ g. absurd (omega (arith, p.place, ap length o))))
      (λ m. longer h (decimal (rest / 10)) (p.left h ∙ decimal_more rest m p.small) (λ g. refl)))

  pub counted_all : i ≤ at → out ≡ splice d at (decimal n)
  counted_all h =
      let z : length p.front ≡ 0 = omega (arith, p.place) in
      let e : i ≡ at = omega (arith, p.place) in
      let o : p.front ≡ [] = nil_from_length _ z in
      rw (p.is, p.all, o, e) refl

pub ruleset counts = (end_fits, counted_none, counted_length, place_in, counted_more, counted_all)

-- ---- put_hex: the text of the first i bytes of src stands in its place, and ends at to
pub record Spelled (d : List ℕ) (at : ℕ) (src out : List ℕ) (i to : ℕ) : Type 0 where
  pub room : at + length (hex src) ≤ length d
  pub upto : i ≤ length src
  pub place : to ≡ at + 2 * i
  pub is : out ≡ splice d at (hex (take i src))

pub spelled_none : (d : List ℕ) (at : ℕ) (src : List ℕ) → at + length (hex src) ≤ length d → Spelled d at src d 0 at
unfolding hex
spelled_none d at src h = record { room = h; upto = omega arith; place = omega arith; is = sym (splice_none d at) }

-- two bytes stored one after the other
pair : (f : List ℕ) (to x y : ℕ) → to + 1 < length f → set (set f to x) (to + 1) y ≡ splice f to (x ∷ (y ∷ []))
pair f to x y h =
    let e = set_is_splice f to x (omega arith) in
    let l = length_splice f to (x ∷ []) (omega arith) in
    rw (e, set_is_splice (splice f to (x ∷ [])) (to + 1) y (omega (arith, l))) (splice_splice f to (x ∷ []) (y ∷ []) (to + 1) refl (omega arith))

module _ {d : List ℕ} {at : ℕ} {src out : List ℕ} {i to : ℕ} (p : Spelled d at src out i to) where
  long : length (hex (take i src)) ≡ 2 * i
  long = hex_length (take i src) ∙ rw (length-take-le i src p.upto)

  fills_to : to + 2 * (length src - i) ≤ length d
  fills_to = omega (arith, p.room, p.place, p.upto, hex_length src)

  pub spelled_length : length out ≡ length d
  spelled_length = ap length p.is ∙ length_splice d at (hex (take i src)) (omega (arith, long, fills_to, p.place))

  pub high_in : i < length src → to < length out
  high_in h = rw spelled_length (omega (arith, fills_to))

  pub low_in : i < length src → to + 1 < length out
  low_in h = rw spelled_length (omega (arith, fills_to))

  pub to_fits : i < length src → length d < 2 ^ 64 → Fits w64 (to + 2)
  to_fits h k = omega (arith, fills_to)

  pub low_fits : i < length src → length d < 2 ^ 64 → Fits w64 (to + 1)
  low_fits h k = omega (arith, fills_to)

  pub spelled_more :
      {x y : ℕ}
      → i < length src
      → x ≡ glyph (get_or src i 0 / 16)
      → y ≡ glyph (get_or src i 0 % 16)
      → Spelled d at src (set (set out to x) (to + 1) y) (i + 1) (to + 2)
  unfolding hex
  spelled_more {x} {y} h e f =
      let b = get_or src i 0 in
      let t : hex (take (i + 1) src) ≡ hex (take i src) ++ (glyph (b / 16) ∷ (glyph (b % 16) ∷ []))
      = rw (add-one, take-suc src i 0 h) (hex_append (take i src) (b ∷ [])) in
      record {
        room = p.room;
        upto = omega arith;
        place = omega (arith, p.place);
        is =
            pair out to x y (low_in h)
            ∙ rw (p.is, e, f, t) (splice_splice d at (hex (take i src)) _ to (omega (arith, p.place, long)) (omega (arith, long, fills_to, p.place)));
      }

  pub spelled_all : length src ≤ i → out ≡ splice d at (hex src)
  spelled_all h = p.is ∙ rw (take_all i src h)

  pub spelled_end : length src ≤ i → to ≡ at + length (hex src)
  spelled_end h = omega (arith, p.place, p.upto, hex_length src)

pub ruleset spells = (spelled_none, spelled_length, high_in, low_in, to_fits, low_fits, spelled_more, spelled_all, spelled_end)
