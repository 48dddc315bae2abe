-- What the loop of `cmp` keeps, eight bytes a turn: both keys are equal up to i.
-- Assumes nothing.
use Prim.Native.Nat.{ℕ, zero, suc, ◌+◌, ◌-◌, ◌<◌, ◌≤◌, min}
use native.Mathlib.Nat.{add-zero}
use native.Mathlib.Numerals.{add-one}
use native.Mathlib.Omega.{arith}
use mathlib.Core.Path.{◌≡◌, refl, sym, ap, ◌∙◌}
use mathlib.Core.Logic.{◌≢◌}
use mathlib.Core.Bool.{Bool, true, false}
use mathlib.Core.List.{List, [], ◌∷◌}
use lib.ListN.{length, get_or, take, drop, length-take, length-drop}
use lib.Seq.{take-take, take-add, take-suc}
use Rattle.base.specs.Bytes.{bytes_drop, bytes_take}
use Rattle.key.specs.Order.{cmp_key, cmp_number, or_else}
use Rattle.key.specs.Word.{WordAt, ReversedAt, Agree, Further}
use Rattle.std.specs.declared.cmp.Ordering.{Ordering}
use Rattle.key.proofs.Linear.{number_less, number_greater, key_self, key_order_is_total}
use Rattle.key.proofs.Digits.{Compared, compared, below, same, above, or_else_assoc, number_self, digits_order, reversed_equal}
use Rattle.key.proofs.Passed.{Passed, lengths}

-- equally long fronts decide, or what is left
pub by_fronts :
    (n : ℕ) (k l : List ℕ)
    → n ≤ length k
    → n ≤ length l
    → cmp_key k l ≡ or_else (cmp_key (take n k) (take n l)) (cmp_key (drop n k) (drop n l))
unfolding cmp_key
by_fronts zero k l h m = refl
by_fronts (suc n) [] l h m = absurd (omega arith)
by_fronts (suc n) (x ∷ k) [] h m = absurd (omega arith)
by_fronts (suc n) (x ∷ k) (y ∷ l) h m =
    rw (by_fronts n k l (omega arith) (omega arith), or_else_assoc)

pub none : (a b : List ℕ) → Agree a b 0
none a b = record { below_a = omega arith; below_b = omega arith; front = refl }

module _ {a b : List ℕ} {i : ℕ} (p : Agree a b i) where
  pub back : {j : ℕ} → j ≤ i → Agree a b j
  back {j} h =
      record {
        below_a = omega arith;
        below_b = omega arith;
        front = sym (take-take j i a h) ∙ (ap (take j) p.front ∙ take-take j i b h);
      }

  passed : Passed a b i
  passed =
      record {
        below_a = p.below_a;
        below_b = p.below_b;
        rest = by_fronts i a b p.below_a p.below_b ∙ rw (p.front, key_self);
      }

  onward : i + 8 ≤ length a → i + 8 ≤ length b → take 8 (drop i a) ≡ take 8 (drop i b) → Agree a b (i + 8)
  onward h k f = record { below_a = h; below_b = k; front = rw (take-add, p.front, f, ← take-add) }

  module _ {n x y : ℕ} (m : n ≡ min (length a) (length b)) (h : i + 8 ≤ n) (w : WordAt a i x) (z : WordAt b i y) where
    -- the order of the words is that of their bytes
    words : cmp_number x y ≡ cmp_key (take 8 (drop i a)) (take 8 (drop i b))
    words =
        let e : length (take 8 (drop i a)) ≡ length (take 8 (drop i b)) = simp (length-take, length-drop) (omega arith) in
        rw (w.value, z.value, digits_order 0 0 (take 8 (drop i a)) (take 8 (drop i b)) (bytes_take 8 _ (bytes_drop i a w.bytes)) (bytes_take 8 _ (bytes_drop i b z.bytes)) e, number_self 0)

    -- the words decide, or what is after them
    by_words : cmp_key a b ≡ or_else (cmp_number x y) (cmp_key (drop 8 (drop i a)) (drop 8 (drop i b)))
    by_words =
        let ha : 8 ≤ length (drop i a) = simp length-drop (omega arith) in
        let hb : 8 ≤ length (drop i b) = simp length-drop (omega arith) in
        passed.rest ∙ rw words (by_fronts 8 (drop i a) (drop i b) ha hb)

    -- unequal words decide
    differ : {r : Ordering} → x ≢ y → r ≡ cmp_number x y → r ≡ cmp_key a b
    differ {r} d e = rw by_words (go (compared x y))
      where
        go : Compared x y → r ≡ or_else (cmp_number x y) (cmp_key (drop 8 (drop i a)) (drop 8 (drop i b)))
        go (below o) = rw (e, number_less x y o)
        go (same o) = absurd (d o)
        go (above o) = rw (e, number_greater x y o)

    -- equal words are equal bytes
    same_bytes : x ≡ y → take 8 (drop i a) ≡ take 8 (drop i b)
    same_bytes e = key_order_is_total.equal _ _ (sym words ∙ rw e (number_self y))

-- equal numbers the other way round are equal bytes
pub eight_more :
    {a b : List ℕ} {i x y : ℕ}
    → Agree a b i
    → i + 8 ≤ length a
    → i + 8 ≤ length b
    → ReversedAt a i x
    → ReversedAt b i y
    → x ≡ y
    → Agree a b (i + 8)
eight_more {a} {b} {i} p h k w z e =
    let l : length (take 8 (drop i a)) ≡ length (take 8 (drop i b)) = simp (length-take, length-drop) (omega arith) in
    let f = reversed_equal _ _ (bytes_take 8 _ (bytes_drop i a w.bytes)) (bytes_take 8 _ (bytes_drop i b z.bytes)) l (sym w.value ∙ e ∙ z.value) in
    onward p h k f

-- ---- 32 bytes, one after the other
pub one_more : {a b : List ℕ} {n : ℕ} → Agree a b n → n < length a → n < length b → get_or a n 0 ≡ get_or b n 0 → Agree a b (n + 1)
one_more {a} {b} {n} p h k e =
    record { below_a = omega arith; below_b = omega arith; front = rw (add-one, take-suc a n 0, take-suc b n 0, p.front, e) }

module _ {a b : List ℕ} (i j : ℕ) {r : Bool} (p : Further r a b (i + j)) (h : i + 32 ≤ length a) (k : i + 32 ≤ length b) (l : j < 32) where
  pub byte_same : get_or a (i + j) 0 ≡ get_or b (i + j) 0 → Further r a b (i + (j + 1))
  byte_same e =
      let n : i + j + 1 ≡ i + (j + 1) = omega arith in
      record { agree = λ t. rw n at (one_more (p.agree t) (omega arith) (omega arith) e) }

pub byte_differs : {a b : List ℕ} {n : ℕ} → Further false a b n
byte_differs = record { agree = λ t. absurd (let z : ◌≡◌ {A = ℕ} 0 1 = cc in omega arith) }

pub first_byte : {a b : List ℕ} {i : ℕ} → Agree a b i → Further true a b (i + 0)
first_byte {i = i} p = record { agree = λ t. rw add-zero p }

pub further : {r : Bool} {a b : List ℕ} {i : ℕ} → Further r a b i → r ≡ true → Agree a b i
further p e = p.agree e

pub ruleset block = (byte_same, byte_differs, first_byte)

-- the first eight bytes
pub first_differ : {a b : List ℕ} {n x y : ℕ} {r : Ordering} → n ≡ min (length a) (length b) → 8 ≤ n → WordAt a 0 x → WordAt b 0 y → x ≢ y → r ≡ cmp_number x y → r ≡ cmp_key a b
first_differ {a} {b} m k w z d e = differ (none a b) m (omega arith) w z d e

-- a turn of the loop
module _ {a b : List ℕ} {i n x y : ℕ}
    (p : Agree a b i)
    (m : n ≡ min (length a) (length b))
    (h : i < n - 8)
    (w : WordAt a i x)
    (z : WordAt b i y)
  where
    pub turn_differ : {r : Ordering} → x ≢ y → r ≡ cmp_number x y → r ≡ cmp_key a b
    turn_differ d e = differ p m (omega arith) w z d e

    pub turn_same : x ≡ y → Agree a b (i + 8)
    turn_same e = onward p (omega arith) (omega arith) (same_bytes p m (omega arith) w z e)

-- the last eight bytes of the shorter key, of which the first few may be passed
module _ {a b : List ℕ} {n x y : ℕ} {r : Ordering}
    (p : Agree a b (n - 8))
    (m : n ≡ min (length a) (length b))
    (k : 8 ≤ n)
    (w : WordAt a (n - 8) x)
    (z : WordAt b (n - 8) y)
  where
    pub last_differ : x ≢ y → r ≡ cmp_number x y → r ≡ cmp_key a b
    last_differ d e = differ p m (omega arith) w z d e

    pub last_same : x ≡ y → r ≡ cmp_number (length a) (length b) → r ≡ cmp_key a b
    last_same d e =
        let q : n - 8 + 8 ≡ n = omega arith in
        lengths (passed (rw q at (onward p (omega arith) (omega arith) (same_bytes p m (omega arith) w z d)))) (omega arith) e

pub ruleset long = (none, further)

pub ruleset kept = (first_differ, turn_differ, turn_same, last_differ, last_same)
