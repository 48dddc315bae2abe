-- The promises on decimal text, and its text digit by digit.
-- Assumes nothing.
use Prim.Native.Nat.{ℕ, zero, suc, ◌+◌, ◌*◌, ◌-◌, ◌/◌, ◌%◌, ◌^◌, ◌<◌, ◌≤◌}
use native.Mathlib.Nat.{pow-succ'}
use native.Mathlib.Omega.{arith}
use mathlib.Core.Path.{◌≡◌, refl, ap, ◌∙◌}
use mathlib.Core.List.{List, [], ◌∷◌, ◌++◌}
use lib.ListN.{length, get_or, length-append}
use lib.Dec.{ltb}
use borrow.Author.Tests.{lt-ltb, le-ltb}
use Rattle.base.specs.Pick.{pick}
use Rattle.text.specs.Text.{glyph, decimal_in, decimal}
use Rattle.text.specs.Laws.{from_decimal, DecimalReadsBack, DecimalHasNoZeroBefore, DecimalIsShort}
use Rattle.text.proofs.Glyph.{by_ten, low_digit}

in_one : (k n : ℕ) → n < 10 → decimal_in (suc k) n ≡ glyph n ∷ []
unfolding decimal_in
in_one k n h = rw (lt-ltb n 10 h)

in_more : (k n : ℕ) → 10 ≤ n → decimal_in (suc k) n ≡ decimal_in k (n / 10) ++ (glyph (n % 10) ∷ [])
unfolding decimal_in
in_more k n h = rw (le-ltb n 10 h)

fewer : (k n : ℕ) → n < 10 ^ suc k → n / 10 < 10 ^ k
fewer k n h = omega (arith, rw pow-succ' at h)

-- digits allowed beyond those needed change nothing
same : (k n : ℕ) → n < 10 ^ suc k → decimal_in (suc k) n ≡ decimal_in (suc (suc k)) n
unfolding decimal_in
same zero n h = rw (lt-ltb n 10 h)
same (suc k) n h =
    ap (λ l. pick (ltb n 10) (glyph n ∷ []) (l ++ (glyph (n % 10) ∷ []))) (same k (n / 10) (fewer (suc k) n h))

pub decimal_one : (n : ℕ) → n < 10 → decimal n ≡ glyph n ∷ []
unfolding decimal
decimal_one n h = in_one 19 n h

pub decimal_more : (n : ℕ) → 10 ≤ n → n < 2 ^ 64 → decimal n ≡ decimal (n / 10) ++ (glyph (n % 10) ∷ [])
unfolding decimal
decimal_more n h s = in_more 19 n h ∙ ap (λ l. l ++ (glyph (n % 10) ∷ [])) (same 18 (n / 10) (omega arith))

-- ---- read back
from_last : (v : ℕ) (l : List ℕ) (d : ℕ) → from_decimal v (l ++ (d ∷ [])) ≡ from_decimal v l * 10 + (d - 48)
unfolding from_decimal
from_last v [] d = refl
from_last v (x ∷ l) d = from_last (v * 10 + (x - 48)) l d

reads_in : (k n : ℕ) → n < 10 ^ k → from_decimal 0 (decimal_in k n) ≡ n
unfolding decimal_in from_decimal
reads_in zero n h = omega arith
reads_in (suc k) n h =
    by_ten
    n
    (λ s. rw (lt-ltb n 10 s) (omega arith))
    (λ m. rw (
      in_more k n m,
      from_last 0 (decimal_in k (n / 10)) (glyph (n % 10)),
      reads_in k (n / 10) (fewer k n h),
      ← (low_digit (n % 10) (omega arith)),
    ) (omega arith))

pub decimal_reads_back : DecimalReadsBack
unfolding decimal
decimal_reads_back n h = reads_in 20 n (omega arith)

-- ---- no zero before
front : (a b : List ℕ) → (get_or a 0 48 ≡ 48 → ⊥) → get_or (a ++ b) 0 48 ≡ 48 → ⊥
front [] b h = absurd (h refl)
front (x ∷ a) b h = h

above_in : (k n : ℕ) → 0 < n → n < 10 ^ k → get_or (decimal_in k n) 0 48 ≡ 48 → ⊥
above_in zero n p h = absurd (omega arith)
above_in (suc k) n p h =
    by_ten
    n
    (λ s. rw (in_one k n s, ← (low_digit n s)) (λ e. absurd (omega arith)))
    (λ m. rw (in_more k n m) (front (decimal_in k (n / 10)) (glyph (n % 10) ∷ []) (above_in k (n / 10) (omega arith) (fewer k n h))))

pub decimal_has_no_zero_before : DecimalHasNoZeroBefore
unfolding decimal
decimal_has_no_zero_before = ((λ n p h. above_in 20 n p (omega arith)), in_one 19 0 (omega arith))

-- ---- short
some : (k n : ℕ) → 1 ≤ length (decimal_in (suc k) n)
some k n =
    by_ten n (λ s. rw (in_one k n s) (omega arith)) (λ m. rw (in_more k n m, length-append) (omega arith))

short_in : (j k n : ℕ) → n < 10 ^ suc k → length (decimal_in j n) ≤ suc k
unfolding decimal_in
short_in zero k n h = omega arith
short_in (suc j) zero n h = rw (in_one j n h) (omega arith)
short_in (suc j) (suc k) n h =
    by_ten
    n
    (λ s. rw (in_one j n s) (omega arith))
    (λ m. rw (in_more j n m, length-append) (omega (arith, short_in j k (n / 10) (fewer (suc k) n h))))

pub decimal_is_short : DecimalIsShort
unfolding decimal
decimal_is_short n zero h s = absurd (omega arith)
decimal_is_short n (suc k) h s = (some 19 n, short_in 20 k n s)
