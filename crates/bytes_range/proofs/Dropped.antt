-- Trailing FF bytes are dropped many at once: eight bytes are all FF exactly if their number is the greatest.
-- Assumes nothing.
use Prim.Native.Nat.{ℕ, zero, suc, ◌+◌, ◌-◌, ◌*◌, ◌^◌, ◌<◌, ◌≤◌}
use native.Mathlib.Omega.{arith}
use native.Mathlib.Nat.{pow-succ', zero-add, add-zero, suc-add}
use mathlib.Core.Path.{◌≡◌, refl, sym, ◌∙◌}
use mathlib.Core.Bool.{Bool, true, false, ◌&&◌, and_assoc}
use mathlib.Core.List.{List, [], ◌∷◌}
use lib.ListN.{length, get_or, take, drop, length-take, length-drop}
use lib.Seq.{drop-cons, drop-drop, take-nil}
use lib.Dec.{eqb}
use borrow.Author.Tests.{eq-eqb, ne_eqb, eqb-true}
use Rattle.base.specs.Pick.{and_first, and_second}
use Rattle.base.specs.Bytes.{Bytes, bytes_tail, bytes_take, bytes_drop}
use Rattle.key.specs.Order.{Key}
use Rattle.key.specs.Word.{reversed, ReversedAt}
use Rattle.bytes_range.specs.Prefix.{kept_of}
use Rattle.bytes_range.specs.Writing.{all_ff}

-- ---- the number of bytes that are all FF
greatest : (k : List ℕ) → all_ff k ≡ true → reversed k + 1 ≡ 256 ^ length k
unfolding all_ff reversed
greatest [] h = refl
greatest (b ∷ k) h =
    let q : b ≡ 255 = eqb-true b 255 (and_first (eqb b 255) _ h) in
    rw pow-succ' (omega (arith, greatest k (and_second (eqb b 255) _ h)))

from_greatest : (k : List ℕ) → Bytes k → reversed k + 1 ≡ 256 ^ length k → all_ff k ≡ true
unfolding all_ff reversed
from_greatest [] b h = refl
from_greatest (x ∷ k) b h =
    let i : x < 256 = b.below 0 in
    let e : reversed k * 256 + x + 1 ≡ 256 * 256 ^ length k = rw pow-succ' at h in
    let q : x ≡ 255 = omega arith in
    rw (eq-eqb x 255 q) (from_greatest k (bytes_tail b) (omega arith))

eight_ff : (k : List ℕ) → Bytes k → length k ≡ 8 → eqb (reversed k) 18446744073709551615 ≡ all_ff k
eight_ff k b l = go (all_ff k) refl
  where
    go : (t : Bool) → all_ff k ≡ t → eqb (reversed k) 18446744073709551615 ≡ t
    go true w =
        let e : reversed k + 1 ≡ 256 ^ 8 = rw l at (greatest k w) in
        eq-eqb (reversed k) 18446744073709551615 (omega arith)
    go false w =
        ne_eqb (reversed k) 18446744073709551615 (λ q. mathlib.Core.Bool.true≢false (sym (from_greatest k b (rw l (omega arith))) ∙ w))

-- ff8
pub eight_seen : (p : Key) (i : ℕ) {x : ℕ} → i + 8 ≤ length p → ReversedAt p i x → eqb x 18446744073709551615 ≡ all_ff (take 8 (drop i p))
eight_seen p i h r =
    rw r.value (eight_ff _ (bytes_take 8 _ (bytes_drop i p r.bytes)) (simp (length-take, length-drop) (omega arith)))

-- ---- ff16, ff32, ff64: both halves are
all_parts : (m n : ℕ) (l : List ℕ) → all_ff (take (m + n) l) ≡ (all_ff (take m l) && all_ff (take n (drop m l)))
unfolding all_ff
all_parts zero n l = rw zero-add
all_parts (suc m) n [] = rw (suc-add, take-nil)
all_parts (suc m) n (b ∷ l) = rw (suc-add, all_parts m n l, and_assoc)

module _ (p : Key) (i m n : ℕ) {t : Bool} (e : t ≡ all_ff (take m (drop i p))) where
  pub both_halves : {u : Bool} → t ≡ true → u ≡ all_ff (take m (drop (i + m) p)) → n ≡ m + m → u ≡ all_ff (take n (drop i p))
  both_halves h f d = f ∙ sym (rw (d, all_parts m m (drop i p), ← e, h, drop-drop))

  pub first_half_lem : t ≡ false → n ≡ m + m → false ≡ all_ff (take n (drop i p))
  first_half_lem h d = sym (rw (d, all_parts m m (drop i p), ← e, h))

pub ruleset ff_exits = (eight_seen, both_halves, first_half_lem)

-- ---- fewer
all_dropped : (m : ℕ) (p : Key) (i : ℕ) → i + m ≤ length p → all_ff (take m (drop i p)) ≡ true → kept_of p i ≡ kept_of p (i + m)
unfolding all_ff kept_of
all_dropped zero p i h e = rw add-zero
all_dropped (suc m) p i h e =
    let l : i < length p = omega arith in
    let q : eqb (get_or p i 0) 255 && all_ff (take m (drop (suc i) p)) ≡ true = rw (drop-cons p i 0) at e in
    let f : eqb (get_or p i 0) 255 ≡ true = and_first (eqb (get_or p i 0) 255) _ q in
    let s : kept_of p i ≡ kept_of p (suc i) = rw f in
    let z : suc i + m ≡ i + suc m = omega arith in
    s ∙ rw z at (all_dropped m p (suc i) (omega arith) (and_second (eqb (get_or p i 0) 255) _ q))

pub many_dropped : (p : Key) (m n : ℕ) {t : Bool} → t ≡ all_ff (take m (drop (n - m) p)) → t ≡ true → m ≤ n → n ≤ length p → kept_of p (n - m) ≡ kept_of p n
many_dropped p m n e h k l =
    let z : n - m + m ≡ n = omega arith in
    rw z at (all_dropped m p (n - m) (omega arith) (sym e ∙ h))

pub one_dropped : (p : Key) (n : ℕ) → (n ≡ 0 → ⊥) → get_or p (n - 1) 0 ≡ 255 → kept_of p (n - 1) ≡ kept_of p n
unfolding kept_of
one_dropped p zero h e = absurd (h refl)
one_dropped p (suc m) h e =
    let z : suc m - 1 ≡ m = omega arith in
    rw (z, eq-eqb _ _ (rw z at e))

pub ruleset drop_exits = (many_dropped, one_dropped)
