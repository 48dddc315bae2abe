-- Numbers from a number on, and what is at a place of a list.
-- Assumes nothing.
use Prim.Native.Nat.{ℕ, zero, suc, ◌+◌, ◌*◌, ◌≤◌, ◌<◌}
use native.Mathlib.Omega.{arith}
use native.Mathlib.Numerals.{add-one}
use mathlib.Core.Path.{◌≡◌, refl, ap, ◌∙◌}
use mathlib.Core.List.{List, [], ◌∷◌, ◌++◌, map}
use lib.ListN.{length, get_or, take, drop, length-map}
use lib.Seq.{take-suc, drop-cons, take_at, drop_at, drop-drop}
use Rattle.base.specs.Lists.{All, map_append}
use Rattle.base.specs.Rows.{rows_in, row_at}
use Rattle.commit_rows.specs.Numbers.{row_of}
use Rattle.commit_write.specs.Rows.{row_in, count_from, view_rows}

pub length_count : (k n : ℕ) → length (count_from k n) ≡ n
unfolding count_from
length_count k zero = refl
length_count k (suc n) = ap suc (length_count (k + 1) n)

pub count_at : (k n i : ℕ) → i < n → get_or (count_from k n) i 0 ≡ k + i
unfolding count_from
count_at k zero i h = absurd (omega arith)
count_at k (suc n) zero h = omega arith
count_at k (suc n) (suc i) h = count_at (k + 1) n i (omega arith) ∙ omega arith

pub count_append : (k n m : ℕ) → count_from k (n + m) ≡ count_from k n ++ count_from (k + n) m
unfolding count_from
count_append k zero m = let z : k + 0 ≡ k = omega arith in let y : 0 + m ≡ m = omega arith in rw (z, y)
count_append k (suc n) m =
    let z : suc n + m ≡ suc (n + m) = omega arith in
    let y : k + suc n ≡ k + 1 + n = omega arith in
    rw (z, y) (ap (λ l. k ∷ l) (count_append (k + 1) n m))

-- what is true of each is true of the one at a place
pub all_at : (P : ℕ → Type 0) (xs : List ℕ) (i : ℕ) → All P xs → i < length xs → P (get_or xs i 0)
all_at P [] i a h = absurd (omega arith)
all_at P (x ∷ xs) zero a h = a.0
all_at P (x ∷ xs) (suc i) a h = all_at P xs i a.1 (omega arith)

-- one more of a list, and those left
pub take_more : (xs : List ℕ) (i : ℕ) {k : ℕ} → k ≡ get_or xs i 0 → i < length xs → take (i + 1) xs ≡ take i xs ++ (k ∷ [])
take_more xs i e h = rw (add-one, e) (take-suc xs i 0 h)

pub drop_more : (xs : List ℕ) (i : ℕ) {k : ℕ} → k ≡ get_or xs i 0 → i < length xs → drop i xs ≡ k ∷ drop (i + 1) xs
drop_more xs i e h = rw (add-one, e) (drop-cons xs i 0 h)

-- ---- rows of a table
rows_drop : (w n k : ℕ) (t : List ℕ) → map row_of (rows_in w n (drop (k * w) t)) ≡ map (λ j. row_of (row_at w j t)) (count_from k n)
unfolding rows_in count_from
rows_drop w zero k t = refl
rows_drop w (suc n) k t =
    let z : k * w + w ≡ (k + 1) * w = omega arith in
    rw (drop-drop w (k * w) t, z) (ap (λ l. row_of (row_at w k t) ∷ l) (rows_drop w n (k + 1) t))

pub rows_numbered : (n : ℕ) (t : List ℕ) → map row_of (rows_in 11 n t) ≡ view_rows 0 n t
rows_numbered n t = let z : 0 * 11 ≡ 0 = omega arith in rw z at (rows_drop 11 n 0 t)

pub rows_length : (k n : ℕ) (t : List ℕ) → length (view_rows k n t) ≡ n
rows_length k n t = length-map (count_from k n) (row_in t) ∙ length_count k n

rows_append : (k n m : ℕ) (t : List ℕ) → view_rows k (n + m) t ≡ view_rows k n t ++ view_rows (k + n) m t
rows_append k n m t = ap (map (row_in t)) (count_append k n m) ∙ map_append (row_in t) (count_from k n) (count_from (k + n) m)

pub rows_take : (k n m : ℕ) (t : List ℕ) → take n (view_rows k (n + m) t) ≡ view_rows k n t
rows_take k n m t = rw (rows_append k n m t) (take_at (view_rows k n t) (view_rows (k + n) m t) n (rows_length k n t))

pub rows_skip : (k n m : ℕ) (t : List ℕ) → drop n (view_rows k (n + m) t) ≡ view_rows (k + n) m t
rows_skip k n m t = rw (rows_append k n m t) (drop_at (view_rows k n t) (view_rows (k + n) m t) n (rows_length k n t))

-- what is true of each number
pub count_all : (P : ℕ → Type 0) (k n : ℕ) → ((j : ℕ) → k ≤ j → j < k + n → P j) → All P (count_from k n)
unfolding count_from
count_all P k zero f = tt
count_all P k (suc n) f = (f k (omega arith) (omega arith), count_all P (k + 1) n (λ j h l. f j (omega arith) (omega arith)))
