-- Tables of numbers, w to a row, filled front to back.
-- Assumes nothing.
use Rattle.std.specs.Prelude.{ℕ, zero, suc, ◌+◌, ◌*◌, ◌<◌, ◌≤◌, ◌≡◌, refl, List, [], ◌∷◌, ◌++◌, length, get_or, take, drop}
use Rattle.std.proofs.Common.{arith, add-zero, sym, ap, ◌∙◌, append-nil, append_assoc, length-append, length-drop, take-append-drop, length-take-le, take_at, drop-drop, get_or-take, get_or-drop}
use Rattle.std.proofs.lemmas.List.{take-append-le, drop-append-le}
use Rattle.base.specs.Splice.{splice, length_splice}

-- the first n rows
unfoldable pub rows_in : ℕ → ℕ → List ℕ → List (List ℕ)
rows_in w zero t = []
rows_in w (suc n) t = take w t ∷ rows_in w n (drop w t)

-- row k
abbrev pub row_at : ℕ → ℕ → List ℕ → List ℕ
row_at w k t = take w (drop (k * w) t)

-- two lists of one length, element by element
abbrev pub Each : {A B : Type 0} → (A → B → Type 0) → List A → List B → Type 0
Each R [] [] = Unit {0}
Each R [] (y ∷ ys) = ⊥
Each R (x ∷ xs) [] = ⊥
Each R (x ∷ xs) (y ∷ ys) = R x y × Each R xs ys

-- the first rows of t stand for xs, each for one
pub record RowsHold {A : Type 0} (w : ℕ) (R : A → List ℕ → Type 0) (xs : List A) (t : List ℕ) : Type 0 where
  pub long : length xs * w ≤ length t
  pub rows : Each R xs (rows_in w (length xs) t)

-- ---- rows of a table
pub length_rows : (w n : ℕ) (t : List ℕ) → length (rows_in w n t) ≡ n
unfolding rows_in
length_rows w zero t = refl
length_rows w (suc n) t = ap suc (length_rows w n (drop w t))

rows_append : (w n m : ℕ) (p q : List ℕ) → length p ≡ n * w → rows_in w (n + m) (p ++ q) ≡ rows_in w n p ++ rows_in w m q
unfolding rows_in
rows_append w zero m [] q e = let z : 0 + m ≡ m = omega arith in rw z
rows_append w zero m (x ∷ p) q e = absurd (omega arith)
rows_append w (suc n) m p q e =
    let z : suc n + m ≡ suc (n + m) = omega arith in
    let l : w ≤ length p = omega arith in
    let d : length (drop w p) ≡ n * w = rw length-drop (omega arith) in
    rw (z, take-append-le w p q l, drop-append-le w p q l, rows_append w n m (drop w p) q d)

-- the rows of the front are rows of the whole
rows_front : (w n : ℕ) (t : List ℕ) → n * w ≤ length t → rows_in w n (take (n * w) t) ≡ rows_in w n t
unfolding rows_in
rows_front w n t h =
    let e : rows_in w (n + 0) (take (n * w) t ++ drop (n * w) t) ≡ rows_in w n (take (n * w) t) ++ []
    = rows_append w n 0 (take (n * w) t) (drop (n * w) t) (length-take-le (n * w) t h) in
    sym (rw (take-append-drop, add-zero, append-nil) at e)

-- a row put after n rows
pub rows_more :
    (w n : ℕ) (t x : List ℕ)
    → length x ≡ w
    → n * w + w ≤ length t
    → rows_in w (n + 1) (splice t (n * w) x) ≡ rows_in w n t ++ (x ∷ [])
unfolding rows_in
rows_more w n t x e h =
    ap (rows_in w (n + 1)) (append_assoc (take (n * w) t) x (drop (n * w + length x) t))
    ∙ rows_append w n 1 (take (n * w) t) (x ++ drop (n * w + length x) t) (length-take-le (n * w) t (omega arith))
    ∙ rw (rows_front w n t (omega arith), take_at x (drop (n * w + length x) t) w e)

-- row k, and those after it
pub rows_at : (w n k : ℕ) (t : List ℕ) → k < n → drop k (rows_in w n t) ≡ row_at w k t ∷ drop (k + 1) (rows_in w n t)
unfolding rows_in
rows_at w zero k t h = absurd (omega arith)
rows_at w (suc n) zero t h = let z : 0 * w ≡ 0 = omega arith in rw z
rows_at w (suc n) (suc k) t h =
    let z : suc k * w ≡ w + k * w = omega arith in
    let y : suc k + 1 ≡ suc (k + 1) = omega arith in
    rw (rows_at w n k (drop w t) (omega arith), drop-drop (k * w) w t, z, y)

-- number i of row k
pub row_number : (w k i : ℕ) (t : List ℕ) → i < w → get_or (row_at w k t) i 0 ≡ get_or t (k * w + i) 0
row_number w k i t h = get_or-take w (drop (k * w) t) i 0 h ∙ get_or-drop (k * w) t i 0

-- ---- two lists, element by element
module _ {A B : Type 0} (R : A → B → Type 0) where
  pub each_more : (xs : List A) (ys : List B) (x : A) (y : B) → Each R xs ys → R x y → Each R (xs ++ (x ∷ [])) (ys ++ (y ∷ []))
  each_more [] [] x y e r = (r, tt)
  each_more [] (b ∷ ys) x y e r = absurd e
  each_more (a ∷ xs) [] x y e r = absurd e
  each_more (a ∷ xs) (b ∷ ys) x y e r = (e.0, each_more xs ys x y e.1 r)

  -- what stands at the same place of both
  pub each_at :
      (k : ℕ) (xs : List A) (ys : List B) {x : A} {y : B} {more : List A} {rest : List B}
      → Each R xs ys
      → drop k xs ≡ x ∷ more
      → drop k ys ≡ y ∷ rest
      → R x y
  each_at zero [] [] {x} {more} e p q = absurd (let z : 0 ≡ length (x ∷ more) = ap length p in omega (arith, z))
  each_at (suc k) [] [] {x} {more} e p q = absurd (let z : 0 ≡ length (x ∷ more) = ap length p in omega (arith, z))
  each_at k [] (b ∷ ys) e p q = absurd e
  each_at k (a ∷ xs) [] e p q = absurd e
  each_at zero (a ∷ xs) (b ∷ ys) {x} {y} e p q = let u : a ≡ x = cc in let v : b ≡ y = cc in rw (u, v) at e.0
  each_at (suc k) (a ∷ xs) (b ∷ ys) e p q = each_at k xs ys e.1 p q

-- ---- rows that hold values
module _ {A : Type 0} (w : ℕ) (R : A → List ℕ → Type 0) where
  pub hold_none : (t : List ℕ) → RowsHold w R [] t
  unfolding rows_in
  hold_none t = record { long = omega arith; rows = tt }

  -- one row more, after as many as hold xs
  pub hold_more :
      {xs : List A} {t : List ℕ} (x : A) (row : List ℕ)
      → RowsHold w R xs t
      → length row ≡ w
      → length xs * w + w ≤ length t
      → R x row
      → RowsHold w R (xs ++ (x ∷ [])) (splice t (length xs * w) row)
  hold_more {xs} {t} x row p e h r =
      let n : length (xs ++ (x ∷ [])) ≡ length xs + 1 = length-append xs (x ∷ []) in
      let l : length (splice t (length xs * w) row) ≡ length t = length_splice t (length xs * w) row (omega arith) in
      record {
        long = rw (n, l) (omega arith);
        rows = rw (n, rows_more w (length xs) t row e h) (each_more R xs (rows_in w (length xs) t) x row p.rows r);
      }

  pub hold_at :
      {xs : List A} {t : List ℕ} {k : ℕ} {x : A} {more : List A}
      → RowsHold w R xs t
      → k < length xs
      → drop k xs ≡ x ∷ more
      → R x (row_at w k t)
  hold_at {xs} {t} {k} p h e = each_at R k xs (rows_in w (length xs) t) p.rows e (rows_at w (length xs) k t h)
