-- What stands at a place of a list: after what is before it, and before what is after it.
-- Assumes nothing.
use Prim.Native.Nat.{ℕ, zero, suc, ◌+◌, ◌<◌}
use native.Mathlib.Omega.{arith}
use mathlib.Core.Path.{◌≡◌, ap}
use mathlib.Core.List.{List, [], ◌∷◌, ◌++◌}
use lib.ListN.{length, take, drop, length-drop}
use Rattle.base.specs.Lists.{All, Pairwise}

pub drop_inside : {A : Type 0} (n : ℕ) (xs : List A) {x : A} {more : List A} → drop n xs ≡ x ∷ more → n < length xs
drop_inside n xs {x} {more} e = let z : length (drop n xs) ≡ length (x ∷ more) = ap length e in omega (arith, z, length-drop n xs)

-- the front, one more
pub take_more : {A : Type 0} (n : ℕ) (xs : List A) {x : A} {more : List A} → drop n xs ≡ x ∷ more → take (n + 1) xs ≡ take n xs ++ (x ∷ [])
take_more n [] e = absurd (omega (arith, drop_inside n [] e))
take_more zero (y ∷ xs) {x} e = let z : y ≡ x = cc in rw z
take_more (suc n) (y ∷ xs) e = let z : suc n + 1 ≡ suc (n + 1) = omega arith in rw (z, take_more n xs e)

pub all_at : {A : Type 0} (P : A → Type 0) (n : ℕ) (xs : List A) {x : A} {more : List A} → All P xs → drop n xs ≡ x ∷ more → P x
all_at P n [] a e = absurd (omega (arith, drop_inside n [] e))
all_at P zero (y ∷ xs) {x} a e = let z : y ≡ x = cc in rw z at a.0
all_at P (suc n) (y ∷ xs) a e = all_at P n xs a.1 e

-- to those after it
pub pairs_at : {A : Type 0} (R : A → A → Type 0) (n : ℕ) (xs : List A) {x : A} {more : List A} → Pairwise R xs → drop n xs ≡ x ∷ more → All (R x) more
pairs_at R n [] p e = absurd (omega (arith, drop_inside n [] e))
pairs_at R zero (y ∷ xs) {x} {more} p e = let z : y ≡ x = cc in let w : xs ≡ more = cc in rw (z, w) at p.0
pairs_at R (suc n) (y ∷ xs) p e = pairs_at R n xs p.1 e
