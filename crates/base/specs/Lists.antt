-- Lists: a property of each element, of each pair in order, and laws of flat_map and take.
-- Assumes nothing.
use Rattle.std.specs.Prelude.{ℕ, ◌≤◌, ◌≡◌, refl, length, take}
use Rattle.std.proofs.Common.{arith, sym, length-take-le, take-take, take_at}
use mathlib.Core.List.{List, [], ◌∷◌, ◌++◌, map, flat_map, append_assoc}

abbrev pub All : {A : Type 0} → (A → Type 0) → List A → Type 0
All P [] = Unit {0}
All P (x ∷ xs) = P x × All P xs

-- each element with each later one
abbrev pub Pairwise : {A : Type 0} → (A → A → Type 0) → List A → Type 0
Pairwise R [] = Unit {0}
Pairwise R (x ∷ xs) = All (R x) xs × Pairwise R xs

pub All-map : {A : Type 0} {P Q : A → Type 0} (f : (x : A) → P x → Q x) (xs : List A) → All P xs → All Q xs
All-map f [] a = tt
All-map f (x ∷ xs) a = (f x a.0, All-map f xs a.1)

pub All-of : {A : Type 0} {P : A → Type 0} (f : (x : A) → P x) (xs : List A) → All P xs
All-of f [] = tt
All-of f (x ∷ xs) = (f x, All-of f xs)

pub All-both : {A : Type 0} {P Q R : A → Type 0} (f : (x : A) → P x → Q x → R x) (xs : List A) → All P xs → All Q xs → All R xs
All-both f [] a b = tt
All-both f (x ∷ xs) a b = (f x a.0 b.0, All-both f xs a.1 b.1)

pub All-append : {A : Type 0} (P : A → Type 0) (xs ys : List A) → All P xs → All P ys → All P (xs ++ ys)
All-append P [] ys a b = b
All-append P (x ∷ xs) ys a b = (a.0, All-append P xs ys a.1 b)

pub All-flatMap : {A B : Type 0} (P : A → Type 0) (Q : B → Type 0) (f : A → List B) → ((x : A) → P x → All Q (f x)) → (xs : List A) → All P xs → All Q (flat_map f xs)
unfolding flat_map
All-flatMap P Q f h [] a = tt
All-flatMap P Q f h (x ∷ xs) a = All-append Q (f x) (flat_map f xs) (h x a.0) (All-flatMap P Q f h xs a.1)

-- of a mapped list, and back
pub All-mapped : {A B : Type 0} (P : B → Type 0) (f : A → B) (xs : List A) → All (λ x. P (f x)) xs → All P (map f xs)
All-mapped P f [] a = tt
All-mapped P f (x ∷ xs) a = (a.0, All-mapped P f xs a.1)

pub All-unmapped : {A B : Type 0} (P : B → Type 0) (f : A → B) (xs : List A) → All P (map f xs) → All (λ x. P (f x)) xs
All-unmapped P f [] a = tt
All-unmapped P f (x ∷ xs) a = (a.0, All-unmapped P f xs a.1)

pub Pairwise-append : {A : Type 0} (R : A → A → Type 0) (xs ys : List A) → Pairwise R xs → Pairwise R ys → All (λ x. All (R x) ys) xs → Pairwise R (xs ++ ys)
Pairwise-append R [] ys p q a = q
Pairwise-append R (x ∷ xs) ys p q a = (All-append (R x) xs ys p.0 a.0, Pairwise-append R xs ys p.1 q a.1)

pub Pairwise-of : {A : Type 0} (R : A → A → Type 0) → ((x y : A) → R x y) → (xs : List A) → Pairwise R xs
Pairwise-of R f [] = tt
Pairwise-of R f (x ∷ xs) = (All-of (f x) xs, Pairwise-of R f xs)

-- ---- flat_map
pub flat_map_append : {A B : Type 0} (f : A → List B) (s t : List A) → flat_map f (s ++ t) ≡ flat_map f s ++ flat_map f t
unfolding flat_map
flat_map_append f [] t = refl
flat_map_append f (x ∷ s) t = rw (flat_map_append f s t) (sym (append_assoc (f x) _ _))

pub flat_map_flat_map : {A B C : Type 0} (f : B → List C) (g : A → List B) (xs : List A) → flat_map f (flat_map g xs) ≡ flat_map (λ x. flat_map f (g x)) xs
unfolding flat_map
flat_map_flat_map f g [] = refl
flat_map_flat_map f g (x ∷ xs) = rw (flat_map_append f (g x), flat_map_flat_map f g xs)

pub flat_map_map : {A B C : Type 0} (f : B → List C) (g : A → B) (xs : List A) → flat_map f (map g xs) ≡ flat_map (λ x. f (g x)) xs
unfolding flat_map
flat_map_map f g [] = refl
flat_map_map f g (x ∷ xs) = rw (flat_map_map f g xs)

pub map_append : {A B : Type 0} (f : A → B) (s t : List A) → map f (s ++ t) ≡ map f s ++ map f t
map_append f [] t = refl
map_append f (x ∷ s) t = rw (map_append f s t)

pub map_flat_map : {A B C : Type 0} (f : B → C) (g : A → List B) (xs : List A) → map f (flat_map g xs) ≡ flat_map (λ x. map f (g x)) xs
unfolding flat_map
map_flat_map f g [] = refl
map_flat_map f g (x ∷ xs) = rw (map_append f (g x), map_flat_map f g xs)

-- alike on each element
pub flat_map_alike : {A B : Type 0} (f g : A → List B) (xs : List A) → All (λ x. f x ≡ g x) xs → flat_map f xs ≡ flat_map g xs
unfolding flat_map
flat_map_alike f g [] a = refl
flat_map_alike f g (x ∷ xs) a = rw (a.0, flat_map_alike f g xs a.1)

pub map_alike : {A B : Type 0} (f g : A → B) (xs : List A) → All (λ x. f x ≡ g x) xs → map f xs ≡ map g xs
map_alike f g [] a = refl
map_alike f g (x ∷ xs) a = rw (a.0, map_alike f g xs a.1)

pub flat_map_none : {A B : Type 0} (f : A → List B) (xs : List A) → All (λ x. f x ≡ []) xs → flat_map f xs ≡ []
unfolding flat_map
flat_map_none f [] a = refl
flat_map_none f (x ∷ xs) a = rw a.0 (flat_map_none f xs a.1)

pub All-forall : {A C : Type 0} (P : C → A → Type 0) (xs : List A) → ((c : C) → All (P c) xs) → All (λ x. (c : C) → P c x) xs
All-forall P [] f = tt
All-forall P (x ∷ xs) f = (λ c. (f c).0, All-forall P xs (λ c. (f c).1))

pub Pairwise-all : {A : Type 0} (P : A → Type 0) (R : A → A → Type 0) → ((x y : A) → P x → P y → R x y) → (xs : List A) → All P xs → Pairwise R xs
Pairwise-all P R f [] a = tt
Pairwise-all P R f (x ∷ xs) a = (All-map (λ y b. f x y a.0 b) xs a.1, Pairwise-all P R f xs a.1)

pub Pairwise-map : {A : Type 0} (P : A → Type 0) (R S : A → A → Type 0) → ((x y : A) → P x → P y → R x y → S x y) → (xs : List A) → All P xs → Pairwise R xs → Pairwise S xs
Pairwise-map P R S f [] a p = tt
Pairwise-map P R S f (x ∷ xs) a p = (All-both (λ y b r. f x y a.0 b r) xs a.1 p.0, Pairwise-map P R S f xs a.1 p.1)

pub Pairwise-mapped : {A B : Type 0} (R : B → B → Type 0) (f : A → B) (xs : List A) → Pairwise (λ x y. R (f x) (f y)) xs → Pairwise R (map f xs)
Pairwise-mapped R f [] p = tt
Pairwise-mapped R f (x ∷ xs) p = (All-mapped (R (f x)) f xs p.0, Pairwise-mapped R f xs p.1)

pub Pairwise-unmapped : {A B : Type 0} (R : B → B → Type 0) (f : A → B) (xs : List A) → Pairwise R (map f xs) → Pairwise (λ x y. R (f x) (f y)) xs
Pairwise-unmapped R f [] p = tt
Pairwise-unmapped R f (x ∷ xs) p = (All-unmapped (R (f x)) f xs p.0, Pairwise-unmapped R f xs p.1)

All-swap : {A B : Type 0} (Q : A → B → Type 0) (xs : List A) (ys : List B) → All (λ y. All (λ x. Q x y) xs) ys → All (λ x. All (Q x) ys) xs
All-swap Q [] ys a = tt
All-swap Q (x ∷ xs) ys a = (All-map (λ y h. h.0) ys a, All-swap Q xs ys (All-map (λ y h. h.1) ys a))

-- of pieces, where those of one element are in order and those of two in order are
pub Pairwise-flatMap : {A : Type 0} (R : A → A → Type 0) (f : A → List A) → ((x : A) → Pairwise R (f x)) → ((x y : A) → R x y → All (λ p. All (R p) (f y)) (f x)) → (xs : List A) → Pairwise R xs → Pairwise R (flat_map f xs)
unfolding flat_map
Pairwise-flatMap R f one two [] p = tt
Pairwise-flatMap R f one two (x ∷ xs) p =
    Pairwise-append R (f x) (flat_map f xs) (one x) (Pairwise-flatMap R f one two xs p.1)
    (All-map (λ q h. All-flatMap (λ y. All (R q) (f y)) (R q) f (λ y k. k) xs h) (f x)
    (All-swap (λ q y. All (R q) (f y)) (f x) xs (All-map (λ y r. two x y r) xs p.0)))

pub All-left : {A : Type 0} (P : A → Type 0) (xs ys : List A) → All P (xs ++ ys) → All P xs
All-left P [] ys a = tt
All-left P (x ∷ xs) ys a = (a.0, All-left P xs ys a.1)

-- ---- take
pub take_again : {A : Type 0} (n : ℕ) (l : List A) → take n (take n l) ≡ take n l
take_again n l = take-take n n l (omega arith)

pub take_front : {A : Type 0} (n : ℕ) (l m : List A) → n ≤ length l → take n (take n l ++ m) ≡ take n l
take_front n l m h = take_at (take n l) m n (length-take-le n l h)
