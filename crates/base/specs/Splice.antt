-- Bytes put into a list at a place: what stands before and after them stays.
use Rattle.std.specs.Prelude.{ℕ, suc, ◌+◌, ◌<◌, ◌≤◌, ◌≡◌, List, [], ◌∷◌, ◌++◌, length, get_or, take, drop, set}
use Rattle.std.proofs.Common.{arith, add-one, sym, ap, ◌∙◌, add-zero, append_assoc, append-nil, length-append, length-take, length-drop, take-append-drop, length-take-le, drop-drop, take_at, take-suc}
use Rattle.std.proofs.Math.Seq.{drop-append-add}
use Rattle.std.proofs.lemmas.List.{set_at, set_split}

abbrev pub splice : List ℕ → ℕ → List ℕ → List ℕ
splice d at xs = take at d ++ xs ++ drop (at + length xs) d

pub length_splice : (d : List ℕ) (at : ℕ) (xs : List ℕ) → at + length xs ≤ length d → length (splice d at xs) ≡ length d
length_splice d at xs h = simp (length-append, length-drop, length-take) (omega arith)

pub spliced_length : (d : List ℕ) (at : ℕ) (xs : List ℕ) {f : List ℕ} → f ≡ splice d at xs → at + length xs ≤ length d → length f ≡ length d
spliced_length d at xs e h = ap length e ∙ length_splice d at xs h

-- one piece after another is one piece
pub splice_splice :
    (d : List ℕ) (at : ℕ) (xs ys : List ℕ) (to : ℕ)
    → to ≡ at + length xs
    → at + length xs ≤ length d
    → splice (splice d at xs) to ys ≡ splice d at (xs ++ ys)
splice_splice d at xs ys to e h =
    let l : length (take at d ++ xs) ≡ to = rw (length-append, length-take-le at d (omega arith)) (sym e) in
    let t = take_at (take at d ++ xs) (drop (at + length xs) d) to l in
    let n : at + length xs + length ys ≡ at + length (xs ++ ys) = rw length-append (omega arith) in
    let u : drop (to + length ys) (splice d at xs) ≡ drop (at + length (xs ++ ys)) d
    = ap (λ m. drop (m + length ys) (splice d at xs)) (sym l)
    ∙ drop-append-add (take at d ++ xs) (drop (at + length xs) d) (length ys)
    ∙ drop-drop (length ys) (at + length xs) d
    ∙ ap (λ m. drop m d) n in
    rw (u, t) (ap (λ l. l ++ drop (at + length (xs ++ ys)) d) (append_assoc (take at d) xs ys))

-- nothing put changes nothing
pub splice_none : (d : List ℕ) (at : ℕ) → splice d at [] ≡ d
splice_none d at = rw (append-nil, add-zero) (take-append-drop at d)

-- one element before a piece
pub set_splice : (d : List ℕ) (at : ℕ) (xs : List ℕ) (b : ℕ) → at < length d → set (splice d (at + 1) xs) at b ≡ splice d at (b ∷ xs)
set_splice d at xs b h =
    let rest = drop (at + 1 + length xs) d in
    let g : splice d (at + 1) xs ≡ take at d ++ get_or d at 0 ∷ (xs ++ rest)
    = rw (add-one, take-suc d at 0) (append_assoc (take at d ++ (get_or d at 0 ∷ [])) xs _ ∙ append_assoc (take at d) (get_or d at 0 ∷ []) _) in
    let n : at + 1 + length xs ≡ at + suc (length xs) = omega arith in
    rw (g, set_at (take at d) (get_or d at 0) (xs ++ rest) b at (length-take-le at d (omega arith)), n) (sym (append_assoc (take at d) (b ∷ xs) _))

pub set_is_splice : (d : List ℕ) (at b : ℕ) → at < length d → set d at b ≡ splice d at (b ∷ [])
set_is_splice d at b h = rw (set_split d at b, add-one) (sym (append_assoc (take at d) (b ∷ []) _))
