-- Lists of bytes: every number in them is below 256. What a lent slice holds is such a list.
use Rattle.std.specs.Prelude.{ℕ, zero, suc, ◌<◌, ◌+◌, List, [], ◌∷◌, ◌++◌, get_or, take, drop}
use Rattle.std.proofs.Common.{arith, get_or-drop}

pub record Bytes (l : List ℕ) : Type 0 where
  pub below : (i : ℕ) → get_or l i 0 < 256

pub bytes_none : Bytes []
bytes_none = record { below = λ i. omega arith }

pub bytes_tail : {x : ℕ} {l : List ℕ} → Bytes (x ∷ l) → Bytes l
bytes_tail b = record { below = λ i. b.below (suc i) }

pub bytes_cons : {x : ℕ} {l : List ℕ} → x < 256 → Bytes l → Bytes (x ∷ l)
bytes_cons {x} {l} h b = record { below = at }
  where
    at : (i : ℕ) → get_or (x ∷ l) i 0 < 256
    at zero = h
    at (suc i) = b.below i

pub bytes_append : (k l : List ℕ) → Bytes k → Bytes l → Bytes (k ++ l)
bytes_append [] l b c = c
bytes_append (x ∷ k) l b c = bytes_cons (b.below 0) (bytes_append k l (bytes_tail b) c)

pub bytes_drop : (n : ℕ) (l : List ℕ) → Bytes l → Bytes (drop n l)
bytes_drop n l b = record { below = λ i. rw get_or-drop (b.below (n + i)) }

pub bytes_take : (n : ℕ) (l : List ℕ) → Bytes l → Bytes (take n l)
bytes_take zero l b = bytes_none
bytes_take (suc n) [] b = bytes_none
bytes_take (suc n) (x ∷ l) b = bytes_cons (b.below 0) (bytes_take n l (bytes_tail b))

pub bytes_rest : (k l : List ℕ) → Bytes (k ++ l) → Bytes l
bytes_rest [] l b = b
bytes_rest (x ∷ k) l b = bytes_rest k l (bytes_tail b)
