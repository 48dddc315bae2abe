-- The exits of the readers of numbers and flags, and what a reader finds in bytes that are there.
-- Assumes nothing.
use Prim.Native.Nat.{ℕ, suc, ◌+◌, ◌<◌, ◌≤◌}
use native.Mathlib.Omega.{arith}
use mathlib.Core.Path.{◌≡◌, refl, sym, ap, ◌∙◌}
use mathlib.Core.List.{List, [], ◌∷◌}
use mathlib.Core.Bool.{Bool, true, false}
use lib.ListN.{length, get_or, take, drop, length-drop}
use lib.Seq.{drop-cons, drop-drop}
use lib.Dec.{T, eqb, eqb→eq, leb}
use borrow.Author.Tests.{le-leb, lt-leb, leb-true, leb-false}
use Rattle.base.specs.Table.{ruled}
use Rattle.base.specs.Outcome.{Outcome, answer}
use Rattle.base.specs.Outcome as outcome
use Rattle.key.specs.Word.{digits}
use Rattle.format.specs.Got.{got, stop}
use Rattle.format.specs.Number.{read_number}
use Rattle.format.specs.Key.{read_bytes}
use Rattle.records.specs.Form.{Form, number, bytes, packed, seq}
use Rattle.records.specs.Layouts.{flag_of}

-- ---- bytes that are there are read
left : (s : List ℕ) (at n : ℕ) → at + n ≤ length s → n ≤ length (drop at s)
left s at n h = rw length-drop (omega arith)

pub number_is : (s : List ℕ) (at n : ℕ) → at + n ≤ length s → read_number n (drop at s) ≡ got (digits 0 (take n (drop at s))) (drop (at + n) s)
unfolding read_number
number_is s at n h = rw (le-leb n (length (drop at s)) (left s at n h), drop-drop)

pub bytes_is : (s : List ℕ) (at n : ℕ) → at + n ≤ length s → read_bytes n (drop at s) ≡ got (take n (drop at s)) (drop (at + n) s)
unfolding read_bytes
bytes_is s at n h = rw (le-leb n (length (drop at s)) (left s at n h), drop-drop)

one_digit : (x : ℕ) (l : List ℕ) → digits 0 (take 1 (x ∷ l)) ≡ x
unfolding digits
one_digit x l = omega arith

pub byte_is : (s : List ℕ) (at : ℕ) → at < length s → read_number 1 (drop at s) ≡ got (get_or s at 0) (drop (at + 1) s)
byte_is s at h =
    number_is s at 1 (omega arith) ∙ ap (λ v. got v (drop (at + 1) s)) (ap (λ l. digits 0 (take 1 l)) (drop-cons s at 0 h) ∙ one_digit (get_or s at 0) (drop (suc at) s))

-- ---- readers of a fixed number of bytes, whose only stop is that these are not there
pub record Exact {A : Type 0} (f : Form A) (n : ℕ) (l : List ℕ) : Type 0 where
  pub value : A
  pub is : f.read l ≡ got value (drop n l)

abbrev pub StopsShort : {A : Type 0} → Form A → ℕ → Type 0
StopsShort f n = (l : List ℕ) → length l < n → f.read l ≡ stop 1

pub number_short : (n : ℕ) → StopsShort (number n) n
unfolding read_number
number_short n l h = rw (lt-leb n (length l) h)

pub bytes_short : (n : ℕ) → StopsShort (bytes n) n
unfolding read_bytes
bytes_short n l h = rw (lt-leb n (length l) h)

pub packed_short : {A : Type 0} (n : ℕ) (parts : ℕ → Outcome A) (joined : A → ℕ) (Within : A → Type 0) → StopsShort (packed n parts joined Within) n
packed_short n parts joined Within l h = rw (number_short n l h)

pub number_exact : (n : ℕ) (l : List ℕ) → n ≤ length l → Exact (number n) n l
unfolding read_number
number_exact n l h = record { value = digits 0 (take n l); is = rw (le-leb n (length l) h) }

pub bytes_exact : (n : ℕ) (l : List ℕ) → n ≤ length l → Exact (bytes n) n l
unfolding read_bytes
bytes_exact n l h = record { value = take n l; is = rw (le-leb n (length l) h) }

pub seq_short :
    {A B : Type 0} (f : Form A) (g : A → Form B) (n m : ℕ)
    → StopsShort f n
    → ((l : List ℕ) → n ≤ length l → Exact f n l)
    → ((a : A) → StopsShort (g a) m)
    → StopsShort (seq f g) (n + m)
seq_short f g n m s e t l h = go (leb n (length l)) refl
  where
    go : (b : Bool) → leb n (length l) ≡ b → (seq f g).read l ≡ stop 1
    go true q =
        let k = leb-true n (length l) q in
        let x = e l k in
        rw (x.is, t x.value (drop n l) (rw length-drop (omega arith)))
    go false q = rw (s l (leb-false n (length l) q))

pub first_short : {A B : Type 0} (f : Form A) (g : A → Form B) (n : ℕ) → StopsShort f n → StopsShort (seq f g) n
first_short f g n s l h = rw (s l h)

-- ---- flag_of
pub flag_clear : (b : ℕ) → b ≡ 0 → answer false ≡ flag_of b
unfolding flag_of
flag_clear b e = rw e

pub flag_set : (b : ℕ) → b ≡ 128 → answer true ≡ flag_of b
unfolding flag_of
flag_set b e = rw e

abbrev stopped : Outcome Bool → Bool
stopped (answer f) = false
stopped (outcome.stop n) = eqb n 2

stopped_is : (h : Outcome Bool) → T (stopped h) → outcome.stop 2 ≡ h
stopped_is (answer f) w = absurd w
stopped_is (outcome.stop n) w = ap outcome.stop (sym (eqb→eq n 2 w))

pub flag_bad : (b : ℕ) → b < 256 → (b ≡ 0 → ⊥) → (b ≡ 128 → ⊥) → outcome.stop 2 ≡ flag_of b
unfolding flag_of
flag_bad b h p q =
    stopped_is (flag_of b) (ruled (λ b. stopped (flag_of b)) (128 ∷ 0 ∷ []) 256 tt b h ((tt, p), q))

pub ruleset flag_exits = (flag_clear, flag_set, flag_bad)
