-- Every combinator of layouts keeps the law: what is written reads back, and what is accepted is the writing of its value.
-- Assumes nothing.
use Prim.Native.Nat.{ℕ, zero, suc, ◌+◌, ◌<◌, ◌^◌}
use native.Mathlib.Nat.{zero-add, suc-add}
use native.Mathlib.Omega.{arith}
use mathlib.Core.Path.{◌≡◌, refl, ap, ◌∙◌}
use mathlib.Core.Bool.{Bool, true, false}
use mathlib.Core.Option.{Option}
use mathlib.Core.List.{List, [], ◌∷◌, ◌++◌, append_assoc}
use lib.ListN.{length}
use Rattle.base.specs.Outcome.{Outcome, answer}
use Rattle.base.specs.Outcome as outcome
use Rattle.base.specs.Bytes.{Bytes, bytes_rest}
use Rattle.format.specs.Got.{Got, got}
use Rattle.format.specs.Number.{read_number, write_number}
use Rattle.format.specs.Laws.{Written}
use Rattle.format.proofs.Layouts.{came, bytes_back, bytes_only, number_layout, key_layout}
use Rattle.format.proofs.RangeLayouts.{range_layout}
use Rattle.records.specs.Form.{Form, number, bytes, key, range, taken, packed, Both, seq, named, There, absent, present, read_if, write_if, optional, All, none_left, one_more, read_many, write_many, many}
use Rattle.records.specs.Layouts.{counted, is_there}
use Rattle.records.specs.Laws.{Lawful}

-- ---- the fields
pub number_form : (n : ℕ) → Lawful (number n)
number_form = number_layout

pub bytes_form : (n : ℕ) → Lawful (bytes n)
bytes_form n =
    record {
      back = bytes_back n;
      only = λ l v r b e. let s = bytes_only n l v r e in record { bytes = s.bytes; within = s.long };
    }

pub key_form : Lawful key
key_form = key_layout

pub range_form : Lawful range
range_form = range_layout

-- what was accepted, where the reader's answer is written in two ways
same_written : {A : Type 0} {write : A → List ℕ} {Within : A → Type 0} {l : List ℕ} {u v : A} {q r : List ℕ} → got u q ≡ got v r → Written write Within l u q → Written write Within l v r
same_written {u = u} {v = v} {q = q} {r = r} e w =
    let x : v ≡ u = cc in
    let y : r ≡ q = cc in
    rw (x, y) w

-- what is left are bytes, and if that is accepted too, there are two writings
module _ {A : Type 0} {write : A → List ℕ} {Within : A → Type 0} {l : List ℕ} {a : A} {m : List ℕ} (w : Written write Within l a m) where
  left_bytes : Bytes l → Bytes m
  left_bytes b = bytes_rest (write a) m (rw w.bytes at b)

  both_bytes : {B : Type 0} {write' : B → List ℕ} {Within' : B → Type 0} {b : B} {r : List ℕ} → Written write' Within' m b r → l ≡ (write a ++ write' b) ++ r
  both_bytes u = w.bytes ∙ rw (u.bytes, append_assoc)

-- ---- fields that share a number
pub record Joined {A : Type 0} (joined : A → ℕ) (Within : A → Type 0) (w : ℕ) (v : A) : Type 0 where
  pub number : w ≡ joined v
  pub within : Within v

pub record Packing {A : Type 0} (n : ℕ) (parts : ℕ → Outcome A) (joined : A → ℕ) (Within : A → Type 0) : Type 0 where
  pub back : (v : A) → Within v → parts (joined v) ≡ answer v
  pub small : (v : A) → Within v → joined v < 256 ^ n
  pub only : (w : ℕ) (v : A) → w < 256 ^ n → parts w ≡ answer v → Joined joined Within w v

taken_only : {A : Type 0} (o : Outcome A) (r : List ℕ) (v : A) (q : List ℕ) → taken o r ≡ got v q → (o ≡ answer v) × (r ≡ q)
taken_only (outcome.stop k) r v q e = absurd (let z : ◌≡◌ {A = ℕ} 0 1 = cc in omega arith)
taken_only (answer a) r v q e = let x : a ≡ v = cc in let y : r ≡ q = cc in (ap answer x, y)

pub packed_form : {A : Type 0} {n : ℕ} {parts : ℕ → Outcome A} {joined : A → ℕ} {Within : A → Type 0} → Packing n parts joined Within → Lawful (packed n parts joined Within)
packed_form {A} {n} {parts} {joined} {Within} p = record { back = back; only = only }
  where
    back : (v : A) (r : List ℕ) → Within v → (packed n parts joined Within).read (write_number n (joined v) ++ r) ≡ got v r
    back v r h = rw ((number_layout n).back (joined v) r (p.small v h), p.back v h)

    only : (l : List ℕ) (v : A) (r : List ℕ) → Bytes l → (packed n parts joined Within).read l ≡ got v r → Written (λ v. write_number n (joined v)) Within l v r
    only l v r b e =
        let c = came (read_number n l) _ v r e in
        let w = (number_layout n).only l c.value c.rest b c.first in
        let t = taken_only (parts c.value) c.rest v r c.second in
        let j = p.only c.value v w.within t.0 in
        record { bytes = w.bytes ∙ rw (j.number, t.1); within = j.within }

-- ---- fields one after another
pub seq_form : {A B : Type 0} {f : Form A} {g : A → Form B} → Lawful f → ((a : A) → Lawful (g a)) → Lawful (seq f g)
seq_form {A} {B} {f} {g} F G = record { back = back; only = only }
  where
    back : (v : A × B) (r : List ℕ) → Both f g v → (seq f g).read ((seq f g).write v ++ r) ≡ got v r
    back v r h = rw (append_assoc, F.back v.0 ((g v.0).write v.1 ++ r) h.first, (G v.0).back v.1 r h.second)

    only : (l : List ℕ) (v : A × B) (r : List ℕ) → Bytes l → (seq f g).read l ≡ got v r → Written (seq f g).write (Both f g) l v r
    only l v r b e =
        let c = came (f.read l) _ v r e in
        let w = F.only l c.value c.rest b c.first in
        let d = came ((g c.value).read c.rest) _ v r c.second in
        let u = (G c.value).only c.rest d.value d.rest (left_bytes w b) d.first in
        same_written d.second (record { bytes = both_bytes w u; within = record { first = w.within; second = u.within } })

-- ---- the same value by another name
pub named_form : {A B : Type 0} (to : A → B) (from : B → A) {f : Form A} → ((b : B) → to (from b) ≡ b) → ((a : A) → f.Within a → from (to a) ≡ a) → Lawful f → Lawful (named to from f)
named_form {A} {B} to from {f} again same F = record { back = back; only = only }
  where
    back : (v : B) (r : List ℕ) → f.Within (from v) → (named to from f).read (f.write (from v) ++ r) ≡ got v r
    back v r h = rw (F.back (from v) r h, again v)

    only : (l : List ℕ) (v : B) (r : List ℕ) → Bytes l → (named to from f).read l ≡ got v r → Written (named to from f).write (named to from f).Within l v r
    only l v r b e =
        let c = came (f.read l) _ v r e in
        let w = F.only l c.value c.rest b c.first in
        let s = same c.value w.within in
        same_written c.second (record { bytes = rw s w.bytes; within = rw s w.within })

-- ---- a field that is there if a flag says so
pub there_flag : {A : Type 0} {f : Form A} {flag : Bool} {o : Option A} → There f flag o → is_there o ≡ flag
there_flag absent = refl
there_flag (present h) = refl

optional_back : {A : Type 0} (f : Form A) → Lawful f → {flag : Bool} {v : Option A} → There f flag v → (r : List ℕ) → read_if f flag (write_if f v ++ r) ≡ got v r
unfolding read_if write_if
optional_back f F absent r = refl
optional_back f F (present {a} h) r = rw (F.back a r h)

optional_only : {A : Type 0} (f : Form A) → Lawful f → (flag : Bool) (l : List ℕ) (v : Option A) (r : List ℕ) → Bytes l → read_if f flag l ≡ got v r → Written (write_if f) (There f flag) l v r
unfolding read_if write_if
optional_only f F false l v r b e =
    same_written e (record { bytes = refl; within = absent })
optional_only f F true l v r b e =
    let c = came (f.read l) _ v r e in
    let w = F.only l c.value c.rest b c.first in
    same_written c.second (record { bytes = w.bytes; within = present w.within })

pub optional_form : {A : Type 0} {f : Form A} (flag : Bool) → Lawful f → Lawful (optional f flag)
optional_form {f = f} flag F =
    record { back = λ v r h. optional_back f F h r; only = λ l v r b e. optional_only f F flag l v r b e }

-- ---- n values, one after another
pub all_length : {A : Type 0} {f : Form A} {n : ℕ} {bs : List A} → All f n bs → length bs ≡ n
all_length none_left = refl
all_length (one_more h a) = ap suc (all_length a)

many_back : {A : Type 0} (f : Form A) → Lawful f → {n : ℕ} {bs : List A} → All f n bs → (r : List ℕ) → read_many f.read n (write_many f.write bs ++ r) ≡ got bs r
unfolding read_many write_many
many_back f F none_left r = refl
many_back f F (one_more {a} {n} {as'} h w) r = rw (append_assoc, F.back a (write_many f.write as' ++ r) h, many_back f F w r)

many_only : {A : Type 0} (f : Form A) → Lawful f → (n : ℕ) (l : List ℕ) (bs : List A) (r : List ℕ) → Bytes l → read_many f.read n l ≡ got bs r → Written (write_many f.write) (All f n) l bs r
unfolding read_many write_many
many_only f F zero l bs r b e =
    same_written e (record { bytes = refl; within = none_left })
many_only f F (suc n) l bs r b e =
    let c = came (f.read l) _ bs r e in
    let w = F.only l c.value c.rest b c.first in
    let d = came (read_many f.read n c.rest) _ bs r c.second in
    let u = many_only f F n c.rest d.value d.rest (left_bytes w b) d.first in
    same_written d.second (record { bytes = both_bytes w u; within = one_more w.within u.within })

pub many_form : {A : Type 0} {f : Form A} (n : ℕ) → Lawful f → Lawful (many f n)
many_form {f = f} n F =
    record { back = λ v r h. many_back f F h r; only = λ l v r b e. many_only f F n l v r b e }

-- a count, and as many values
pub counted_form : {A : Type 0} {count : Form ℕ} {f : Form A} → Lawful count → Lawful f → Lawful (counted count f)
counted_form {A} {count} {f} C F =
    named_form (λ p. p.1) (λ l. (length l, l)) (λ l. refl) same (seq_form C (λ n. many_form n F))
  where
    same : (p : ℕ × List A) → Both count (λ n. many f n) p → (length p.1, p.1) ≡ p
    same p h = rw (all_length h.second)

-- ---- what a reader of n values found
pub read_many_length : {A : Type 0} (f : List ℕ → Got A) (n : ℕ) (l : List ℕ) (bs : List A) (r : List ℕ) → read_many f n l ≡ got bs r → length bs ≡ n
unfolding read_many
read_many_length f zero l bs r e = let x : bs ≡ [] = cc in rw x
read_many_length f (suc n) l bs r e =
    let c = came (f l) _ bs r e in
    let d = came (read_many f n c.rest) _ bs r c.second in
    let x : bs ≡ c.value ∷ d.value = cc d.second in
    rw x (ap suc (read_many_length f n c.rest d.value d.rest d.first))

-- the first m of them, and the n after these
pub record ManySplit {A : Type 0} (f : List ℕ → Got A) (m n : ℕ) (l : List ℕ) (bs : List A) (r : List ℕ) : Type 0 where
  pub front : List A
  pub back : List A
  pub rest : List ℕ
  pub first : read_many f m l ≡ got front rest
  pub second : read_many f n rest ≡ got back r
  pub both : bs ≡ front ++ back

same_split : {A : Type 0} {f : List ℕ → Got A} {m n : ℕ} {l : List ℕ} {bs cs : List A} {q r : List ℕ} → got bs q ≡ got cs r → ManySplit f m n l bs q → ManySplit f m n l cs r
same_split {bs = bs} {cs = cs} {q = q} {r = r} e s =
    let x : cs ≡ bs = cc in
    let y : r ≡ q = cc in
    rw (x, y) s

one_ahead : {A : Type 0} {f : List ℕ → Got A} {m n : ℕ} {l q : List ℕ} {a : A} {bs : List A} {r : List ℕ} → f l ≡ got a q → ManySplit f m n q bs r → ManySplit f (suc m) n l (a ∷ bs) r
unfolding read_many
one_ahead {a = a} h s =
    record {
      front = a ∷ s.front;
      back = s.back;
      rest = s.rest;
      first = rw (h, s.first);
      second = s.second;
      both = ap (λ m. a ∷ m) s.both;
    }

pub many_split : {A : Type 0} (f : List ℕ → Got A) (m n : ℕ) (l : List ℕ) (bs : List A) (r : List ℕ) → read_many f (m + n) l ≡ got bs r → ManySplit f m n l bs r
unfolding read_many
many_split f zero n l bs r e = record { front = []; back = bs; rest = l; first = refl; second = rw zero-add at e; both = refl }
many_split f (suc m) n l bs r e =
    let c = came (f l) _ bs r (rw suc-add at e) in
    let d = came (read_many f (m + n) c.rest) _ bs r c.second in
    same_split d.second (one_ahead c.first (many_split f m n c.rest d.value d.rest d.first))
