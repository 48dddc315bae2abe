-- A job has at most 64 parts, and a part at most 1,024 outputs.
-- Assumes nothing.
use Prim.Native.Nat.{ℕ, ◌/◌, ◌%◌, ◌≤◌}
use native.Mathlib.Omega.{arith}
use mathlib.Core.Path.{◌≡◌, refl, subst}
use mathlib.Core.Bool.{Bool, true, false}
use mathlib.Core.List.{List}
use lib.Dec.{leb, eqb}
use borrow.Author.Tests.{leb-true}
use Rattle.base.specs.Outcome.{answer, check}
use Rattle.comparable_range.specs.Range.{Range}
use Rattle.format.specs.Got.{Got, got, stop, and_then}
use Rattle.format.specs.Number.{read_number}
use Rattle.records.specs.Form.{Form, number, range, seq, taken}
use Rattle.records.specs.Layouts.{up_to, count_of, outputs_of, output_count}
use Rattle.records.specs.Spans.{sources, part_head, job_head}

-- what the second of two fields is, whatever stands before it
second_of :
    {A B : Type 0} (f : Form A) (g : A → Form B) (P : B → Type 0)
    → ((a : A) (l r : List ℕ) (b : B) → (g a).read l ≡ got b r → P b)
    → (l r : List ℕ) (p : A × B)
    → (seq f g).read l ≡ got p r
    → P p.1
second_of {A} {B} f g P h l r p e = go (f.read l) e
  where
    then : (a : A) (y : Got B) → ((z : List ℕ) (b : B) → y ≡ got b z → P b) → and_then y (λ b q. got (a, b) q) ≡ got p r → P p.1
    then a (got b z) k e = let w : (a, b) ≡ p = cc in subst (λ (x : A × B). P x.1) w (k z b refl)
    then a (stop k) j e = absurd (let z : ◌≡◌ {A = ℕ} 0 1 = cc in omega arith)

    go : (x : Got A) → and_then x (λ a q. and_then ((g a).read q) (λ b q. got (a, b) q)) ≡ got p r → P p.1
    go (got a q) e = then a ((g a).read q) (λ z b. h a q z b) e
    go (stop k) e = absurd (let z : ◌≡◌ {A = ℕ} 0 1 = cc in omega arith)

count_within : (m : ℕ) (g : Got ℕ) (n : ℕ) (r : List ℕ) → and_then g (λ w l. taken (count_of m w) l) ≡ got n r → n ≤ m
unfolding count_of
count_within m (got w l) n r e = tested (leb w m) refl e
  where
    tested : (b : Bool) → leb w m ≡ b → taken (check 3 b (answer w)) l ≡ got n r → n ≤ m
    tested true q e = let z : w ≡ n = cc in rw z at (leb-true w m q)
    tested false q e = absurd (let z : ◌≡◌ {A = ℕ} 0 1 = cc in omega arith)
count_within m (stop k) n r e = absurd (let z : ◌≡◌ {A = ℕ} 0 1 = cc in omega arith)

pub parts_within : (l r : List ℕ) (p : ℕ × (List ℕ × ℕ)) → job_head.read l ≡ got p r → p.1.1 ≤ 64
parts_within l r p e =
    second_of (number 4) (λ d. seq sources (λ ids. up_to 1 64)) (λ q. q.1 ≤ 64)
    (λ d l r q. second_of sources (λ ids. up_to 1 64) (λ n. n ≤ 64) (λ ids l r n. count_within 64 (read_number 1 l) n r) l r q)
    l r p e

word_within : (g : Got ℕ) (h : Bool × ℕ) (r : List ℕ) → and_then g (λ w l. taken (outputs_of w) l) ≡ got h r → h.1 ≤ 1024
unfolding outputs_of
word_within (got w l) h r e = tested (leb (w % 32768) 1024) refl e
  where
    tested : (b : Bool) → leb (w % 32768) 1024 ≡ b → taken (check 3 b (answer (eqb (w / 32768) 1, w % 32768))) l ≡ got h r → h.1 ≤ 1024
    tested true q e =
        let z : (eqb (w / 32768) 1, w % 32768) ≡ h = cc in
        subst (λ (x : Bool × ℕ). x.1 ≤ 1024) z (leb-true (w % 32768) 1024 q)
    tested false q e = absurd (let z : ◌≡◌ {A = ℕ} 0 1 = cc in omega arith)
word_within (stop k) h r e = absurd (let z : ◌≡◌ {A = ℕ} 0 1 = cc in omega arith)

pub outputs_within : (l r : List ℕ) (p : Range × (Bool × ℕ)) → part_head.read l ≡ got p r → p.1.1 ≤ 1024
outputs_within l r p e = second_of range (λ a. output_count) (λ h. h.1 ≤ 1024) (λ a l r h. word_within (read_number 2 l) h r) l r p e
