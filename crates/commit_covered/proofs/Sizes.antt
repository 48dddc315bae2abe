-- A table takes at least 43 bytes, so a job of some length lists few outputs.
-- Assumes nothing.
use Prim.Native.Nat.{ℕ, zero, suc, ◌+◌, ◌-◌, ◌*◌, ◌≤◌}
use native.Mathlib.Omega.{arith}
use mathlib.Core.Path.{◌≡◌, refl, ap}
use mathlib.Core.Bool.{Bool, true, false}
use mathlib.Core.List.{List, [], ◌∷◌, flat_map}
use lib.Dec.{leb}
use lib.ListN.{length, drop, length-drop, length-append}
use borrow.Author.Tests.{leb-true}
use Rattle.base.specs.Pick.{pick}
use Rattle.base.specs.Outcome.{Outcome, answer}
use Rattle.base.specs.Outcome as outcome
use Rattle.comparable_range.specs.Range.{included, excluded}
use Rattle.comparable_range.specs.declared.Kind.{Kind}
use Rattle.comparable_range.specs.declared.Kind.TheVariants.{Unbounded, Included, Excluded}
use Rattle.format.specs.Got.{Got, got, stop, and_then}
use Rattle.format.specs.Number.{read_number}
use Rattle.format.specs.Key.{read_bytes, read_key}
use Rattle.format.specs.Range.{read_bound, read_range, headed, head_of}
use Rattle.format.specs.declared.range.Head.{Head}
use Rattle.format.specs.declared.range.Head.TheVariants.{Kinds, Stop as HeadStop}
use Rattle.format.proofs.Layouts.{came}
use Rattle.records.specs.Form.{Form, number, key, taken, seq, read_if, read_many, many}
use Rattle.records.specs.Values.{Table, Part, Job}
use Rattle.records.specs.Layouts.{flag_of, flag, count_of, up_to, outputs_of, output_count, counted, table_of, table, part_of, part, job}
use Rattle.incremental_progress.specs.Jobs.{outputs}
use Rattle.commit_durable.specs.Tables.{job_got, job_of}

-- what a reader finds takes so many bytes, or more
abbrev Takes : {A : Type 0} → (List ℕ → Got A) → (A → ℕ) → Type 0
Takes {A} f c = (l : List ℕ) (a : A) (r : List ℕ) → f l ≡ got a r → c a + length r ≤ length l

conflict : {A : Type 0} {P : Type 0} {a : A} {r : List ℕ} {k : ℕ} → ◌≡◌ {A = Got A} (stop k) (got a r) → P
conflict e = absurd (let z : ◌≡◌ {A = ℕ} 0 1 = cc in omega arith)

-- n bytes
front_takes : {A : Type 0} (n : ℕ) (v a : A) (l r : List ℕ) (b : Bool) → leb n (length l) ≡ b → pick b (got v (drop n l)) (stop 1) ≡ got a r → n + length r ≤ length l
front_takes n v a l r true e f =
    let z : drop n l ≡ r = cc in
    let h : n ≤ length l = leb-true n (length l) e in
    let k : length r ≡ length l - n = rw (← z) (length-drop n l) in
    omega (arith, h, k)
front_takes n v a l r false e f = conflict f

number_takes : (n : ℕ) → Takes (read_number n) (λ v. n)
unfolding read_number
number_takes n l a r e = front_takes n _ a l r (leb n (length l)) refl e

bytes_takes : (n : ℕ) → Takes (read_bytes n) (λ v. n)
unfolding read_bytes
bytes_takes n l a r e = front_takes n _ a l r (leb n (length l)) refl e

key_takes : Takes read_key (λ k. 2)
unfolding read_key
key_takes l a r e =
    let c = came (read_number 2 l) _ a r e in
    let h = number_takes 2 l c.value c.rest c.first in
    go c.value c.rest (leb c.value 1024) c.second h
  where
    go : (n : ℕ) (m : List ℕ) (b : Bool) → pick b (read_bytes n m) (stop 3) ≡ got a r → 2 + length m ≤ length l → 2 + length r ≤ length l
    go n m true f h = omega (arith, h, bytes_takes n m a r f)
    go n m false f h = conflict f

bound_takes : (k : Kind) → Takes (read_bound k) (λ b. 0)
unfolding read_bound
bound_takes Unbounded l a r e = let z : l ≡ r = cc in rw z (omega arith)
bound_takes Included l a r e =
    let c = came (read_key l) (λ k r. got (included k) r) a r e in
    let z : c.rest ≡ r = cc in
    omega (arith, key_takes l c.value c.rest c.first, ap length z)
bound_takes Excluded l a r e =
    let c = came (read_key l) (λ k r. got (excluded k) r) a r e in
    let z : c.rest ≡ r = cc in
    omega (arith, key_takes l c.value c.rest c.first, ap length z)

range_takes : Takes read_range (λ q. 0)
unfolding read_range
range_takes [] a r e = conflict e
range_takes (b ∷ l) a r e = go (head_of b) e
  where
    go : (h : Head) → headed h l ≡ got a r → 0 + length r ≤ length (b ∷ l)
    go (HeadStop n) e = conflict e
    go (Kinds ks ke) e =
        let c = came (read_bound ks l) _ a r e in
        let d = came (read_bound ke c.rest) _ a r c.second in
        let z : d.rest ≡ r = cc in
        omega (arith, bound_takes ks l c.value c.rest c.first, bound_takes ke c.rest d.value d.rest d.first, ap length z)

-- ---- one after another
packed_takes : {A : Type 0} (n : ℕ) (parts : ℕ → Outcome A) → Takes (λ l. and_then (read_number n l) (λ w r. taken (parts w) r)) (λ a. n)
packed_takes {A} n parts l a r e =
    let c = came (read_number n l) _ a r e in
    go c.rest (parts c.value) c.second (number_takes n l c.value c.rest c.first)
  where
    go : (m : List ℕ) (o : Outcome A) → taken o m ≡ got a r → n + length m ≤ length l → n + length r ≤ length l
    go m (answer b) e h = let z : m ≡ r = cc in rw (← z) h
    go m (outcome.stop k) e h = conflict e

seq_takes :
    {A B : Type 0} (f : List ℕ → Got A) (g : A → List ℕ → Got B) (c : A → ℕ) (d : B → ℕ)
    → Takes f c
    → ((a : A) → Takes (g a) d)
    → Takes {A = A × B} (λ l. and_then (f l) (λ a r. and_then (g a r) (λ b q. got (a, b) q))) (λ p. c p.0 + d p.1)
seq_takes f g c d hf hg l p r e =
    let x = came (f l) _ p r e in
    let y = came (g x.value x.rest) _ p r x.second in
    let z : p ≡ (x.value, y.value) = cc in
    let w : y.rest ≡ r = cc in
    omega (arith, ap (λ q. c q.0 + d q.1) z, hf l x.value x.rest x.first, hg x.value x.rest y.value y.rest y.first, ap length w)

named_takes : {A B : Type 0} (to : A → B) (f : List ℕ → Got A) (c : A → ℕ) (d : B → ℕ) → Takes f c → ((a : A) → d (to a) ≤ c a) → Takes (λ l. and_then (f l) (λ a r. got (to a) r)) d
named_takes to f c d hf le l b r e =
    let x = came (f l) _ b r e in
    let z : b ≡ to x.value = cc in
    let w : x.rest ≡ r = cc in
    omega (arith, ap d z, le x.value, hf l x.value x.rest x.first, ap length w)

optional_takes : {A : Type 0} (f : Form A) (c : A → ℕ) (b : Bool) → Takes f.read c → Takes (read_if f b) (λ o. 0)
unfolding read_if
optional_takes f c false h l a r e = let z : l ≡ r = cc in rw z (omega arith)
optional_takes f c true h l a r e =
    let x = came (f.read l) _ a r e in
    let w : x.rest ≡ r = cc in
    omega (arith, h l x.value x.rest x.first, ap length w)

sum : {A : Type 0} → (A → ℕ) → List A → ℕ
sum c [] = 0
sum c (a ∷ bs) = c a + sum c bs

many_takes : {A : Type 0} (f : List ℕ → Got A) (c : A → ℕ) (n : ℕ) → Takes f c → Takes (read_many f n) (sum c)
unfolding read_many sum
many_takes f c zero h l a r e =
    let z : l ≡ r = cc in
    let w : [] ≡ a = cc in
    rw (z, ← w) (omega arith)
many_takes f c (suc n) h l a r e =
    let x = came (f l) _ a r e in
    let y = came (read_many f n x.rest) _ a r x.second in
    let z : a ≡ x.value ∷ y.value = cc in
    let w : y.rest ≡ r = cc in
    omega (arith, ap (sum c) z, h l x.value x.rest x.first, many_takes f c n h x.rest y.value y.rest y.first, ap length w)

counted_takes : {A : Type 0} (count : Form ℕ) (f : Form A) (k : ℕ) (c : A → ℕ) → Takes count.read (λ n. k) → Takes f.read c → Takes (counted count f).read (sum c)
counted_takes count f k c hc hf =
    named_takes (λ p. p.1) (seq count (λ n. many f n)).read (λ p. k + sum c p.1) (sum c)
    (seq_takes count.read (λ n. read_many f.read n) (λ n. k) (sum c) hc (λ n. many_takes f.read c n hf)) (λ p. omega arith)

-- ---- the layouts
table_takes : Takes table.read (λ t. 43)
unfolding table
table_takes =
    named_takes table_of _ (λ p. 16 + (8 + (8 + (8 + (1 + (2 + 0)))))) (λ t. 43)
    (seq_takes (read_bytes 16) _ (λ a. 16) (λ a. 8 + (8 + (8 + (1 + (2 + 0))))) (bytes_takes 16) (λ id.
    seq_takes (read_number 8) _ (λ a. 8) (λ a. 8 + (8 + (1 + (2 + 0)))) (number_takes 8) (λ offset.
    seq_takes (read_number 8) _ (λ a. 8) (λ a. 8 + (1 + (2 + 0))) (number_takes 8) (λ len.
    seq_takes (read_number 8) _ (λ a. 8) (λ a. 1 + (2 + 0)) (number_takes 8) (λ filter.
    seq_takes flag.read _ (λ a. 1) (λ a. 2 + 0) (packed_takes 1 flag_of) (λ f.
    seq_takes read_key _ (λ a. 2) (λ a. 0) key_takes (λ first. optional_takes key (λ k. 2) f key_takes)))))))
    (λ p. omega arith)

abbrev part_size : Part → ℕ
part_size p = sum (λ (t : Table). 43) p.outputs

part_takes : Takes part.read part_size
unfolding part
part_takes =
    named_takes part_of _ (λ p. 0 + (2 + sum (λ (t : Table). 43) p.1.1)) part_size
    (seq_takes read_range _ (λ q. 0) (λ p. 2 + sum (λ (t : Table). 43) p.1) range_takes (λ q.
    seq_takes output_count.read _ (λ h. 2) (sum (λ (t : Table). 43)) (packed_takes 2 outputs_of) (λ h. many_takes table.read (λ t. 43) h.1 table_takes)))
    (λ p. omega arith)

job_takes : Takes job.read (λ j. sum part_size j.parts)
unfolding job
job_takes =
    named_takes _ _ (λ p. 4 + (sum (λ (n : ℕ). 4) p.1.0 + sum part_size p.1.1)) (λ j. sum part_size j.parts)
    (seq_takes (read_number 4) _ (λ n. 4) (λ p. sum (λ (n : ℕ). 4) p.0 + sum part_size p.1) (number_takes 4) (λ destination.
    seq_takes (counted (up_to 1 64) (number 4)).read _ (sum (λ (n : ℕ). 4)) (sum part_size)
    (counted_takes (up_to 1 64) (number 4) 1 (λ n. 4) (packed_takes 1 (count_of 64)) (number_takes 4))
    (λ sources. counted_takes (up_to 1 64) part 1 part_size (packed_takes 1 (count_of 64)) part_takes)))
    (λ p. omega arith)

-- ---- the outputs
table_sizes : (ts : List Table) → sum (λ (t : Table). 43) ts ≡ length ts * 43
unfolding sum
table_sizes [] = refl
table_sizes (t ∷ ts) = rw (table_sizes ts) (omega arith)

part_sizes : (ps : List Part) → sum part_size ps ≡ length (outputs ps) * 43
unfolding sum flat_map
part_sizes [] = refl
part_sizes (p ∷ ps) = rw (table_sizes p.outputs, part_sizes ps, length-append p.outputs (outputs ps)) (omega arith)

-- A job lists no more outputs than tables of 43 bytes would fill it.
pub few_outputs : (s : List ℕ) → length (outputs (job_of s).parts) * 43 ≤ length s
unfolding flat_map
few_outputs s = go (job.read s) refl
  where
    go : (g : Got Job) → job.read s ≡ g → length (outputs (job_got g).parts) * 43 ≤ length s
    go (got j r) e = omega (arith, part_sizes j.parts, job_takes s j r e)
    go (stop k) e = omega arith
