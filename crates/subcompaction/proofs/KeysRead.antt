-- What was read has keys of at most 1,024 bytes, whatever the bytes are; and values with such keys read back.
-- Assumes nothing.
use Prim.Native.Nat.{ℕ, zero, suc, ◌≤◌}
use native.Mathlib.Omega.{arith}
use mathlib.Core.Path.{◌≡◌, sym, ap, ◌∙◌}
use mathlib.Core.List.{List, [], ◌∷◌, append-nil}
use lib.ListN.{length}
use lib.Dec.{leb}
use borrow.Author.Tests.{leb-true}
use Rattle.base.specs.Lists.{All}
use Rattle.base.specs.Outcome.{answer}
use Rattle.key.specs.Order.{Key}
use Rattle.comparable_range.specs.Range.{Bound, unbounded, included}
use Rattle.format.specs.Got.{Got, got}
use Rattle.format.specs.Number.{read_number}
use Rattle.format.specs.Key.{read_bytes, read_key}
use Rattle.format.specs.Whole.{ended}
use Rattle.format.specs.Laws.{KeyWithin, BoundWithin, RangeWithin}
use Rattle.format.proofs.Layouts.{came, passed, bytes_only}
use Rattle.records.specs.Form.{Form, number, range, read_many}
use Rattle.records.specs.Values.{Block, Index, Anchor, Anchors}
use Rattle.records.specs.Layouts.{up_to, counted, block, index, anchor, anchors, plan}
use Rattle.records.specs.Laws.{Lawful}
use Rattle.records.proofs.Within.{many_of_all}
use Rattle.subcompaction.specs.Boundaries.{ranges_from}

-- ---- what was read
key_read : (l : List ℕ) (k : Key) (r : List ℕ) → read_key l ≡ got k r → KeyWithin k
unfolding read_key
key_read l k r e =
    let c = came (read_number 2 l) _ k r e in
    let p = passed (leb c.value 1024) (read_bytes c.value c.rest) 3 k r c.second in
    let s = bytes_only c.value c.rest k r p.1 in
    omega (arith, s.long, leb-true c.value 1024 p.0)

pub many_read : {A : Type 0} (P : A → Type 0) (f : List ℕ → Got A) → ((l : List ℕ) (a : A) (r : List ℕ) → f l ≡ got a r → P a) → (n : ℕ) (l : List ℕ) (bs : List A) (r : List ℕ) → read_many f n l ≡ got bs r → All P bs
unfolding read_many
many_read P f each zero l bs r e = let x : bs ≡ [] = cc in rw x tt
many_read P f each (suc n) l bs r e =
    let c = came (f l) _ bs r e in
    let d = came (read_many f n c.rest) _ bs r c.second in
    let x : bs ≡ c.value ∷ d.value = cc d.second in
    rw x (each l c.value c.rest c.first, many_read P f each n c.rest d.value d.rest d.first)

counted_read : {A : Type 0} (P : A → Type 0) (count : Form ℕ) (f : Form A) → ((l : List ℕ) (a : A) (r : List ℕ) → f.read l ≡ got a r → P a) → (l : List ℕ) (bs : List A) (r : List ℕ) → (counted count f).read l ≡ got bs r → All P bs
counted_read P count f each l bs r e =
    let c = came _ _ bs r e in
    let d = came (count.read l) _ c.value c.rest c.first in
    let g = came (read_many f.read d.value d.rest) _ c.value c.rest d.second in
    let x : bs ≡ g.value = cc (c.second, g.second) in
    rw x (many_read P f.read each d.value d.rest g.value g.rest g.first)

anchor_read_lem : (l : List ℕ) (a : Anchor) (r : List ℕ) → anchor.read l ≡ got a r → KeyWithin a.key
unfolding anchor
anchor_read_lem l a r e =
    let c = came _ _ a r e in
    let d = came (read_key l) _ c.value c.rest c.first in
    let f = came (read_number 8 d.rest) _ c.value c.rest d.second in
    let x : a.key ≡ d.value = cc (c.second, f.second) in
    rw x (key_read l d.value d.rest d.first)

pub anchors_read : (l : List ℕ) (a : Anchors) (r : List ℕ) → anchors.read l ≡ got a r → All (λ x. KeyWithin x.key) a
unfolding anchors
anchors_read l a r e = counted_read (λ x. KeyWithin x.key) (up_to 2 4096) anchor anchor_read_lem l a r e

block_read : (l : List ℕ) (b : Block) (r : List ℕ) → block.read l ≡ got b r → KeyWithin b.first
unfolding block
block_read l b r e =
    let c = came _ _ b r e in
    let d = came (read_number 8 l) _ c.value c.rest c.first in
    let f = came (read_key d.rest) _ c.value c.rest d.second in
    let x : b.first ≡ f.value = cc (c.second, f.second) in
    rw x (key_read d.rest f.value f.rest f.first)

pub index_read : (l : List ℕ) (x : Index) (r : List ℕ) → index.read l ≡ got x r → All (λ b. KeyWithin b.first) x
unfolding index
index_read l x r e = counted_read (λ b. KeyWithin b.first) (number 2) block block_read l x r e

-- ---- what reads back
-- what is within the ceilings reads back from its bytes, to their end
pub reads_back : {A : Type 0} {f : Form A} → Lawful f → (v : A) → f.Within v → ended (f.read (f.write v)) ≡ answer v
reads_back {f = f} F v w = ap (λ l. ended (f.read l)) (sym (append-nil (f.write v))) ∙ ap ended (F.back v [] w)

ranges_within : (s : Bound) (ks : List Key) → BoundWithin s → All KeyWithin ks → All RangeWithin (ranges_from s ks)
unfolding ranges_from
ranges_within s [] h a = (record { start = h; end = tt }, tt)
ranges_within s (k ∷ ks) h a = (record { start = h; end = a.0 }, ranges_within (included k) ks a.0 a.1)

pub plan_within : (ks : List Key) → length (ranges_from unbounded ks) ≤ 64 → All KeyWithin ks → plan.Within (ranges_from unbounded ks)
unfolding plan
plan_within ks n a = record { first = n; second = many_of_all range (ranges_from unbounded ks) (ranges_within unbounded ks tt a) }

pub anchors_within : (a : Anchors) → length a ≤ 4096 → All anchor.Within a → anchors.Within a
unfolding anchors
anchors_within a n w = record { first = n; second = many_of_all anchor a w }
