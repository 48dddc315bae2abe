-- The walk over an index group by group, and how long an index is at least.
-- Assumes nothing.
use Prim.Native.Nat.{ℕ, zero, suc, ◌+◌, ◌*◌, ◌-◌, ◌<◌, ◌≤◌}
use native.Mathlib.Omega.{arith}
use mathlib.Core.Path.{◌≡◌, refl, sym, ap, ◌∙◌}
use mathlib.Core.List.{List, [], ◌∷◌}
use lib.ListN.{length, drop, length-drop}
use lib.Dec.{leb}
use borrow.Author.Tests.{leb-true}
use Rattle.format.specs.Got.{got}
use Rattle.format.specs.Number.{read_number}
use Rattle.format.specs.Key.{read_key, read_bytes}
use Rattle.format.proofs.Layouts.{came, passed}
use Rattle.records.specs.Form.{number, key, seq, read_many}
use Rattle.records.specs.Values.{Block, Index}
use Rattle.records.specs.Layouts.{block, index}
use Rattle.records.proofs.Forms.{read_many_length}
use Rattle.records.proofs.BlockExits.{index_is}
use Rattle.subcompaction.specs.Anchors.{beginning, groups}

-- ---- group by group
groups_past : (data_end n rest : ℕ) (x : Index) → groups data_end n rest x ≡ groups data_end n 0 (drop rest x)
unfolding groups
groups_past data_end n zero x = refl
groups_past data_end n (suc rest) [] = refl
groups_past data_end n (suc rest) (b ∷ bs) = groups_past data_end n rest bs

pub groups_step :
    (data_end n : ℕ) (b : Block) (bs : Index)
    → 0 < n
    → groups data_end n 0 (b ∷ bs)
    ≡ record { key = b.first; bytes = beginning data_end (drop n (b ∷ bs)) - b.offset } ∷ groups data_end n 0 (drop n (b ∷ bs))
unfolding groups
groups_step data_end zero b bs h = absurd (omega arith)
groups_step data_end (suc n) b bs h =
    let z : suc n - 1 ≡ n = omega arith in
    rw (z, groups_past data_end (suc n) n bs)

pub groups_none : (data_end n : ℕ) → groups data_end n 0 [] ≡ []
unfolding groups
groups_none data_end n = refl

-- ---- each block has ten bytes and its key's
number_takes : (n : ℕ) (l : List ℕ) (v : ℕ) (r : List ℕ) → read_number n l ≡ got v r → length r + n ≡ length l
unfolding read_number
number_takes n l v r e =
    let p = passed (leb n (length l)) _ 1 v r e in
    let z : drop n l ≡ r = cc p.1 in
    rw (← z, length-drop) (omega (arith, leb-true n (length l) p.0))

bytes_take : (n : ℕ) (l k r : List ℕ) → read_bytes n l ≡ got k r → length r + n ≡ length l
unfolding read_bytes
bytes_take n l k r e =
    let p = passed (leb n (length l)) _ 1 k r e in
    let z : drop n l ≡ r = cc p.1 in
    rw (← z, length-drop) (omega (arith, leb-true n (length l) p.0))

key_takes : (l k r : List ℕ) → read_key l ≡ got k r → length r + 2 ≤ length l
unfolding read_key
key_takes l k r e =
    let c = came (read_number 2 l) _ k r e in
    let p = passed (leb c.value 1024) _ 3 k r c.second in
    omega (arith, number_takes 2 l c.value c.rest c.first, bytes_take c.value c.rest k r p.1)

pub block_is_long : (l : List ℕ) (b : Block) (r : List ℕ) → block.read l ≡ got b r → length r + 10 ≤ length l
unfolding block
block_is_long l b r e =
    let c = came ((seq (number 8) (λ offset. key)).read l) _ b r e in
    let d = came (read_number 8 l) _ c.value c.rest c.first in
    let f = came (read_key d.rest) _ c.value c.rest d.second in
    let y : f.rest ≡ c.rest = cc f.second in
    let z : c.rest ≡ r = cc c.second in
    omega (
      arith,
      number_takes 8 l d.value d.rest d.first,
      key_takes d.rest f.value f.rest f.first,
      ap length y,
      ap length z,
    )

pub blocks_are_long : (n : ℕ) (l : List ℕ) (x : Index) (r : List ℕ) → read_many block.read n l ≡ got x r → length r + n * 10 ≤ length l
unfolding read_many
blocks_are_long zero l x r e = let z : l ≡ r = cc in omega (arith, ap length z)
blocks_are_long (suc n) l x r e =
    let c = came (block.read l) _ x r e in
    let d = came (read_many block.read n c.rest) _ x r c.second in
    let z : d.rest ≡ r = cc d.second in
    omega (
      arith,
      block_is_long l c.value c.rest c.first,
      blocks_are_long n c.rest d.value d.rest d.first,
      ap length z,
    )

pub index_is_long : (l : List ℕ) (x : Index) (r : List ℕ) → index.read l ≡ got x r → length x * 10 + 2 + length r ≤ length l
index_is_long l x r e =
    let c = came (read_number 2 l) _ x r (sym (index_is l) ∙ e) in
    omega (
      arith,
      number_takes 2 l c.value c.rest c.first,
      blocks_are_long c.value c.rest x r c.second,
      read_many_length block.read c.value c.rest x r c.second,
    )
