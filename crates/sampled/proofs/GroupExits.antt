-- The exits of `stride`, `beginning` and `group_there`: the first of the blocks that are left, and those after its group.
-- Assumes nothing.
use Prim.Native.Nat.{ℕ, zero, suc, ◌+◌, ◌-◌, ◌/◌, ◌%◌, ◌<◌, ◌≤◌, max, min}
use native.Mathlib.Omega.{arith}
use native.Mathlib.Nat.{max_comm, min_comm}
use mathlib.Core.Path.{◌≡◌, refl, sym, ap, ◌∙◌}
use mathlib.Core.List.{List, ◌∷◌, ◌++◌}
use lib.ListN.{length, drop, length-drop}
use lib.Seq.{drop_at}
use Rattle.std.specs.Int.{div_ceil}
use Rattle.std.proofs.lemmas.Grind.{div_ceil_times}
use Rattle.std.proofs.lemmas.List.{drop_min}
use lib.Dec.{T}
use Rattle.key.specs.Order.{Key}
use Rattle.format.specs.Got.{Got, got, stop, and_then, is_got}
use Rattle.format.specs.Number.{read_number}
use Rattle.format.specs.Key.{read_key}
use Rattle.format.proofs.Layouts.{came}
use Rattle.records.specs.Form.{number, key, seq, read_many}
use Rattle.records.specs.Found.{values_of}
use Rattle.records.specs.Values.{Block}
use Rattle.records.specs.Layouts.{block}
use Rattle.records.specs.There.{BlockThere, Past}
use Rattle.records.specs.declared.there.BlockSpan.{BlockSpan}
use Rattle.records.proofs.Forms.{read_many_length, many_split}
use Rattle.records.proofs.ThereExits.{block_room}
use Rattle.key_rows.specs.Rows.{key_there}
use Rattle.subcompaction.specs.Anchors.{stride, beginning}
use Rattle.sampled.specs.Groups.{GroupThere}
use Rattle.sampled.proofs.SampleSizes.{block_is_long, blocks_are_long}

-- ---- stride
pub stride_is : (most blocks : ℕ) → div_ceil blocks (max most 1) ≡ stride most blocks
unfolding stride
stride_is most blocks = rw (max_comm most 1) (up blocks (max 1 most) (omega arith))
  where
    up : (a b : ℕ) → 0 < b → a / b + min 1 (a % b) ≡ (a + (b - 1)) / b
    up a b h = grind (arith, div_ceil_times)

-- ---- the first of some values that are there
record FirstOf {A : Type 0} (f : List ℕ → Got A) (n : ℕ) (l : List ℕ) : Type 0 where
  value : A
  next : List ℕ
  others : List A
  rest : List ℕ
  one : f l ≡ got value next
  after : read_many f (n - 1) next ≡ got others rest
  all : read_many f n l ≡ got (value ∷ others) rest

first_one : {A : Type 0} (f : List ℕ → Got A) (n : ℕ) (l : List ℕ) → T (is_got (read_many f (suc n) l)) → FirstOf f (suc n) l
unfolding read_many
first_one {A} f n l t = go (f l) refl t
  where
    back : (a : A) (r : List ℕ) (g : Got (List A)) → f l ≡ got a r → read_many f n r ≡ g → T (is_got (and_then g (λ bs q. got (a ∷ bs) q))) → FirstOf f (suc n) l
    back a r (got bs q) e w t =
        let z : suc n - 1 ≡ n = omega arith in
        record { value = a; next = r; others = bs; rest = q; one = e; after = rw z w; all = rw (e, w) }
    back a r (stop k) e w t = absurd t

    go : (g : Got A) → f l ≡ g → T (is_got (and_then g (λ a r. and_then (read_many f n r) (λ bs q. got (a ∷ bs) q)))) → FirstOf f (suc n) l
    go (got a r) e t = back a r (read_many f n r) e refl t
    go (stop k) e t = absurd t

first_of : {A : Type 0} (f : List ℕ → Got A) (n : ℕ) (l : List ℕ) → 0 < n → T (is_got (read_many f n l)) → FirstOf f n l
first_of f zero l h t = absurd (omega arith)
first_of f (suc n) l h t = first_one f n l t

-- ---- beginning
offset_of : (l : List ℕ) (b : Block) (r m : List ℕ) (o : ℕ) → block.read l ≡ got b r → read_number 8 l ≡ got o m → b.offset ≡ o
unfolding block
offset_of l b r m o e f =
    let c = came ((seq (number 8) (λ offset. key)).read l) _ b r e in
    let d = came (read_number 8 l) _ c.value c.rest c.first in
    let g = came (read_key d.rest) _ c.value c.rest d.second in
    let x : record { offset = c.value.0; first = c.value.1 } ≡ b = cc c.second in
    let y : (d.value, g.value) ≡ c.value = cc g.second in
    let z : d.value ≡ o = cc (d.first, f) in
    sym (ap (λ (b : Block). b.offset) x) ∙ sym (ap (λ (p : ℕ × Key). p.0) y) ∙ z

some : (left : ℕ) → (left ≡ 0 → ⊥) → 0 < left
some zero h = absurd (h refl)
some (suc n) h = omega arith

pub data_end_lem : (s : List ℕ) (at left data_end : ℕ) → left ≡ 0 → data_end ≡ beginning data_end (values_of (read_many block.read left (drop at s)))
unfolding read_many
data_end_lem s at left data_end e = rw e

module _ (s : List ℕ) (at left : ℕ) (h : left ≡ 0 → ⊥) (t : T (is_got (read_many block.read left (drop at s)))) where
  here : FirstOf block.read left (drop at s)
  here = first_of block.read left (drop at s) (some left h) t

  pub offset_there : at + 8 ≤ length s
  offset_there = block_room s at (rw here.one tt)

  pub next_offset : (data_end : ℕ) {o : ℕ} → read_number 8 (drop at s) ≡ got o (drop (at + 8) s) → o ≡ beginning data_end (values_of (read_many block.read left (drop at s)))
  next_offset data_end {o} e =
      rw here.all (sym (offset_of (drop at s) here.value here.next (drop (at + 8) s) o here.one e))

pub ruleset beginning_exits = (data_end_lem, offset_there, next_offset)

-- ---- group_there
-- the n values at the front of some that are there, and the others
record Cut {A : Type 0} (f : List ℕ → Got A) (l : List ℕ) (left n : ℕ) (a : A) (m : List ℕ) : Type 0 where
  front : List A
  back : List A
  middle : List ℕ
  rest : List ℕ
  first : read_many f (n - 1) m ≡ got front middle
  second : read_many f (left - n) middle ≡ got back rest
  all : read_many f left l ≡ got (a ∷ (front ++ back)) rest

read_from : {A : Type 0} (f : List ℕ → Got A) {j k : ℕ} {l m : List ℕ} {g : Got (List A)} → j ≡ k → l ≡ m → read_many f j l ≡ g → read_many f k m ≡ g
read_from f {j} {k} {l} {m} x y w = sym (ap (λ i. read_many f i l) x ∙ ap (read_many f k) y) ∙ w

cut : {A : Type 0} (f : List ℕ → Got A) (l : List ℕ) (left n : ℕ) (a : A) (m : List ℕ) → 0 < n → n ≤ left → f l ≡ got a m → T (is_got (read_many f left l)) → Cut f l left n a m
cut f l left n a m p q e t =
    let x = first_of f left l (omega arith) t in
    let y : x.value ≡ a = cc (e, x.one) in
    let z : x.next ≡ m = cc (e, x.one) in
    let w : left - 1 ≡ n - 1 + (left - n) = omega arith in
    let c = many_split f (n - 1) (left - n) m x.others x.rest (read_from f w z x.after) in
    record {
      front = c.front;
      back = c.back;
      middle = c.rest;
      rest = x.rest;
      first = c.first;
      second = c.second;
      all = x.all ∙ ap (λ bs. got bs x.rest) (ap (λ v. v ∷ x.others) y ∙ ap (λ bs. a ∷ bs) c.both);
    }

module _ (s : List ℕ) (at left step : ℕ) {n : ℕ} (t : T (is_got (read_many block.read left (drop at s)))) (p : 0 < left) (u : 0 < step) (e : n ≡ min left step) where
  pub group_within : n ≤ left
  group_within = omega arith

  pub group_some : 1 ≤ n
  group_some = omega arith

  pub first_there : T (is_got (block.read (drop at s)))
  first_there = rw (first_of block.read left (drop at s) p t).one tt

  module _ {b : BlockSpan} (x : BlockThere s (block.read (drop at s)) b) where
    abbrev b' : Block
    b' = record { offset = b.offset; first = x.first }

    parts : Cut block.read (drop at s) left n b' (drop b.past s)
    parts = cut block.read (drop at s) left n b' (drop b.past s) group_some group_within x.meaning t

    pub past_first : b.past ≤ length s
    past_first = x.inside

    pub others_there : T (is_got (read_many block.read (n - 1) (drop b.past s)))
    others_there = rw parts.first tt

    module _ {m : ℕ} (y : Past s (read_many block.read (n - 1) (drop b.past s)) m) where
      pub past_group : m ≤ length s
      past_group = y.inside

      middle_is : parts.middle ≡ drop m s
      middle_is = cc (parts.first, y.is)

      after_is : read_many block.read (left - n) (drop m s) ≡ got parts.back parts.rest
      after_is = rw (← middle_is) parts.second

      pub after_there : T (is_got (read_many block.read (left - n) (drop m s)))
      after_there = rw after_is tt

      -- those after the group are what the stride leaves
      count : length (b' ∷ (parts.front ++ parts.back)) ≡ left
      count = read_many_length block.read left (drop at s) (b' ∷ (parts.front ++ parts.back)) parts.rest parts.all

      further : at + 10 ≤ m
      further =
          let w = block_is_long (drop at s) b' (drop b.past s) x.meaning in
          let v = blocks_are_long (n - 1) (drop b.past s) (values_of (read_many block.read (n - 1) (drop b.past s))) (drop m s) y.is in
          omega (arith, x.inside, y.inside, length-drop at s, length-drop b.past s, length-drop m s, w, v)

      left_over : drop step (b' ∷ (parts.front ++ parts.back)) ≡ parts.back
      left_over =
          let x = b' ∷ (parts.front ++ parts.back) in
          let k : length (b' ∷ parts.front) ≡ n = omega (arith, read_many_length block.read (n - 1) (drop b.past s) parts.front parts.middle parts.first, group_some) in
          sym (drop_min step x)
          ∙ ap (λ i. drop i x) (min_comm step (length x))
          ∙ ap (λ i. drop (min i step) x) count
          ∙ ap (λ i. drop i x) (sym e)
          ∙ drop_at (b' ∷ parts.front) parts.back n k

      pub group_is :
          at ≤ length s
          → {data_end o v : ℕ}
          → o ≡ beginning data_end (values_of (read_many block.read (left - n) (drop m s)))
          → v ≡ o - b.offset
          → GroupThere s at left step data_end (record { key = b.key; bytes = v; past = m; left = left - n })
      unfolding key_there
      group_is h {data_end} {o} {v} w z =
          let starts : o ≡ beginning data_end (drop step (b' ∷ (parts.front ++ parts.back))) = w ∙ ap (λ g. beginning data_end (values_of g)) after_is ∙ ap (beginning data_end) (sym left_over) in
          record {
            first = b';
            others = parts.front ++ parts.back;
            rest = parts.rest;
            values = ap values_of parts.all;
            there = rw x.key tt;
            key = rw x.key;
            bytes = z ∙ ap (λ i. i - b.offset) starts;
            after = after_is ∙ ap (λ bs. got bs parts.rest) (sym left_over);
            fewer = omega (arith, group_some);
            further = further;
            inside = y.inside;
          }

pub ruleset group_exits = (group_within, group_some, first_there, past_first, others_there, past_group, after_there, group_is)
