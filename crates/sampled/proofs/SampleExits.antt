-- What the loop over groups keeps: the anchors found so far, in front of those of the blocks that are left; and its exits.
-- Assumes nothing.
use Prim.Native.Nat.{ℕ, zero, suc, ◌+◌, ◌*◌, ◌-◌, ◌^◌, ◌<◌, ◌≤◌, max}
use native.Mathlib.Omega.{arith}
use native.Mathlib.Nat.{add-zero, add_assoc}
use mathlib.Core.Path.{◌≡◌, refl, sym, ap, ◌∙◌}
use mathlib.Core.Bool.{Bool, true, false}
use mathlib.Core.List.{List, [], ◌∷◌, ◌++◌, append_assoc, append-nil}
use lib.ListN.{length, drop, set, length-set, length-drop}
use lib.Dec.{T, ltb}
use mir.Val.{Fits}
use mir.Syntax.{w64}
use borrow.Author.Tests.{ltb-false}
use Rattle.base.specs.Pick.{pick}
use Rattle.key.specs.Order.{Key}
use Rattle.comparable_range.specs.Range.{Range, holds}
use Rattle.format.specs.Got.{Got, got, stop, is_got}
use Rattle.format.specs.Number.{read_number}
use Rattle.format.specs.Key.{read_key}
use Rattle.format.proofs.ThereExits.{first_got, number_got}
use Rattle.records.specs.Form.{read_many}
use Rattle.records.specs.Found.{values_of}
use Rattle.records.specs.Values.{Index, Anchor, Anchors}
use Rattle.records.specs.Layouts.{block, index}
use Rattle.records.proofs.Forms.{read_many_length}
use Rattle.records.proofs.BlockExits.{index_is}
use Rattle.manifest.specs.Checks.{total}
use Rattle.manifest.specs.Faults.{least}
use Rattle.manifest.proofs.AnchorExits.{least_most, least_added, total_more}
use Rattle.key_rows.specs.Rows.{key_there}
use Rattle.subcompaction.specs.Anchors.{stride, beginning, groups, held_by, sample_anchors}
use Rattle.subcompaction.specs.Tables.{Held, index_there}
use Rattle.sampled.specs.Groups.{GroupThere, row_added, RowIf}
use Rattle.sampled.specs.declared.GroupSpan.{GroupSpan}
use Rattle.sampled.specs.declared.Kept.{Kept}
use Rattle.sampled.proofs.SampleSizes.{groups_step, groups_none}
use Rattle.subcompaction.proofs.Samples.{stride_reaches}
use Rattle.sampled.proofs.HeldRows.{held_more}

-- ---- key_held
pub key_asked : (s : List ℕ) (at : ℕ) (r : Range) {key : List ℕ} {t : Bool} → key ≡ key_there s at → t ≡ holds r key → t ≡ holds r (key_there s at)
key_asked s at r e h = h ∙ rw e

-- ---- with_group
module _ {t w : Bool} (e : w ≡ t) (g : GroupSpan) (k : Kept) (keys bytes : List ℕ) where
  pub row_put : {k' : Kept} {keys' bytes' : List ℕ} → w ≡ true → k' ≡ row_added g.bytes k → keys' ≡ set keys k.rows g.key → bytes' ≡ set bytes k.rows g.bytes → RowIf t g k keys bytes k' keys' bytes'
  row_put q a b c =
      let z : t ≡ true = sym e ∙ q in
      record { kept = rw z a; keys_are = rw z b; bytes_are = rw z c }

  pub row_not_put : w ≡ false → RowIf t g k keys bytes k keys bytes
  row_not_put q =
      let z : t ≡ false = sym e ∙ q in
      record { kept = rw z; keys_are = rw z; bytes_are = rw z }

pub ruleset with_group_exits = (row_put, row_not_put)

-- ---- sample
pub record Sampled (s keys₀ bytes₀ : List ℕ) (q : Range) (most data_end step : ℕ) (x : Index) (k₀ : Kept) (keys bytes : List ℕ) (k : Kept) (at left : ℕ) : Type 0 where
  pub seen : Anchors
  pub todo : Index
  pub rest : List ℕ
  pub reading : read_many block.read left (drop at s) ≡ got todo rest
  pub place : at ≤ length s
  pub same : sample_anchors most data_end x q ≡ seen ++ held_by q (groups data_end step 0 todo)
  pub held : (as' : Anchors) → Held s keys₀ bytes₀ k₀.rows as' → Held s keys bytes k.rows (as' ++ seen)
  pub sum : k.total ≡ least (k₀.total + total seen) (2 ^ 63)
  pub few : k.rows ≤ at
  pub some : 0 < left → 0 < step
  pub wide : length bytes ≡ length keys
  pub keys_long : length keys ≡ length keys₀
  pub bytes_long : length bytes ≡ length bytes₀

-- before the first group
record Values {A : Type 0} (g : Got (List A)) : Type 0 where
  rest : List ℕ
  is : g ≡ got (values_of g) rest

values-of : {A : Type 0} (g : Got (List A)) → T (is_got g) → Values g
values-of (got bs r) t = record { rest = r; is = refl }
values-of (stop k) t = absurd t

at_most : (t : ℕ) → t ≤ 2 ^ 63 → t ≡ least (t + 0) (2 ^ 63)
unfolding least
at_most t h = rw add-zero (go (ltb t (2 ^ 63)) refl)
  where
    go : (b : Bool) → ltb t (2 ^ 63) ≡ b → t ≡ pick b t (2 ^ 63)
    go true e = refl
    go false e = omega (arith, ltb-false t (2 ^ 63) e)

a_stride : (most blocks step : ℕ) → step ≡ stride most blocks → 0 < blocks → 0 < step
a_stride most blocks zero e h = let z : blocks ≤ 0 * max 1 most = rw e (stride_reaches most blocks) in absurd (omega arith)
a_stride most blocks (suc n) e h = omega arith

module _ (s : List ℕ) (at : ℕ) (t : T (is_got (index.read (drop at s)))) where
  opened_index : T (is_got (read_number 2 (drop at s)))
  opened_index = first_got (read_number 2 (drop at s)) _ (rw (index_is (drop at s)) at t)

  pub index_room : at + 2 ≤ length s
  index_room = omega (arith, number_got 2 (drop at s) opened_index, length-drop at s)

  pub blocks_fit : length s < 2 ^ 64 → Fits w64 (at + 2)
  blocks_fit h = omega (arith, index_room)

  module _ {n : ℕ} (e : read_number 2 (drop at s) ≡ got n (drop (at + 2) s)) where
    blocks_are : index.read (drop at s) ≡ read_many block.read n (drop (at + 2) s)
    blocks_are = index_is (drop at s) ∙ rw e

    values : Values (index.read (drop at s))
    values = values-of (index.read (drop at s)) t

    reads : read_many block.read n (drop (at + 2) s) ≡ got (index_there s at) values.rest
    reads = sym blocks_are ∙ values.is

    pub count : length (index_there s at) ≡ n
    count = read_many_length block.read n (drop (at + 2) s) (index_there s at) values.rest reads

    pub sampled_begin :
        (keys bytes : List ℕ) (q : Range) (most data_end : ℕ) (k : Kept) {step : ℕ}
        → step ≡ stride most n
        → length bytes ≡ length keys
        → k.rows ≤ at
        → k.total ≤ 2 ^ 63
        → Sampled s keys bytes q most data_end step (index_there s at) k keys bytes k (at + 2) n
    unfolding sample_anchors total
    sampled_begin keys bytes q most data_end k {step} f w r l =
        let z : stride most (length (index_there s at)) ≡ step = ap (stride most) count ∙ sym f in
        record {
          seen = [];
          todo = index_there s at;
          rest = values.rest;
          reading = reads;
          place = index_room;
          same = ap (λ m. held_by q (groups data_end m 0 (index_there s at))) z;
          held = λ as' h. rw append-nil h;
          sum = at_most k.total l;
          few = omega arith;
          some = a_stride most n step f;
          wide = w;
          keys_long = refl;
          bytes_long = refl;
        }

-- one more group
held_step : (q : Range) (a : Anchor) (as' : Anchors) (t : Bool) → holds q a.key ≡ t → held_by q (a ∷ as') ≡ pick t (a ∷ []) [] ++ held_by q as'
unfolding held_by
held_step q a as' true e = rw e
held_step q a as' false e = rw e

abbrev mark : List ℕ → GroupSpan → Anchor
mark s g = record { key = key_there s g.key; bytes = g.bytes }

module _ {s keys₀ bytes₀ : List ℕ} {q : Range} {most data_end step : ℕ} {x : Index} {k₀ : Kept} {keys bytes : List ℕ} {k : Kept} {at left : ℕ} (p : Sampled s keys₀ bytes₀ q most data_end step x k₀ keys bytes k at left) where
  pub sampled_place : at ≤ length s
  sampled_place = p.place

  pub sampled_there_lem : T (is_got (read_many block.read left (drop at s)))
  sampled_there_lem = rw p.reading tt

  pub sampled_some : 0 < left → 0 < step
  sampled_some h = p.some h

  pub sampled_wide : length bytes ≡ length keys
  sampled_wide = p.wide

  pub sampled_most : k.total ≤ 2 ^ 63
  sampled_most = rw p.sum (least_most (2 ^ 63) (k₀.total + total p.seen))

  module _ {g : GroupSpan} (y : GroupThere s at left step data_end g) where
    pub row_fits : length s < 2 ^ 64 → k.rows + 1 < 2 ^ 64
    row_fits h = omega (arith, p.few, y.further, y.inside)

    pub group_key : T (is_got (read_key (drop g.key s)))
    group_key = y.there

    pub groups_fewer : g.left < left
    groups_fewer = y.fewer

    todo_is : p.todo ≡ y.first ∷ y.others
    todo_is = ap values_of (sym p.reading) ∙ y.values

    abbrev after : Index
    after = drop step (y.first ∷ y.others)

    mark_is : record { key = y.first.first; bytes = beginning data_end after - y.first.offset } ≡ mark s g
    mark_is =
        ap (λ (f : Key). record { key = f; bytes = beginning data_end after - y.first.offset }) (sym y.key)
        ∙ ap (λ (b : ℕ). record { key = key_there s g.key; bytes = b }) (sym y.bytes)

    group_first : groups data_end step 0 p.todo ≡ mark s g ∷ groups data_end step 0 after
    group_first =
        ap (groups data_end step 0) todo_is
        ∙ groups_step data_end step y.first y.others (p.some (omega (arith, y.fewer)))
        ∙ ap (λ (a : Anchor). a ∷ groups data_end step 0 after) mark_is

    same_after : (t : Bool) → holds q (key_there s g.key) ≡ t → sample_anchors most data_end x q ≡ (p.seen ++ pick t (mark s g ∷ []) []) ++ held_by q (groups data_end step 0 after)
    same_after t e =
        p.same
        ∙ ap (λ l. p.seen ++ held_by q l) group_first
        ∙ ap (λ l. p.seen ++ l) (held_step q (mark s g) (groups data_end step 0 after) t e)
        ∙ sym (append_assoc p.seen (pick t (mark s g ∷ []) []) (held_by q (groups data_end step 0 after)))

    module _ {k' : Kept} {keys' bytes' : List ℕ} where
      held_put : RowIf true g k keys bytes k' keys' bytes' → (as' : Anchors) → Held s keys₀ bytes₀ k₀.rows as' → Held s keys' bytes' k'.rows (as' ++ (p.seen ++ (mark s g ∷ [])))
      held_put z as' h =
          rw (z.kept, z.keys_are, z.bytes_are, ← append_assoc as' p.seen (mark s g ∷ []))
          (held_more (p.held as' h) g.key g.bytes y.there)

      sum_put : RowIf true g k keys bytes k' keys' bytes' → k'.total ≡ least (k₀.total + total (p.seen ++ (mark s g ∷ []))) (2 ^ 63)
      sum_put z =
          ap (λ (k : Kept). k.total) z.kept
          ∙ ap (λ t. least (t + g.bytes) (2 ^ 63)) p.sum
          ∙ least_added (2 ^ 63) (k₀.total + total p.seen) g.bytes
          ∙ ap (λ t. least t (2 ^ 63)) (add_assoc k₀.total (total p.seen) g.bytes ∙ ap (λ t. k₀.total + t) (sym (total_more p.seen (mark s g))))

      put : holds q (key_there s g.key) ≡ true → RowIf true g k keys bytes k' keys' bytes' → Sampled s keys₀ bytes₀ q most data_end step x k₀ keys' bytes' k' g.past g.left
      put e z =
          let a : length keys' ≡ length keys = ap length z.keys_are ∙ length-set keys k.rows g.key in
          let b : length bytes' ≡ length bytes = ap length z.bytes_are ∙ length-set bytes k.rows g.bytes in
          record {
            seen = p.seen ++ (mark s g ∷ []);
            todo = after;
            rest = y.rest;
            reading = y.after;
            place = y.inside;
            same = same_after true e;
            held = held_put z;
            sum = sum_put z;
            few = omega (arith, ap (λ (k : Kept). k.rows) z.kept, p.few, y.further);
            some = λ h. p.some (omega (arith, y.fewer));
            wide = b ∙ p.wide ∙ sym a;
            keys_long = a ∙ p.keys_long;
            bytes_long = b ∙ p.bytes_long;
          }

      not_put : holds q (key_there s g.key) ≡ false → RowIf false g k keys bytes k' keys' bytes' → Sampled s keys₀ bytes₀ q most data_end step x k₀ keys' bytes' k' g.past g.left
      not_put e z =
          rw (z.kept, z.keys_are, z.bytes_are)
          (record {
            seen = p.seen;
            todo = after;
            rest = y.rest;
            reading = y.after;
            place = y.inside;
            same = same_after false e ∙ ap (λ l. l ++ held_by q (groups data_end step 0 after)) (append-nil p.seen);
            held = p.held;
            sum = p.sum;
            few = omega (arith, p.few, y.further);
            some = λ h. p.some (omega (arith, y.fewer));
            wide = p.wide;
            keys_long = p.keys_long;
            bytes_long = p.bytes_long;
          })

      pub sampled_onward : RowIf (holds q (key_there s g.key)) g k keys bytes k' keys' bytes' → Sampled s keys₀ bytes₀ q most data_end step x k₀ keys' bytes' k' g.past g.left
      sampled_onward z = go (holds q (key_there s g.key)) refl z
        where
          go : (t : Bool) → holds q (key_there s g.key) ≡ t → RowIf t g k keys bytes k' keys' bytes' → Sampled s keys₀ bytes₀ q most data_end step x k₀ keys' bytes' k' g.past g.left
          go true e z = put e z
          go false e z = not_put e z

  -- after the last
  none_left : left ≤ 0 → sample_anchors most data_end x q ≡ p.seen
  unfolding read_many held_by
  none_left h =
      let z : left ≡ 0 = omega arith in
      let w : read_many block.read 0 (drop at s) ≡ got p.todo p.rest = ap (λ n. read_many block.read n (drop at s)) (sym z) ∙ p.reading in
      let n : p.todo ≡ [] = cc w in
      p.same ∙ ap (λ l. p.seen ++ held_by q l) (ap (groups data_end step 0) n ∙ groups_none data_end step) ∙ append-nil p.seen

  pub sampled_held : left ≤ 0 → (as' : Anchors) → Held s keys₀ bytes₀ k₀.rows as' → Held s keys bytes k.rows (as' ++ sample_anchors most data_end x q)
  sampled_held h as' w = rw (none_left h) (p.held as' w)

  pub sampled_total : left ≤ 0 → k.total ≡ least (k₀.total + total (sample_anchors most data_end x q)) (2 ^ 63)
  sampled_total h = rw (none_left h) p.sum

  pub sampled_keys : length keys ≡ length keys₀
  sampled_keys = p.keys_long

  pub sampled_bytes : length bytes ≡ length bytes₀
  sampled_bytes = p.bytes_long

pub ruleset sample_exits = (index_room, blocks_fit, sampled_begin, sampled_place, sampled_there_lem, sampled_some, sampled_wide, sampled_most, row_fits, group_key, groups_fewer, sampled_onward, sampled_held, sampled_total, sampled_keys, sampled_bytes)
