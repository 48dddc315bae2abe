-- What `sample_anchors` answers on any bytes: anchors that read back, few, ascending and held.
-- Assumes nothing.
use Prim.Native.Nat.{ℕ, zero, suc, ◌+◌, ◌-◌, ◌*◌, ◌/◌, ◌%◌, ◌^◌, ◌<◌, ◌≤◌, max}
use native.Mathlib.Nat.{pow-succ', mod-add-div, mod-lt, mod-eq_of_lt, mul_assoc}
use native.Mathlib.Omega.{arith}
use mathlib.Core.Path.{◌≡◌, refl, sym, ap, ◌∙◌}
use mathlib.Core.Bool.{true}
use mathlib.Core.List.{List, [], ◌∷◌, ◌++◌, map}
use lib.ListN.{length, length-map, drop}
use lib.Dec.{leb}
use borrow.Author.Tests.{leb-true}
use Rattle.base.specs.Bytes.{Bytes}
use Rattle.base.specs.Lists.{All, Pairwise, All-map, All-mapped, Pairwise-mapped}
use Rattle.base.specs.Pick.{and_first}
use Rattle.base.specs.Outcome.{answer}
use Rattle.key.specs.Order.{key_at_most}
use Rattle.comparable_range.specs.Range.{Range, holds}
use Rattle.format.specs.Number.{write_number}
use Rattle.format.specs.Key.{write_key}
use Rattle.format.specs.Range.{read_range}
use Rattle.format.specs.Whole.{whole}
use Rattle.format.specs.Laws.{KeyWithin}
use Rattle.records.specs.Form.{write_many}
use Rattle.records.specs.Values.{Index, Anchor, Anchors}
use Rattle.records.specs.Layouts.{block, index, anchor, anchors}
use Rattle.records.proofs.RecordLayouts.{index_layout, anchors_layout}
use Rattle.manifest.specs.Checks.{joined, index_checks}
use Rattle.manifest.proofs.Given.{whole_read}
use Rattle.partitioned_keyspace.specs.Asked.{asked_checks}
use Rattle.incremental_progress.proofs.Outcomes.{answered, tested, same_answer}
use Rattle.subcompaction.specs.Anchors.{stride, beginning, groups, sample_anchors}
use Rattle.subcompaction.specs.PlanCalls.{anchors_sampled, sample_anchors_outcome}
use Rattle.subcompaction.specs.PlanLaws.{AnchorsAnswered, EachSampleAnswered}
use Rattle.subcompaction.proofs.Samples.{held_of, sampled_of, at_most_that_many_anchors, sampled_keys_are_held, sampled_keys_ascend}
use Rattle.records.proofs.Within.{all_of_many}
use Rattle.subcompaction.proofs.KeysRead.{index_read, reads_back, anchors_within}
use Rattle.subcompaction.proofs.PlanAnswers.{passed_order, wrote_all}

-- ---- a number written in eight bytes
-- a number of n bytes is written without what is above them
above_unwritten : (n v k : ℕ) → write_number n (v + 256 ^ n * k) ≡ write_number n v
unfolding write_number
above_unwritten zero v k = refl
above_unwritten (suc n) v k =
    let m = 256 ^ n * k in
    let p : 256 ^ suc n * k ≡ 256 * m = ap (λ w. w * k) (pow-succ' 256 n) ∙ mul_assoc 256 (256 ^ n) k in
    let q : (v + 256 * m) / 256 ≡ v / 256 + m = omega arith in
    let r : (v + 256 * m) % 256 ≡ v % 256 = omega arith in
    rw (p, q, r, above_unwritten n (v / 256) k)

-- ---- anchors as their bytes say them
abbrev cut : Anchor → Anchor
cut a = record { key = a.key; bytes = a.bytes % 256 ^ 8 }

cut_written : (a : Anchor) → anchor.write (cut a) ≡ anchor.write a
unfolding anchor
cut_written a =
    ap (λ w. write_key a.key ++ w)
    (sym (above_unwritten 8 (a.bytes % 256 ^ 8) (a.bytes / 256 ^ 8)) ∙ ap (write_number 8) (mod-add-div a.bytes (256 ^ 8)))

cut_within : (a : Anchor) → KeyWithin a.key → anchor.Within (cut a)
unfolding anchor
cut_within a h = record { first = h; second = mod-lt a.bytes (omega arith) }

cut_each_written : (as' : Anchors) → write_many anchor.write (map cut as') ≡ write_many anchor.write as'
unfolding write_many
cut_each_written [] = refl
cut_each_written (a ∷ as') = rw (cut_written a, cut_each_written as')

cut_all_written : (as' : Anchors) → anchors.write (map cut as') ≡ anchors.write as'
unfolding anchors
cut_all_written as' = rw (cut_each_written as', length-map as' cut)

cut_same : (as' : Anchors) → All (λ a. a.bytes < 256 ^ 8) as' → map cut as' ≡ as'
cut_same [] h = refl
cut_same (a ∷ as') h = rw (mod-eq_of_lt h.0, cut_same as' h.1)

-- ---- sizes that are not cut off
begins_small : (data_end n : ℕ) (x : Index) → data_end < 256 ^ 8 → All (λ b. b.offset < 256 ^ 8) x → beginning data_end (drop n x) < 256 ^ 8
begins_small data_end zero [] d h = d
begins_small data_end zero (b ∷ bs) d h = h.0
begins_small data_end (suc n) [] d h = d
begins_small data_end (suc n) (b ∷ bs) d h = begins_small data_end n bs d h.1

groups_small : (data_end n rest : ℕ) (x : Index) → data_end < 256 ^ 8 → All (λ b. b.offset < 256 ^ 8) x → All (λ a. a.bytes < 256 ^ 8) (groups data_end n rest x)
unfolding groups
groups_small data_end n rest [] d h = tt
groups_small data_end n (suc rest) (b ∷ bs) d h = groups_small data_end n rest bs d h.1
groups_small data_end n zero (b ∷ bs) d h =
    let m = begins_small data_end (n - 1) bs d h.1 in
    (omega arith, groups_small data_end n (n - 1) bs d h.1)

offsets_small : (l : List ℕ) (x : Index) → Bytes l → whole index.read l ≡ answer x → All (λ b. b.offset < 256 ^ 8) x
unfolding index block
offsets_small l x b e =
    let w = (index_layout.only l x [] b (whole_read index.read l x e).all).within in
    All-map (λ c h. h.first) x (all_of_many w.second)

sampled_small : (most data_end : ℕ) (x : Index) (r : Range) → data_end < 2 ^ 64 → All (λ b. b.offset < 256 ^ 8) x → All (λ a. a.bytes < 256 ^ 8) (sample_anchors most data_end x r)
unfolding sample_anchors
sampled_small most data_end x r d h =
    held_of (λ a. a.bytes < 256 ^ 8) r (groups data_end (stride most (length x)) 0 x) (groups_small data_end (stride most (length x)) 0 x d h)

-- ---- the answer
-- what was read, and the checks passed
record Sampled (most data_end : ℕ) (l q : List ℕ) (a : Anchors) : Type 0 where
  blocks : Index
  range : Range
  blocks_are : whole index.read l ≡ answer blocks
  range_is : whole read_range q ≡ answer range
  order : (index_checks blocks).order ≡ true
  is : a ≡ sample_anchors most data_end blocks range

sampled_from : (most data_end : ℕ) (l q : List ℕ) (a : Anchors) → anchors_sampled most data_end l q ≡ answer a → Sampled most data_end l q a
unfolding anchors_sampled
sampled_from most data_end l q a e =
    let x = answered (whole index.read l) _ a e in
    let r = answered (whole read_range q) _ a x.second in
    let c = passed_order (joined (index_checks x.value) (asked_checks r.value)) _ a r.second in
    record {
      blocks = x.value;
      range = r.value;
      blocks_are = x.first;
      range_is = r.first;
      order = and_first (index_checks x.value).order (asked_checks r.value).order c.0;
      is = cc c.1;
    }

module _ (most data_end : ℕ) (l q : List ℕ) (few : most ≤ 4096) (a : Anchors) (e : anchors_sampled most data_end l q ≡ answer a) (s : Sampled most data_end l q a) where
  sampled_few : length (map cut a) ≤ max 1 most
  sampled_few = rw (length-map a cut, s.is) (at_most_that_many_anchors most data_end s.blocks s.range)

  sampled_within : anchors.Within (map cut a)
  sampled_within =
      let keys = index_read l s.blocks [] (whole_read index.read l s.blocks s.blocks_are).all in
      let within : All (λ x. KeyWithin x.key) a = rw s.is (sampled_of KeyWithin most data_end s.blocks s.range keys) in
      anchors_within (map cut a) (omega (arith, sampled_few)) (All-mapped anchor.Within cut a (All-map cut_within a within))

  sampled_ascend : Pairwise (λ x y. key_at_most x.key y.key ≡ true) (map cut a)
  sampled_ascend =
      Pairwise-mapped (λ x y. key_at_most x.key y.key ≡ true) cut a
      (rw s.is (sampled_keys_ascend most data_end s.blocks s.range s.order))

  sampled_held : (r : Range) → whole read_range q ≡ answer r → All (λ x. holds r x.key ≡ true) (map cut a)
  sampled_held r h =
      All-mapped (λ x. holds r x.key ≡ true) cut a
      (rw (s.is, same_answer h s.range_is) (sampled_keys_are_held most data_end s.blocks s.range))

  not_cut : data_end < 2 ^ 64 → Bytes l → anchors_sampled most data_end l q ≡ answer (map cut a)
  not_cut d b =
      let small : All (λ x. x.bytes < 256 ^ 8) a = rw s.is (sampled_small most data_end s.blocks s.range d (offsets_small l s.blocks b s.blocks_are)) in
      rw (cut_same a small) e

  sample_answered : (b : List ℕ) → b ≡ anchors.write a → AnchorsAnswered most data_end l q b
  sample_answered b w =
      let c = w ∙ sym (cut_all_written a) in
      record {
        sampled = map cut a;
        is = c;
        reads_back = rw c (reads_back anchors_layout (map cut a) sampled_within);
        few = sampled_few;
        ascending = sampled_ascend;
        held = sampled_held;
        as_sampled = not_cut;
      }

pub each_sample_answered : EachSampleAnswered
unfolding sample_anchors_outcome
each_sample_answered most data_end l q room b e =
    let t = tested 3 (leb most 4096) _ b e in
    let w = answered (anchors_sampled most data_end l q) _ b t.1 in
    let s = sampled_from most data_end l q w.value w.first in
    sample_answered most data_end l q (leb-true most 4096 t.0) w.value w.first s b
    (wrote_all room (anchors.write w.value) b w.second)
