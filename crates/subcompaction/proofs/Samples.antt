-- Groups of blocks and the anchors of a table: how many, which keys, in which order, and their bytes.
-- Assumes nothing.
use Prim.Native.Nat.{ℕ, zero, suc, ◌+◌, ◌-◌, ◌*◌, ◌<◌, ◌≤◌, max}
use native.Mathlib.Nat.{zero-mul, mul-suc, suc-mul, mul_comm, lt_of_mul-lt-mul_left, lt-div-mul-add}
use native.Mathlib.Omega.{arith}
use mathlib.Core.Path.{◌≡◌, refl, ap, ◌∙◌}
use mathlib.Core.Logic.{inl, inr}
use mathlib.Core.Bool.{true}
use mathlib.Core.List.{[], ◌∷◌, map}
use lib.ListN.{length, drop}
use Rattle.base.specs.Lists.{All, Pairwise, All-map}
use Rattle.base.specs.Pick.{and_first, and_second}
use Rattle.base.specs.SortLaws.{decided}
use Rattle.key.specs.Order.{Key, key_at_most}
use Rattle.comparable_range.specs.Range.{included, Range, holds, start_holds, end_holds, cmp_bound}
use Rattle.records.specs.Values.{Block, Index, Anchor, Anchors}
use Rattle.manifest.specs.Checks.{total, ascend_from, index_checks}
use Rattle.subcompaction.specs.Anchors.{stride, beginning, groups, held_by, sample_anchors}
use Rattle.subcompaction.specs.PlanLaws.{every_key_range, Rising, AtMostThatManyAnchors, SampledKeysAreHeld, SampledKeysAscend, SampledBytesAddUp}
use Rattle.key.proofs.KeyOrder.{keys_ordered}

-- ---- how many groups there are
pub held_fewer : (r : Range) (a : Anchors) → length (held_by r a) ≤ length a
unfolding held_by
held_fewer r [] = omega arith
held_fewer r (x ∷ a) =
    let n = held_fewer r a in
    elim (decided (holds r x.key)) [ inl h ↦ rw h (omega arith) | inr h ↦ rw h (omega arith) ]

-- groups of n blocks, after the rest of one, take n blocks each but the last
groups_taken : (data_end n rest : ℕ) (x : Index) → rest < n → length (groups data_end n rest x) * n + rest < length x + n
unfolding groups
groups_taken data_end n rest [] h = omega arith
groups_taken data_end n (suc rest) (b ∷ bs) h =
    let m = groups_taken data_end n rest bs (omega arith) in
    omega arith
groups_taken data_end n zero (b ∷ bs) h =
    let m = groups_taken data_end n (n - 1) bs (omega arith) in
    rw suc-mul (omega arith)

-- a group of 0 blocks is a group of one
pub groups_fewer : (data_end n rest : ℕ) (x : Index) → length (groups data_end n rest x) ≤ length x
unfolding groups
groups_fewer data_end n rest [] = omega arith
groups_fewer data_end n (suc rest) (b ∷ bs) = let m = groups_fewer data_end n rest bs in omega arith
groups_fewer data_end n zero (b ∷ bs) = let m = groups_fewer data_end n (n - 1) bs in omega arith

-- so many groups of that many blocks have them all
pub stride_reaches : (most blocks : ℕ) → blocks ≤ stride most blocks * max 1 most
unfolding stride
stride_reaches most blocks = let h = lt-div-mul-add {a = blocks + (max 1 most - 1)} {b = max 1 most} (omega arith) in omega arith

few : (data_end n m : ℕ) (x : Index) → length x ≤ n * m → length (groups data_end n 0 x) ≤ m
few data_end zero m x h = let a = groups_fewer data_end zero 0 x in omega (arith, zero-mul m)
few data_end (suc n) m x h =
    let c = length (groups data_end (suc n) 0 x) in
    let t = groups_taken data_end (suc n) 0 x (omega arith) in
    let p = mul_comm (suc n) c in
    let q = mul-suc (suc n) m in
    let l : c < suc m = lt_of_mul-lt-mul_left (suc n) (rw (p, q) (omega arith)) in
    omega arith

pub few_groups : (most data_end : ℕ) (x : Index) → length (groups data_end (stride most (length x)) 0 x) ≤ max 1 most
few_groups most data_end x = few data_end (stride most (length x)) (max 1 most) x (stride_reaches most (length x))

pub at_most_that_many_anchors : AtMostThatManyAnchors
unfolding sample_anchors
at_most_that_many_anchors most data_end x r =
    let g = groups data_end (stride most (length x)) 0 x in
    let a = held_fewer r g in
    let b = few_groups most data_end x in
    omega arith

pub no_more_than_blocks : (most data_end : ℕ) (x : Index) (r : Range) → length (sample_anchors most data_end x r) ≤ length x
unfolding sample_anchors
no_more_than_blocks most data_end x r =
    let n = stride most (length x) in
    let a = held_fewer r (groups data_end n 0 x) in
    let b = groups_fewer data_end n 0 x in
    omega arith

-- ---- their keys
-- a key is the first of a block
groups_of : (P : Key → Type 0) (data_end n rest : ℕ) (x : Index) → All (λ b. P b.first) x → All (λ a. P a.key) (groups data_end n rest x)
unfolding groups
groups_of P data_end n rest [] h = tt
groups_of P data_end n (suc rest) (b ∷ bs) h = groups_of P data_end n rest bs h.1
groups_of P data_end n zero (b ∷ bs) h = (h.0, groups_of P data_end n (n - 1) bs h.1)

groups_ascend :
    (data_end n rest : ℕ) (x : Index)
    → Pairwise (λ b c. key_at_most b.first c.first ≡ true) x
    → Pairwise (λ a b. key_at_most a.key b.key ≡ true) (groups data_end n rest x)
unfolding groups
groups_ascend data_end n rest [] h = tt
groups_ascend data_end n (suc rest) (b ∷ bs) h = groups_ascend data_end n rest bs h.1
groups_ascend data_end n zero (b ∷ bs) h =
    (groups_of (λ k. key_at_most b.first k ≡ true) data_end n (n - 1) bs h.0, groups_ascend data_end n (n - 1) bs h.1)

pub held_of : (P : Anchor → Type 0) (r : Range) (a : Anchors) → All P a → All P (held_by r a)
unfolding held_by
held_of P r [] h = tt
held_of P r (x ∷ a) h =
    elim (decided (holds r x.key)) [ inl k ↦ rw k (h.0, held_of P r a h.1) | inr k ↦ rw k (held_of P r a h.1) ]

held_pairs : (R : Anchor → Anchor → Type 0) (r : Range) (a : Anchors) → Pairwise R a → Pairwise R (held_by r a)
unfolding held_by
held_pairs R r [] h = tt
held_pairs R r (x ∷ a) h =
    elim (decided (holds r x.key)) [
      | inl k ↦ rw k (held_of (R x) r a h.0, held_pairs R r a h.1)
      | inr k ↦ rw k (held_pairs R r a h.1)
    ]

held_keys : (r : Range) (a : Anchors) → All (λ x. holds r x.key ≡ true) (held_by r a)
unfolding held_by
held_keys r [] = tt
held_keys r (x ∷ a) = elim (decided (holds r x.key)) [ inl k ↦ rw k (k, held_keys r a) | inr k ↦ rw k (held_keys r a) ]

-- what each first key is, each sampled key is
pub sampled_of : (P : Key → Type 0) (most data_end : ℕ) (x : Index) (r : Range) → All (λ b. P b.first) x → All (λ a. P a.key) (sample_anchors most data_end x r)
unfolding sample_anchors
sampled_of P most data_end x r h =
    held_of (λ a. P a.key) r (groups data_end (stride most (length x)) 0 x) (groups_of P data_end (stride most (length x)) 0 x h)

pub sampled_keys_are_held : SampledKeysAreHeld
unfolding sample_anchors
sampled_keys_are_held most data_end x r = held_keys r (groups data_end (stride most (length x)) 0 x)

-- ---- their order
-- check 6, of neighbours, holds of any two
ascends_from : (b : Block) (x : Index) → ascend_from (included b.first) (map (λ c. included c.first) x) ≡ true → All (λ c. key_at_most b.first c.first ≡ true) x
unfolding ascend_from cmp_bound
ascends_from b [] h = tt
ascends_from b (c ∷ x) h =
    let n = and_first (key_at_most b.first c.first) _ h in
    let l = ascends_from c x (and_second (key_at_most b.first c.first) _ h) in
    (n, All-map (λ d k. keys_ordered.trans b.first c.first d.first n k) x l)

firsts_ascend : (b : Block) (x : Index) → ascend_from (included b.first) (map (λ c. included c.first) x) ≡ true → Pairwise (λ c d. key_at_most c.first d.first ≡ true) (b ∷ x)
unfolding ascend_from cmp_bound
firsts_ascend b [] h = (tt, tt)
firsts_ascend b (c ∷ x) h = (ascends_from b (c ∷ x) h, firsts_ascend c x (and_second (key_at_most b.first c.first) _ h))

index_ascends : (x : Index) → (index_checks x).order ≡ true → Pairwise (λ c d. key_at_most c.first d.first ≡ true) x
unfolding index_checks
index_ascends [] h = tt
index_ascends (b ∷ x) h = firsts_ascend b x h

pub sampled_keys_ascend : SampledKeysAscend
unfolding sample_anchors
sampled_keys_ascend most data_end x r h =
    let n = stride most (length x) in
    held_pairs (λ a b. key_at_most a.key b.key ≡ true) r (groups data_end n 0 x) (groups_ascend data_end n 0 x (index_ascends x h))

-- ---- their bytes
rising_tail : (data_end : ℕ) (b : Block) (bs : Index) → Rising data_end (b ∷ bs) → Rising data_end bs
unfolding Rising
rising_tail data_end b [] h = tt
rising_tail data_end b (c ∷ bs) h = h.1

next_begins : (data_end : ℕ) (b : Block) (bs : Index) → Rising data_end (b ∷ bs) → b.offset ≤ beginning data_end bs
unfolding Rising
next_begins data_end b [] h = h
next_begins data_end b (c ∷ bs) h = h.0

-- what comes after some blocks begins no sooner than they do, and by the data's end
later_begins : (data_end n : ℕ) (x : Index) → Rising data_end x → (beginning data_end x ≤ beginning data_end (drop n x)) × (beginning data_end (drop n x) ≤ data_end)
later_begins data_end zero [] h = (omega arith, omega arith)
later_begins data_end zero (b ∷ bs) h =
    let t = later_begins data_end zero bs (rising_tail data_end b bs h) in
    let n = next_begins data_end b bs h in
    (omega arith, omega (arith, t.0, t.1))
later_begins data_end (suc n) [] h = (omega arith, omega arith)
later_begins data_end (suc n) (b ∷ bs) h =
    let t = later_begins data_end n bs (rising_tail data_end b bs h) in
    let m = next_begins data_end b bs h in
    (omega (arith, t.0), t.1)

-- of groups after the rest of one, the bytes from where they begin
groups_add_up : (data_end n rest : ℕ) (x : Index) → Rising data_end x → total (groups data_end n rest x) ≡ data_end - beginning data_end (drop rest x)
unfolding groups total
groups_add_up data_end n zero [] h = omega arith
groups_add_up data_end n (suc rest) [] h = omega arith
groups_add_up data_end n (suc rest) (b ∷ bs) h = groups_add_up data_end n rest bs (rising_tail data_end b bs h)
groups_add_up data_end n zero (b ∷ bs) h =
    let t = rising_tail data_end b bs h in
    let s = groups_add_up data_end n (n - 1) bs t in
    let l = later_begins data_end (n - 1) bs t in
    let m = next_begins data_end b bs h in
    omega (arith, l.0, l.1)

all_held : (a : Anchors) → held_by every_key_range a ≡ a
unfolding held_by holds start_holds end_holds
all_held [] = refl
all_held (x ∷ a) = ap (λ l. x ∷ l) (all_held a)

pub sampled_bytes_add_up : SampledBytesAddUp
unfolding sample_anchors
sampled_bytes_add_up most data_end b bs h =
    let n = stride most (length (b ∷ bs)) in
    ap total (all_held (groups data_end n 0 (b ∷ bs))) ∙ groups_add_up data_end n 0 (b ∷ bs) h
