-- Rows in order are anchors in order: those that are prepared.
-- Assumes nothing.
use Prim.Native.Nat.{ℕ, zero, suc, ◌+◌, ◌<◌, ◌≤◌}
use native.Mathlib.Omega.{arith}
use mathlib.Core.Path.{◌≡◌, refl, sym, ap, ◌∙◌}
use mathlib.Core.Logic.{inl, inr}
use mathlib.Core.List.{List, [], ◌∷◌, ◌++◌, map}
use lib.ListN.{length, get_or, take, drop, length-append}
use lib.Seq.{get_or-take, take_at}
use Rattle.base.specs.Lists.{All}
use Rattle.base.specs.Sort.{insert, sort}
use Rattle.base.specs.SortLaws.{decided}
use Rattle.base.proofs.SortLaws.{All-sort, length_sort}
use Rattle.key.specs.Order.{key_at_most}
use Rattle.records.specs.Values.{Anchor, Anchors}
use Rattle.manifest.specs.Checks.{total}
use Rattle.key_rows.specs.Rows.{key_at, count_from, in_order}
use Rattle.subcompaction.specs.Boundaries.{prepared}
use Rattle.subcompaction.specs.Tables.{anchor_at, anchors_in}
use Rattle.base.proofs.SortMore.{sort_map}
use Rattle.key_rows.proofs.RowLaws.{length_count, all_below}

pub prepared_rows : (s keys bytes : List ℕ) (n : ℕ) → prepared (anchors_in s keys bytes n) ≡ map (anchor_at s keys bytes) (in_order s keys n)
unfolding prepared anchors_in in_order
prepared_rows s keys bytes n = sort_map key_at_most (λ a. a.key) (anchor_at s keys bytes) (count_from 0 n)

-- ---- the total is the same
total_insert : (a : Anchor) (as' : Anchors) → total (insert key_at_most (λ a. a.key) a as') ≡ a.bytes + total as'
unfolding insert total
total_insert a [] = refl
total_insert a (b ∷ as') =
    elim (decided (key_at_most a.key b.key)) [ inl h ↦ rw h | inr h ↦ rw (h, total_insert a as') (omega arith) ]

pub total_prepared : (as' : Anchors) → total (prepared as') ≡ total as'
unfolding prepared sort total
total_prepared [] = refl
total_prepared (a ∷ as') = total_insert a (sort key_at_most (λ a. a.key) as') ∙ ap (λ n. a.bytes + n) (total_prepared as')

-- ---- the rows are the first n
pub order_length : (s keys : List ℕ) (n : ℕ) → length (in_order s keys n) ≡ n
unfolding in_order
order_length s keys n = length_sort key_at_most (key_at s keys) (count_from 0 n) ∙ length_count 0 n

at : (P : ℕ → Type 0) (l : List ℕ) → All P l → (i : ℕ) → i < length l → P (get_or l i 0)
at P [] a i h = absurd (omega arith)
at P (x ∷ l) a zero h = a.0
at P (x ∷ l) a (suc i) h = at P l a.1 i (omega arith)

rows_below : (s keys : List ℕ) (n : ℕ) → All (λ r. r < n) (in_order s keys n)
unfolding in_order
rows_below s keys n = All-sort key_at_most (key_at s keys) (λ r. r < n) (count_from 0 n) (all_below n)

in_order_below : (s keys : List ℕ) (n i : ℕ) → i < n → get_or (in_order s keys n) i 0 < n
in_order_below s keys n i h = at (λ r. r < n) (in_order s keys n) (rows_below s keys n) i (omega (arith, order_length s keys n))

pub row_below : (s keys order : List ℕ) (n i : ℕ) → take n order ≡ in_order s keys n → i < n → get_or order i 0 < n
row_below s keys order n i e h = rw (sym (get_or-take n order i 0 h), e) (in_order_below s keys n i h)

-- ---- after the sort
pub sorted_rows : (s keys order : List ℕ) (n : ℕ) {f : List ℕ} → f ≡ in_order s keys n ++ drop n order → take n f ≡ in_order s keys n
sorted_rows s keys order n e = rw e (take_at (in_order s keys n) (drop n order) n (order_length s keys n))

pub sorted_room : (s keys order : List ℕ) (n : ℕ) {f : List ℕ} → f ≡ in_order s keys n ++ drop n order → n ≤ length order → n ≤ length f
sorted_room s keys order n e h = rw (e, length-append) (omega (arith, order_length s keys n))
