-- How many start keys lead, one more at a time; and the places of `table_idx_covering_range` by two such counts: the test of
-- the candidate is the walk's first step.
-- Assumes nothing.
use Prim.Native.Nat.{ℕ, zero, suc, ◌≤◌}
use native.Mathlib.Omega.{arith}
use mathlib.Core.Path.{◌≡◌, refl, sym, ap, ◌∙◌}
use mathlib.Core.Bool.{Bool, true, false}
use mathlib.Core.List.{List, [], ◌∷◌, ◌++◌, map-append}
use lib.ListN.{length, length-map}
use lib.Dec.{ltb}
use borrow.Author.Tests.{lt-ltb, le-ltb, ltb-true, ltb-false}
use Rattle.base.specs.Pick.{pick}
use Rattle.key.specs.Order.{Key, cmp_key}
use Rattle.comparable_range.specs.Range.{Bound, unbounded, included, excluded, Range, end_holds}
use Rattle.records.specs.Values.{View}
use Rattle.partitioned_keyspace.specs.Partitions.{partition_point, last_before}
use Rattle.db_state.specs.Lookup.{start_key, start_keys, max_idx, start_candidate, first_idx, walk_back, min_idx, table_intersects}
use Rattle.sst_view.specs.Runs.{leading, one_more, up_to}

-- ---- one more start key
one_tried : (t : Bool) (m : ℕ) → suc (pick t (suc m) m) ≡ pick t (suc (suc m)) (suc m)
one_tried true m = refl
one_tried false m = refl

one_later : (t : Bool) (m n : ℕ) → suc (one_more t m n) ≡ one_more t (suc m) (suc n)
one_later t m n = go (ltb m n) refl
  where
    go : (u : Bool) → ltb m n ≡ u → suc (one_more t m n) ≡ one_more t (suc m) (suc n)
    go true e = rw (e, lt-ltb (suc m) (suc n) (omega (arith, ltb-true m n e)))
    go false e = rw (e, le-ltb (suc m) (suc n) (omega (arith, ltb-false m n e))) (one_tried t m)

point_more : (p : Key → Bool) (ks : List Key) (k : Key) → partition_point p (ks ++ (k ∷ [])) ≡ one_more (p k) (partition_point p ks) (length ks)
unfolding partition_point
point_more p [] k = refl
point_more p (j ∷ ks) k = go (p j) (point_more p ks k)
  where
    go :
        (t : Bool)
        → partition_point p (ks ++ (k ∷ [])) ≡ one_more (p k) (partition_point p ks) (length ks)
        → pick t (suc (partition_point p (ks ++ (k ∷ [])))) 0 ≡ one_more (p k) (pick t (suc (partition_point p ks)) 0) (suc (length ks))
    go true e = ap suc e ∙ one_later (p k) (partition_point p ks) (length ks)
    go false e = rw (lt-ltb 0 (suc (length ks)) (omega arith))

point_most : (p : Key → Bool) (ks : List Key) → partition_point p ks ≤ length ks
unfolding partition_point
point_most p [] = omega arith
point_most p (k ∷ ks) = go (p k) (point_most p ks)
  where
    go : (t : Bool) → partition_point p ks ≤ length ks → pick t (suc (partition_point p ks)) 0 ≤ suc (length ks)
    go true h = omega arith
    go false h = omega arith

keys_long : (vs : List View) → length (start_keys vs) ≡ length vs
unfolding start_keys
keys_long vs = length-map vs start_key

keys_more : (vs : List View) (v : View) → start_keys (vs ++ (v ∷ [])) ≡ start_keys vs ++ (start_key v ∷ [])
unfolding start_keys
keys_more vs v = map-append start_key vs (v ∷ [])

pub leading_none : (end : Bound) → leading end [] ≡ 0
unfolding leading start_keys partition_point
leading_none end = refl

pub leading_more : (end : Bound) (vs : List View) (v : View) → leading end (vs ++ (v ∷ [])) ≡ one_more (end_holds end (start_key v)) (leading end vs) (length vs)
unfolding leading
leading_more end vs v = rw (keys_more vs v, point_more (end_holds end) (start_keys vs) (start_key v), keys_long vs)

pub leading_most : (end : Bound) (vs : List View) → leading end vs ≤ length vs
unfolding leading
leading_most end vs = rw (keys_long vs) at (point_most (end_holds end) (start_keys vs))

-- ---- the last place, and the first, by counts
all_lead : (ks : List Key) → partition_point (end_holds unbounded) ks ≡ length ks
unfolding partition_point end_holds
all_lead [] = refl
all_lead (k ∷ ks) = ap suc (all_lead ks)

pub max_by_count : (vs : List View) (end : Bound) → max_idx vs end ≡ last_before (leading end vs)
unfolding max_idx leading end_holds
max_by_count vs unbounded = ap last_before (sym (all_lead (start_keys vs) ∙ keys_long vs))
max_by_count vs (included k) = refl
max_by_count vs (excluded k) = refl

none_below : (ks : List Key) → partition_point (end_holds (excluded [])) ks ≡ 0
unfolding partition_point end_holds cmp_key
none_below [] = refl
none_below ([] ∷ ks) = refl
none_below ((b ∷ k) ∷ ks) = refl

candidate_by_count : (vs : List View) (start : Bound) → start_candidate vs start ≡ last_before (leading (up_to start) vs)
unfolding start_candidate leading end_holds
candidate_by_count vs unbounded = ap last_before (sym (none_below (start_keys vs)))
candidate_by_count vs (included k) = refl
candidate_by_count vs (excluded k) = refl

walk_from : (vs : List View) (asked : Range) (n : ℕ) → walk_back vs asked (first_idx vs asked (last_before n)) ≡ walk_back vs asked n
unfolding walk_back
walk_from vs asked zero = refl
walk_from vs asked (suc n) = go (table_intersects vs asked n) refl
  where
    go : (t : Bool) → table_intersects vs asked n ≡ t → walk_back vs asked (pick t n (suc n)) ≡ pick t (walk_back vs asked n) (suc n)
    go true e = refl
    go false e = rw e

pub min_by_count : (vs : List View) (asked : Range) → min_idx vs asked ≡ walk_back vs asked (leading (up_to asked.start) vs)
unfolding min_idx
min_by_count vs asked = rw (candidate_by_count vs asked.start) (walk_from vs asked (leading (up_to asked.start) vs))
