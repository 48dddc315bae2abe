-- The places that cover a range lie within the run: a first key at or below the range's start passes the test of its end, so
-- the candidate is not after the last place, and the walk goes back.
-- Assumes nothing.
use Prim.Native.Nat.{ℕ, zero, suc, ◌≤◌}
use native.Mathlib.Omega.{arith}
use native.Mathlib.Nat.{eq-or-lt_of_le}
use mathlib.Core.Path.{◌≡◌, refl, sym, ap, ◌∙◌}
use mathlib.Core.Logic.{◌⊎◌, inl, inr, ⊎_elim}
use mathlib.Core.Bool.{Bool, true, false, false≢true}
use mathlib.Core.Option.{Option, none, some}
use mathlib.Core.List.{List, [], ◌∷◌}
use lib.ListN.{length, length-map}
use Rattle.base.specs.Pick.{pick}
use Rattle.key.specs.Order.{Key}
use Rattle.comparable_range.specs.Range.{Bound, unbounded, included, excluded, Range, bounds_pass, non_empty, end_holds}
use Rattle.comparable_range.specs.Cut.{after, ◌≼◌, end_cut}
use Rattle.comparable_range.proofs.Cut.{≼_trans, ≺-≼, after-≼}
use Rattle.comparable_range.proofs.ByCuts.{end_holds_by_cuts, passes-≺}
use Rattle.records.specs.Values.{View}
use Rattle.partitioned_keyspace.specs.Partitions.{Places, partition_point, last_before}
use Rattle.db_state.specs.Lookup.{start_key, table_intersects, start_keys, max_idx, start_candidate, first_idx, walk_back, min_idx, nowhere, covered_to, table_idx_covering_range}
use Rattle.db_state.specs.LookupLaws.{SomeOf, TableIdxLiesWithinTheRun}

-- ---- partition points
point_inside : (p : Key → Bool) (ks : List Key) → partition_point p ks ≤ length ks
unfolding partition_point
point_inside p [] = omega arith
point_inside p (k ∷ ks) = go (p k) (point_inside p ks)
  where
    go : (t : Bool) → partition_point p ks ≤ length ks → pick t (suc (partition_point p ks)) 0 ≤ suc (length ks)
    go true h = omega arith
    go false h = omega arith

-- a test that more keys pass has a later point
point_later : (p q : Key → Bool) (ks : List Key) → ((k : Key) → p k ≡ true → q k ≡ true) → partition_point p ks ≤ partition_point q ks
unfolding partition_point
point_later p q [] h = omega arith
point_later p q (k ∷ ks) h = go (p k) (q k) (h k) (point_later p q ks h)
  where
    go :
        (t u : Bool)
        → (t ≡ true → u ≡ true)
        → partition_point p ks ≤ partition_point q ks
        → pick t (suc (partition_point p ks)) 0 ≤ pick u (suc (partition_point q ks)) 0
    go true true i h = omega arith
    go true false i h = absurd (false≢true (i refl))
    go false true i h = omega arith
    go false false i h = omega arith

always : (ks : List Key) → partition_point (λ k. true) ks ≡ length ks
unfolding partition_point
always [] = refl
always (k ∷ ks) = ap suc (always ks)

-- ---- the last place and the candidate, by counts
unfoldable pub end_count : List View → Bound → ℕ
end_count vs e = partition_point (end_holds e) (start_keys vs)

keys_length : (vs : List View) → length (start_keys vs) ≡ length vs
unfolding start_keys
keys_length vs = length-map vs start_key

pub max_is : (vs : List View) (e : Bound) → max_idx vs e ≡ last_before (end_count vs e)
unfolding max_idx end_count end_holds
max_is vs unbounded = ap last_before (sym (always (start_keys vs) ∙ keys_length vs))
max_is vs (included k) = refl
max_is vs (excluded k) = refl

end_count_inside : (vs : List View) (e : Bound) → end_count vs e ≤ length vs
unfolding end_count
end_count_inside vs e = let h = point_inside (end_holds e) (start_keys vs) in rw (keys_length vs) at h

place_inside : (c n : ℕ) {m : ℕ} → last_before c ≡ some m → c ≤ n → suc m ≤ n
place_inside zero n {m} p h = absurd (let z : ◌≡◌ {A = ℕ} 0 1 = cc in omega arith)
place_inside (suc c) n {m} p h =
    let z : c ≡ m = cc in
    omega arith

last_inside : (vs : List View) (e : Bound) (m : ℕ) → max_idx vs e ≡ some m → suc m ≤ length vs
last_inside vs e m p = place_inside (end_count vs e) (length vs) (sym (max_is vs e) ∙ p) (end_count_inside vs e)

-- keys at or below lo pass the test of an end after it
counts_later : (vs : List View) (lo : Key) (e : Bound) → after lo ≼ end_cut e → end_count vs (included lo) ≤ end_count vs e
unfolding end_count
counts_later vs lo e h = point_later (end_holds (included lo)) (end_holds e) (start_keys vs) passes
  where
    passes : (k : Key) → end_holds (included lo) k ≡ true → end_holds e k ≡ true
    passes k t =
        let l : after k ≼ after lo = record { holds = sym (end_holds_by_cuts (included lo) k) ∙ t } in
        end_holds_by_cuts e k ∙ (≼_trans l h).holds

places_later : (c d : ℕ) {i m : ℕ} → last_before c ≡ some i → last_before d ≡ some m → c ≤ d → i ≤ m
places_later zero d {i} {m} p q h = absurd (let z : ◌≡◌ {A = ℕ} 0 1 = cc in omega arith)
places_later (suc c) zero {i} {m} p q h = absurd (omega arith)
places_later (suc c) (suc d) {i} {m} p q h =
    let y : c ≡ i = cc in
    let z : d ≡ m = cc in
    omega arith

candidate_first : (vs : List View) (s e : Bound) (i m : ℕ) → bounds_pass s e ≡ true → start_candidate vs s ≡ some i → max_idx vs e ≡ some m → i ≤ m
unfolding start_candidate end_count end_holds
candidate_first vs unbounded e i m h p q = absurd (let z : ◌≡◌ {A = ℕ} 0 1 = cc in omega arith)
candidate_first vs (included lo) e i m h p q =
    places_later (end_count vs (included lo)) (end_count vs e) p (sym (max_is vs e) ∙ q)
    (counts_later vs lo e (after-≼ (passes-≺ (included lo) e h)))
candidate_first vs (excluded lo) e i m h p q =
    places_later (end_count vs (included lo)) (end_count vs e) p (sym (max_is vs e) ∙ q)
    (counts_later vs lo e (≺-≼ (passes-≺ (excluded lo) e h)))

-- ---- the answer
walk_goes_back : (vs : List View) (asked : Range) (i : ℕ) → walk_back vs asked i ≤ i
unfolding walk_back
walk_goes_back vs asked zero = omega arith
walk_goes_back vs asked (suc i) = go (table_intersects vs asked i) (walk_goes_back vs asked i)
  where
    go : (t : Bool) → walk_back vs asked i ≤ i → pick t (walk_back vs asked i) (suc i) ≤ suc i
    go true h = omega arith
    go false h = omega arith

-- the candidate, or the view after it, is not after a place that intersects
first_inside : (vs : List View) (asked : Range) (o : Option ℕ) (m : ℕ) → ((i : ℕ) → o ≡ some i → i ≤ m) → table_intersects vs asked m ≡ true → first_idx vs asked o ≤ m
first_inside vs asked none m h t = omega arith
first_inside vs asked (some i) m h t = go (table_intersects vs asked i) refl (h i refl)
  where
    unequal : table_intersects vs asked i ≡ false → i ≡ m → ⊥
    unequal n e = false≢true (sym n ∙ (ap (table_intersects vs asked) e ∙ t))

    go : (u : Bool) → table_intersects vs asked i ≡ u → i ≤ m → pick u i (suc i) ≤ m
    go true n l = l
    go false n l = ⊎_elim (λ e. absurd (unequal n e)) (λ h. h) (eq-or-lt_of_le l)

-- where the test at the last place passes
pub found :
    (vs : List View) (asked : Range) (m : ℕ)
    → non_empty asked ≡ true
    → max_idx vs asked.end ≡ some m
    → table_intersects vs asked m ≡ true
    → SomeOf (length vs) (record { start = min_idx vs asked; end = suc m })
unfolding min_idx
found vs asked m h e t =
    let f = first_inside vs asked (start_candidate vs asked.start) m (λ i p. candidate_first vs asked.start asked.end i m h p e) t in
    record {
      some_place = omega (arith, walk_goes_back vs asked (first_idx vs asked (start_candidate vs asked.start)));
      inside = last_inside vs asked.end m e;
    }

pub table_idx_lies_within_the_run : TableIdxLiesWithinTheRun
unfolding table_idx_covering_range
table_idx_lies_within_the_run vs asked h = go (max_idx vs asked.end) refl
  where
    go : (o : Option ℕ) → max_idx vs asked.end ≡ o → covered_to vs asked o ≡ nowhere ⊎ SomeOf (length vs) (covered_to vs asked o)
    go none e = inl refl
    go (some m) e = test (table_intersects vs asked m) refl
      where
        p : Places
        p = record { start = min_idx vs asked; end = suc m }

        test : (t : Bool) → table_intersects vs asked m ≡ t → pick t p nowhere ≡ nowhere ⊎ SomeOf (length vs) (pick t p nowhere)
        test true t = inr (found vs asked m h e t)
        test false t = inl refl
