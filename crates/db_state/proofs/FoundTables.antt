-- Whether some table covers a range: the last view that starts by its end does, since the view after it starts later.
-- Assumes nothing.
use Prim.Native.Nat.{ℕ, zero, suc, ◌-◌}
use native.Mathlib.Omega.{arith}
use mathlib.Core.Path.{◌≡◌, refl, sym, ap, ◌∙◌}
use mathlib.Core.Logic.{inl, inr}
use mathlib.Core.Bool.{Bool, true, false, false≢true}
use mathlib.Core.Option.{Option, none, some}
use mathlib.Core.List.{List, [], ◌∷◌}
use Rattle.base.specs.Pick.{pick}
use Rattle.key.specs.Order.{Key}
use Rattle.comparable_range.specs.Range.{Bound, included, excluded, Range, non_empty, end_holds, holds}
use Rattle.comparable_range.specs.Cut.{Cut, before, ◌≼◌, ◌≺◌, later, start_cut, end_cut}
use Rattle.comparable_range.proofs.Cut.{order, ≼_refl, ≼_trans, ≺-≼, ≺-≼-trans, ≼-above, before-≺, before-≺-after, ≼-before}
use Rattle.comparable_range.proofs.Lattice.{later_left, later_right, ≺-sooner}
use Rattle.comparable_range.proofs.ByCuts.{end_holds_by_cuts, passes-≺, below-of-≺}
use Rattle.records.specs.Values.{View}
use Rattle.manifest.specs.Ranges.{effective}
use Rattle.manifest.specs.Checks.{all, table_passes}
use Rattle.partitioned_keyspace.specs.Partitions.{partition_point, last_before}
use Rattle.db_state.specs.Places.{at}
use Rattle.db_state.specs.Lookup.{start_key, end_before, end_bound, table_end_bound, intersects_up_to, intersects_range, table_intersects, start_keys, max_idx, covered_to, table_idx_covering_range}
use Rattle.db_state.specs.LookupLaws.{starts_by, TableIdxIsNowhereBeforeTheRun, TableIdxFindsATableElsewhere}
use Rattle.db_state.proofs.Intersects.{start_key_is_the_start, intersects_range_by_cuts}
use Rattle.db_state.proofs.RunLookups.{at_passes}
use Rattle.db_state.proofs.CoveredPlaces.{end_count, max_is, found}

-- ---- the view before a partition point
record Before (p : Key → Bool) (vs : List View) (m : ℕ) : Type 0 where
  view : View
  here : at vs m ≡ some view
  passes : p (start_key view) ≡ true
  next_fails : (n : View) → at vs (suc m) ≡ some n → p (start_key n) ≡ false

first_fails : (p : Key → Bool) (vs : List View) → partition_point p (start_keys vs) ≡ 0 → (n : View) → at vs 0 ≡ some n → p (start_key n) ≡ false
unfolding partition_point start_keys at
first_fails p [] e n f = absurd (let z : ◌≡◌ {A = ℕ} 0 1 = cc in omega arith)
first_fails p (v ∷ vs) e n f = let z : v ≡ n = cc in rw (← z) (go (p (start_key v)) refl e)
  where
    go : (t : Bool) → p (start_key v) ≡ t → pick t (suc (partition_point p (start_keys vs))) 0 ≡ 0 → t ≡ false
    go false q e = refl
    go true q e = absurd (omega arith)

before_point : (p : Key → Bool) (vs : List View) (m : ℕ) → partition_point p (start_keys vs) ≡ suc m → Before p vs m
unfolding partition_point start_keys at
before_point p [] m e = absurd (omega arith)
before_point p (v ∷ vs) m e = go (p (start_key v)) refl e m refl (before_point p vs)
  where
    go :
        (t : Bool)
        → p (start_key v) ≡ t
        → pick t (suc (partition_point p (start_keys vs))) 0 ≡ suc m
        → (n : ℕ)
        → m ≡ n
        → ((k : ℕ) → partition_point p (start_keys vs) ≡ suc k → Before p vs k)
        → Before p (v ∷ vs) n
    go false q e n z ih = absurd (omega arith)
    go true q e zero z ih = record { view = v; here = refl; passes = q; next_fails = first_fails p vs (omega arith) }
    go true q e (suc n) z ih =
        let b = ih n (omega arith) in
        record { view = b.view; here = b.here; passes = b.passes; next_fails = b.next_fails }

-- ---- it intersects
later-≺ : {c d e : Cut} → c ≺ e → d ≺ e → later c d ≺ e
later-≺ {c} {d} {e} h k = elim (order c d) [ inl l ↦ rw (later_right l) k | inr l ↦ rw (later_left (≺-≼ l)) h ]

-- an end that does not hold a key stands at or before it
ends_before : (e : Bound) (k : Key) → end_holds e k ≡ false → end_cut e ≼ before k
ends_before e k h = ≼-before (record { fails = sym (end_holds_by_cuts e k) ∙ h })

reaches_next : (v : View) (k : Key) → before k ≼ end_cut (end_before v k)
reaches_next v k = go (holds (effective v) k)
  where
    go : (t : Bool) → before k ≼ end_cut (pick t (included k) (excluded k))
    go true = ≺-≼ (before-≺-after k)
    go false = ≼_refl (before k)

-- an end at or before the next view's start stands at or before the view's end bound
end_by_bound : (v : View) (o : Option View) (e : Bound) → ((n : View) → o ≡ some n → end_holds e (start_key n) ≡ false) → end_cut e ≼ end_cut (end_bound (some v) o)
end_by_bound v none e h = ≼-above (end_cut e)
end_by_bound v (some n) e h = ≼_trans (ends_before e (start_key n) (h n refl)) (reaches_next v (start_key n))

last_intersects :
    (v : View) (o : Option View) (asked : Range)
    → table_passes v ≡ true
    → non_empty asked ≡ true
    → end_holds asked.end (start_key v) ≡ true
    → ((n : View) → o ≡ some n → end_holds asked.end (start_key n) ≡ false)
    → intersects_range v (end_bound (some v) o) asked ≡ true
last_intersects v o asked p a h n =
    let e : Bound = asked.end in
    let b = end_by_bound v o e n in
    let k = start_key_is_the_start v p in
    let s : start_cut (effective v).start ≺ end_cut e = rw (ap start_cut k) (before-≺ (record { holds = sym (end_holds_by_cuts e (start_key v)) ∙ h })) in
    let t : start_cut asked.start ≺ end_cut e = passes-≺ asked.start e a in
    intersects_range_by_cuts v (end_bound (some v) o) asked p
    ∙ below-of-≺ (≺-sooner (later-≺ (≺-≼-trans s b) (≺-≼-trans t b)) (later-≺ s t))

max_intersects :
    (vs : List View) (asked : Range) (m : ℕ)
    → all table_passes vs ≡ true
    → non_empty asked ≡ true
    → end_count vs asked.end ≡ suc m
    → table_intersects vs asked m ≡ true
unfolding end_count table_intersects table_end_bound
max_intersects vs asked m p a c =
    let b = before_point (end_holds asked.end) vs m c in
    ap (λ o. intersects_up_to o (end_bound o (at vs (suc m))) asked) b.here
    ∙ last_intersects b.view (at vs (suc m)) asked (at_passes table_passes vs m b.view p b.here) a b.passes b.next_fails

-- ---- whether the first view starts by the end
counts_none : (vs : List View) (e : Bound) → starts_by vs e ≡ false → end_count vs e ≡ 0
unfolding end_count partition_point start_keys
counts_none [] e h = refl
counts_none (v ∷ vs) e h = rw h

pub table_idx_is_nowhere_before_the_run : TableIdxIsNowhereBeforeTheRun
unfolding table_idx_covering_range
table_idx_is_nowhere_before_the_run vs asked h =
    ap (covered_to vs asked) (max_is vs asked.end ∙ ap last_before (counts_none vs asked.end h))

counts_some : (vs : List View) (e : Bound) → starts_by vs e ≡ true → end_count vs e ≡ suc (end_count vs e - 1)
unfolding end_count partition_point start_keys
counts_some [] e h = absurd (false≢true h)
counts_some (v ∷ vs) e h = rw h (omega arith)

pub table_idx_finds_a_table_elsewhere : TableIdxFindsATableElsewhere
unfolding table_idx_covering_range
table_idx_finds_a_table_elsewhere vs asked p a h =
    let m = end_count vs asked.end - 1 in
    let c : end_count vs asked.end ≡ suc m = counts_some vs asked.end h in
    let l : max_idx vs asked.end ≡ some m = max_is vs asked.end ∙ ap last_before c in
    let t = max_intersects vs asked m p a c in
    rw (l, t) (found vs asked m a l t)
