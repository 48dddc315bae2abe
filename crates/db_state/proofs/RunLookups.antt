-- Lookups in the views of a run that ascend: the first view's start is at or before every other's, and a view's at or before
-- the next one's.
-- Assumes nothing.
use Prim.Native.Nat.{ℕ, zero, suc}
use native.Mathlib.Omega.{arith}
use mathlib.Core.Path.{◌≡◌, refl, sym, ap, ◌∙◌}
use mathlib.Core.Logic.{inl, inr}
use mathlib.Core.Bool.{Bool, true, false, ◌&&◌, and-true, false≢true}
use mathlib.Core.Option.{some}
use mathlib.Core.List.{List, [], ◌∷◌}
use Rattle.base.specs.Pick.{pick, and_first, and_second}
use Rattle.key.specs.Order.{Key, at_most}
use Rattle.comparable_range.specs.Range.{Sides}
use Rattle.std.specs.Prelude.{None, Some}
use Rattle.comparable_range.specs.Range.{Bound, included, excluded, Range, cmp_bound, non_empty, holds, chosen, intersect_sides, meets}
use Rattle.comparable_range.specs.Cut.{before, cut_at_most, ◌≼◌, ◌≺◌, start_cut, end_cut}
use Rattle.comparable_range.specs.Laws.{held_by}
use Rattle.comparable_range.proofs.Cut.{order, ≼_refl, ≼-antisym, ≼_trans, ≼-≺-trans, before-≺-after}
use Rattle.comparable_range.proofs.ByCuts.{cmp_start, cmp_end, start_injective, ≺-passes, held_parts, held_by_parts}
use Rattle.comparable_range.proofs.Intersection.{intersect_holds_what_both_hold}
use Rattle.records.specs.Values.{View}
use Rattle.manifest.specs.Ranges.{effective}
use Rattle.manifest.specs.Checks.{all, table_passes, ascend, ascend_from, starts}
use Rattle.manifest.proofs.ViewRanges.{effective_start_is_held}
use Rattle.db_state.specs.Places.{at}
use Rattle.db_state.specs.Lookup.{between, start_key, end_before, last_view, span, overlaps_range}
use Rattle.db_state.specs.LookupLaws.{some_holds, OverlapsRangeSkipsNoKey, SpanPasses, ToNextPasses}
use Rattle.db_state.proofs.Intersects.{start_key_is_the_start, starts_before_end}

-- ---- tests of bounds as statements
later_start : (a b : Bound) → at_most (cmp_bound true a b) ≡ true → start_cut a ≼ start_cut b
unfolding cut_at_most
later_start a b h = record { holds = ap at_most (sym (cmp_start a b)) ∙ h }

later_end : (a b : Bound) → at_most (cmp_bound false a b) ≡ true → end_cut a ≼ end_cut b
unfolding cut_at_most
later_end a b h = record { holds = ap at_most (sym (cmp_end a b)) ∙ h }

-- a key of a range lies in each wider one
wider :
    (r q : Range) (x : Key)
    → start_cut q.start ≼ start_cut r.start
    → end_cut r.end ≼ end_cut q.end
    → holds q x ≡ false
    → holds r x ≡ false
wider r q x s e n = go (holds r x) refl
  where
    go : (t : Bool) → holds r x ≡ t → t ≡ false
    go false h = refl
    go true h = let p = held_parts r x h in sym (held_by_parts q x (≼_trans s p.0) (≼_trans p.1 e)) ∙ n

-- ---- overlaps_range
-- no view that starts at or after s and ends at or before e holds a key outside of them
none_holds :
    (s e : Bound) (x : Key) (vs : List View)
    → ascend_from s (starts vs) ≡ true
    → all (λ w. at_most (cmp_bound false (effective w).end e)) vs ≡ true
    → holds (between s e) x ≡ false
    → some_holds vs x ≡ false
unfolding ascend_from all
none_holds s e x [] a b n = refl
none_holds s e x (v ∷ vs) a b n =
    let t : Bound = (effective v).start in
    let l = later_start s t (and_first (at_most (cmp_bound true s t)) (ascend_from t (starts vs)) a) in
    let m = later_end (effective v).end e (and_first (at_most (cmp_bound false (effective v).end e)) _ b) in
    let h = wider (effective v) (between s e) x l m n in
    let k = wider (between t e) (between s e) x l (≼_refl (end_cut e)) n in
    rw h (none_holds t e x vs (and_second (at_most (cmp_bound true s t)) (ascend_from t (starts vs)) a) (and_second (at_most (cmp_bound false (effective v).end e)) _ b) k)

-- ranges that do not meet share no key
apart : (r q : Range) (x : Key) → meets (intersect_sides r q) ≡ false → holds q x ≡ true → holds r x ≡ false
apart r q x n h = sym (and-true (holds r x)) ∙ (ap (λ t. holds r x && t) (sym h) ∙ (sym (intersect_holds_what_both_hold r q x) ∙ go (intersect_sides r q) n))
  where
    go : (s : Sides) → meets s ≡ false → held_by (chosen r q s) x ≡ false
    go None n = refl
    go (Some (s, e)) n = absurd (false≢true (sym n))

-- a start is at or before itself
ascends_itself : (v : View) (vs : List View) → ascend (starts (v ∷ vs)) ≡ true → ascend_from (effective v).start (starts (v ∷ vs)) ≡ true
unfolding ascend_from cut_at_most
ascends_itself v vs a =
    let s : Bound = (effective v).start in
    rw (ap at_most (cmp_start s s) ∙ (≼_refl (start_cut s)).holds) a

pub overlaps_range_skips_no_key : OverlapsRangeSkipsNoKey
unfolding overlaps_range
overlaps_range_skips_no_key [] asked a b n x h = refl
overlaps_range_skips_no_key (v ∷ vs) asked a b n x h =
    none_holds (effective v).start (effective (last_view v vs)).end x (v ∷ vs) (ascends_itself v vs a) b (apart (span v vs) asked x n h)

-- ---- the span
last_passes : (v : View) (vs : List View) → all table_passes (v ∷ vs) ≡ true → table_passes (last_view v vs) ≡ true
unfolding all
last_passes v [] p = and_first (table_passes v) true p
last_passes v (w ∷ ws) p = last_passes w ws (and_second (table_passes v) _ p)

last_starts : (v : View) (vs : List View) → ascend (starts (v ∷ vs)) ≡ true → start_cut (effective v).start ≼ start_cut (effective (last_view v vs)).start
unfolding ascend_from
last_starts v [] a = ≼_refl (start_cut (effective v).start)
last_starts v (w ∷ ws) a =
    let s : Bound = (effective v).start in
    let t : Bound = (effective w).start in
    ≼_trans (later_start s t (and_first (at_most (cmp_bound true s t)) (ascend_from t (starts ws)) a))
    (last_starts w ws (and_second (at_most (cmp_bound true s t)) (ascend_from t (starts ws)) a))

pub span_passes : SpanPasses
span_passes v vs p a =
    ≺-passes (effective v).start (effective (last_view v vs)).end
    (≼-≺-trans (last_starts v vs a) (starts_before_end (last_view v vs) (last_passes v vs p)))

-- ---- up to the next view's start
pub at_passes : {A : Type 0} (p : A → Bool) (vs : List A) (idx : ℕ) (v : A) → all p vs ≡ true → at vs idx ≡ some v → p v ≡ true
unfolding all at
at_passes p [] idx v h e = absurd (let z : ◌≡◌ {A = ℕ} 0 1 = cc in omega arith)
at_passes p (w ∷ ws) zero v h e =
    let z : w ≡ v = cc in
    rw (← z) (and_first (p w) (all p ws) h)
at_passes p (w ∷ ws) (suc idx) v h e = at_passes p ws idx v (and_second (p w) (all p ws) h) e

ascends_next :
    (b : Bound) (vs : List View) (idx : ℕ) (v next : View)
    → ascend_from b (starts vs) ≡ true
    → at vs idx ≡ some v
    → at vs (suc idx) ≡ some next
    → at_most (cmp_bound true (effective v).start (effective next).start) ≡ true
unfolding ascend_from at
ascends_next b [] idx v next a e f = absurd (let z : ◌≡◌ {A = ℕ} 0 1 = cc in omega arith)
ascends_next b (u ∷ []) zero v next a e f = absurd (let z : ◌≡◌ {A = ℕ} 0 1 = cc in omega arith)
ascends_next b (u ∷ w ∷ ws) zero v next a e f =
    let y : u ≡ v = cc in
    let z : w ≡ next = cc in
    let s : Bound = (effective u).start in
    let t : Bound = (effective w).start in
    rw (← y, ← z) (and_first (at_most (cmp_bound true s t)) (ascend_from t (starts ws)) (and_second (at_most (cmp_bound true b s)) _ a))
ascends_next b (u ∷ us) (suc idx) v next a e f =
    let s : Bound = (effective u).start in
    ascends_next s us idx v next (and_second (at_most (cmp_bound true b s)) (ascend_from s (starts us)) a) e f

pub next_starts_later :
    (vs : List View) (idx : ℕ) (v next : View)
    → ascend (starts vs) ≡ true
    → at vs idx ≡ some v
    → at vs (suc idx) ≡ some next
    → start_cut (effective v).start ≼ start_cut (effective next).start
unfolding at
next_starts_later [] idx v next a e f = absurd (let z : ◌≡◌ {A = ℕ} 0 1 = cc in omega arith)
next_starts_later (u ∷ us) idx v next a e f =
    later_start (effective v).start (effective next).start
    (ascends_next (effective u).start (u ∷ us) idx v next (ascends_itself u us a) e f)

-- a start at or before a key that its range does not hold stands before it
not_held_later : (v : View) (k : Key) → table_passes v ≡ true → start_cut (effective v).start ≼ before k → holds (effective v) k ≡ false → start_cut (effective v).start ≺ before k
not_held_later v k p l n = elim (order (before k) (start_cut (effective v).start)) [
  | inl h ↦ let s = effective_start_is_held v p in
      let z : included s.key ≡ included k = sym s.start ∙ start_injective {a = (effective v).start} {b = included k} (≼-antisym l h) in
      let y : s.key ≡ k = cc in
      absurd (false≢true (sym n ∙ (ap (λ x. holds (effective v) x) (sym y) ∙ s.held)))
  | inr h ↦ h
]

to_next_lem :
    (v : View) (k : Key)
    → table_passes v ≡ true
    → start_cut (effective v).start ≼ before k
    → non_empty (between (effective v).start (end_before v k)) ≡ true
to_next_lem v k p l = go (holds (effective v) k) refl
  where
    go : (t : Bool) → holds (effective v) k ≡ t → non_empty (between (effective v).start (pick t (included k) (excluded k))) ≡ true
    go true e = ≺-passes (effective v).start (included k) (≼-≺-trans l (before-≺-after k))
    go false e = ≺-passes (effective v).start (excluded k) (not_held_later v k p l e)

pub to_next_passes : ToNextPasses
to_next_passes vs idx v next p a e f =
    let z = start_key_is_the_start next (at_passes table_passes vs (suc idx) next p f) in
    to_next_lem v (start_key next) (at_passes table_passes vs idx v p e)
    (rw (ap start_cut z) at (next_starts_later vs idx v next a e f))
