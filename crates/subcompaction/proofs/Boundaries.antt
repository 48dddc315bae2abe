-- The boundaries between planned ranges: which keys they are, how many, when one opens and when there is none.
-- Assumes nothing.
use Prim.Native.Nat.{ℕ, suc, ◌+◌, ◌-◌, ◌*◌, ◌<◌, ◌≤◌}
use native.Mathlib.Nat.{suc-mul, zero-mul}
use native.Mathlib.Omega.{arith}
use mathlib.Core.Path.{◌≡◌, refl, ap}
use mathlib.Core.Logic.{inl, inr}
use mathlib.Core.Bool.{Bool, true, ◌&&◌}
use mathlib.Core.List.{List, [], ◌∷◌, ◌++◌, map}
use lib.ListN.{length}
use lib.Dec.{leb, ltb}
use borrow.Author.Tests.{leb-true, ltb-true, le-leb, lt-ltb}
use Rattle.base.specs.Lists.{All, Pairwise, All-map}
use Rattle.base.specs.Pick.{and_first, and_second}
use Rattle.base.specs.SortLaws.{decided}
use Rattle.base.proofs.SortLaws.{All-sort}
use Rattle.base.proofs.StableSort.{sort_is_stable, only_the_sort_is_stable}
use Rattle.key.specs.Order.{Key, key_at_most, key_below}
use Rattle.records.specs.Values.{Anchor, Anchors}
use Rattle.manifest.specs.Checks.{total}
use Rattle.incremental_progress.specs.Members.{In, here, further}
use Rattle.subcompaction.specs.Boundaries.{target, unsplit, prepared, boundaries_from, boundaries, chosen}
use Rattle.subcompaction.specs.PlanLaws.{Smallest, Split, Reached, AnchorsAreSortedStably, BoundariesAreAnchorKeys, BoundariesOpenOnceReached}
use Rattle.key.proofs.KeyOrder.{keys_ordered, at_most_below, below_trans}

-- whether a boundary opens at a key
abbrev pub opens : ℕ → ℕ → ℕ → Key → Key → Bool
opens left threshold reached last k = ltb 0 left && leb threshold reached && key_below last k

-- why one opens
pub record Opens (left threshold reached : ℕ) (last k : Key) : Type 0 where
  pub some_left : 0 < left
  pub reaches : threshold ≤ reached
  pub above : key_below last k ≡ true

pub why : (left threshold reached : ℕ) (last k : Key) → opens left threshold reached last k ≡ true → Opens left threshold reached last k
why left threshold reached last k h =
    let t = and_first (ltb 0 left && leb threshold reached) (key_below last k) h in
    record {
      some_left = ltb-true 0 left (and_first (ltb 0 left) (leb threshold reached) t);
      reaches = leb-true threshold reached (and_second (ltb 0 left) (leb threshold reached) t);
      above = and_second (ltb 0 left && leb threshold reached) (key_below last k) h;
    }

pub opens_there : (left threshold reached : ℕ) (last k : Key) → 0 < left → threshold ≤ reached → key_below last k ≡ true → opens left threshold reached last k ≡ true
opens_there left threshold reached last k n h b = rw (lt-ltb 0 left n, le-leb threshold reached h, b)

-- ---- from a place on
module _ (goal : ℕ) where
  from_of : (P : Key → Type 0) (left threshold reached : ℕ) (last : Key) (l : Anchors) → All (λ x. P x.key) l → All P (boundaries_from goal left threshold reached last l)
  unfolding boundaries_from
  from_of P left threshold reached last [] h = tt
  from_of P left threshold reached last (a ∷ l) h =
      elim (decided (opens left threshold reached last a.key)) [
        | inl o ↦ rw o (h.0, from_of P (left - 1) (threshold + goal) (reached + a.bytes) a.key l h.1)
        | inr o ↦ rw o (from_of P left threshold (reached + a.bytes) last l h.1)
      ]

  from_above : (left threshold reached : ℕ) (last : Key) (l : Anchors) → All (λ k. key_below last k ≡ true) (boundaries_from goal left threshold reached last l)
  unfolding boundaries_from
  from_above left threshold reached last [] = tt
  from_above left threshold reached last (a ∷ l) =
      elim (decided (opens left threshold reached last a.key)) [
        | inl o ↦
            let n = (why left threshold reached last a.key o).above in
            let t = boundaries_from goal (left - 1) (threshold + goal) (reached + a.bytes) a.key l in
            rw o (n, All-map (λ k m. below_trans last a.key k n m) t (from_above (left - 1) (threshold + goal) (reached + a.bytes) a.key l))
        | inr o ↦ rw o (from_above left threshold (reached + a.bytes) last l)
      ]

  from_ascends : (left threshold reached : ℕ) (last : Key) (l : Anchors) → Pairwise (λ k m. key_below k m ≡ true) (boundaries_from goal left threshold reached last l)
  unfolding boundaries_from
  from_ascends left threshold reached last [] = tt
  from_ascends left threshold reached last (a ∷ l) =
      elim (decided (opens left threshold reached last a.key)) [
        | inl o ↦ rw o (from_above (left - 1) (threshold + goal) (reached + a.bytes) a.key l, from_ascends (left - 1) (threshold + goal) (reached + a.bytes) a.key l)
        | inr o ↦ rw o (from_ascends left threshold (reached + a.bytes) last l)
      ]

  from_few : (left threshold reached : ℕ) (last : Key) (l : Anchors) → length (boundaries_from goal left threshold reached last l) ≤ left
  unfolding boundaries_from
  from_few left threshold reached last [] = omega arith
  from_few left threshold reached last (a ∷ l) =
      elim (decided (opens left threshold reached last a.key)) [
        | inl o ↦
            let n = (why left threshold reached last a.key o).some_left in
            let m = from_few (left - 1) (threshold + goal) (reached + a.bytes) a.key l in
            rw o (omega arith)
        | inr o ↦ rw o (from_few left threshold (reached + a.bytes) last l)
      ]

-- ---- the smallest key, and each key among those given
keys_there : (a : Anchors) → All (λ x. In x.key (map (λ y. y.key) a)) a
keys_there [] = tt
keys_there (x ∷ a) = (here refl, All-map (λ y i. further i) a (keys_there a))

pub prepared_there : (a : Anchors) → All (λ x. In x.key (map (λ y. y.key) a)) (prepared a)
unfolding prepared
prepared_there a = All-sort key_at_most (λ x. x.key) (λ x. In x.key (map (λ y. y.key) a)) a (keys_there a)

pub prepared_least : (m : Key) (a : Anchors) → Smallest m a → All (λ x. key_at_most m x.key ≡ true) (prepared a)
unfolding prepared
prepared_least m a s = All-sort key_at_most (λ x. x.key) (λ x. key_at_most m x.key ≡ true) a s.least

-- of anchors in order
module _ (parts goal : ℕ) where
  pub ordered_of : (P : Key → Type 0) (l : Anchors) → All (λ x. P x.key) l → All P (boundaries parts goal l)
  unfolding boundaries
  ordered_of P [] h = tt
  ordered_of P (a ∷ l) h = from_of goal P (parts - 1) goal 0 a.key (a ∷ l) h

  ordered_ascend : (l : Anchors) → Pairwise (λ k m. key_below k m ≡ true) (boundaries parts goal l)
  unfolding boundaries
  ordered_ascend [] = tt
  ordered_ascend (a ∷ l) = from_ascends goal (parts - 1) goal 0 a.key (a ∷ l)

  ordered_above : (m : Key) (l : Anchors) → All (λ x. key_at_most m x.key ≡ true) l → All (λ k. key_below m k ≡ true) (boundaries parts goal l)
  unfolding boundaries
  ordered_above m [] h = tt
  ordered_above m (a ∷ l) h =
      All-map (λ k b. at_most_below m a.key k h.0 b) (boundaries_from goal (parts - 1) goal 0 a.key (a ∷ l)) (from_above goal (parts - 1) goal 0 a.key (a ∷ l))

  ordered_few : (l : Anchors) → length (boundaries parts goal l) ≤ parts - 1
  unfolding boundaries
  ordered_few [] = omega arith
  ordered_few (a ∷ l) = from_few goal (parts - 1) goal 0 a.key (a ∷ l)

-- ---- those chosen
module _ (parts least : ℕ) (a : Anchors) where
  abbrev aim : ℕ
  aim = target parts least (total a)

  -- what holds of none and of the boundaries of the anchors in order holds of those chosen
  pub chosen_is : (P : List Key → Type 0) → P [] → P (boundaries parts aim (prepared a)) → P (chosen parts least a)
  unfolding chosen
  chosen_is P n c = elim (decided (unsplit parts aim (total a))) [ inl h ↦ rw h n | inr h ↦ rw h c ]

  pub chosen_of : (P : Key → Type 0) → All (λ x. P x.key) a → All P (chosen parts least a)
  unfolding prepared
  chosen_of P h = chosen_is (All P) tt (ordered_of parts aim P (prepared a) (All-sort key_at_most (λ x. x.key) (λ x. P x.key) a h))

  pub chosen_ascend : Pairwise (λ k m. key_below k m ≡ true) (chosen parts least a)
  chosen_ascend = chosen_is (Pairwise (λ k m. key_below k m ≡ true)) tt (ordered_ascend parts aim (prepared a))

  pub chosen_few : length (chosen parts least a) ≤ parts - 1
  chosen_few = chosen_is (λ l. length l ≤ parts - 1) (omega arith) (ordered_few parts aim (prepared a))

  chosen_above : (m : Key) → Smallest m a → All (λ k. key_below m k ≡ true) (chosen parts least a)
  chosen_above m s = chosen_is (All (λ k. key_below m k ≡ true)) tt (ordered_above parts aim m (prepared a) (prepared_least m a s))

pub boundaries_are_anchor_keys : BoundariesAreAnchorKeys
boundaries_are_anchor_keys parts least a =
    record {
      anchors = chosen_of parts least a (λ k. In k (map (λ y. y.key) a)) (keys_there a);
      ascending = chosen_ascend parts least a;
      above = chosen_above parts least a;
    }

-- ---- when one opens
-- an anchor with a key, and the bytes before it after those that were reached
record Opened (l : Anchors) (bytes reached : ℕ) (k : Key) : Type 0 where
  split : Split l k
  reach : bytes ≤ reached + total split.before

none_there : (front : List Key) (k : Key) (rest : List Key) → [] ≡ front ++ (k ∷ rest) → ⊥
none_there [] k rest e = let z : ◌≡◌ {A = ℕ} 0 1 = cc in omega arith
none_there (f ∷ front) k rest e = let z : ◌≡◌ {A = ℕ} 0 1 = cc in omega arith

opened_here : {a : Anchor} {l : Anchors} {k : Key} {bytes reached : ℕ} → a.key ≡ k → bytes ≤ reached → Opened (a ∷ l) bytes reached k
unfolding total
opened_here {a} {l} e h =
    record { split = record { before = []; anchor = a; after = l; is = refl; key = e }; reach = omega arith }

opened_later : {a : Anchor} {l : Anchors} {k : Key} {bytes reached : ℕ} → Opened l bytes (reached + a.bytes) k → Opened (a ∷ l) bytes reached k
unfolding total
opened_later {a} {l} o =
    let s = o.split in
    record {
      split = record { before = a ∷ s.before; anchor = s.anchor; after = s.after; is = ap (λ m. a ∷ m) s.is; key = s.key };
      reach = omega (arith, o.reach);
    }

module _ (goal : ℕ) where
  more : {l : Anchors} (threshold n : ℕ) {reached : ℕ} {k : Key} → Opened l (threshold + goal + n * goal) reached k → Opened l (threshold + suc n * goal) reached k
  more threshold n o = record { split = o.split; reach = rw suc-mul (omega (arith, o.reach)) }

  from_reached :
      (left threshold reached : ℕ) (last : Key) (l : Anchors) (front : List Key) (k : Key) (rest : List Key)
      → boundaries_from goal left threshold reached last l ≡ front ++ (k ∷ rest)
      → Opened l (threshold + length front * goal) reached k
  unfolding boundaries_from
  from_reached left threshold reached last [] front k rest e = absurd (none_there front k rest e)
  from_reached left threshold reached last (a ∷ l) [] k rest e =
      elim (decided (opens left threshold reached last a.key)) [
        | inl o ↦
            let f = rw o at e in
            opened_here (cc f) (omega (arith, zero-mul goal, (why left threshold reached last a.key o).reaches))
        | inr o ↦ opened_later (from_reached left threshold (reached + a.bytes) last l [] k rest (rw o at e))
      ]
  from_reached left threshold reached last (a ∷ l) (x ∷ front) k rest e =
      elim (decided (opens left threshold reached last a.key)) [
        | inl o ↦
            let f = rw o at e in
            opened_later (more threshold (length front) (from_reached (left - 1) (threshold + goal) (reached + a.bytes) a.key l front k rest (cc f)))
        | inr o ↦ opened_later (from_reached left threshold (reached + a.bytes) last l (x ∷ front) k rest (rw o at e))
      ]

  ordered_reached :
      (parts : ℕ) (l : Anchors) (front : List Key) (k : Key) (rest : List Key)
      → boundaries parts goal l ≡ front ++ (k ∷ rest)
      → Opened l (goal + length front * goal) 0 k
  unfolding boundaries
  ordered_reached parts [] front k rest e = absurd (none_there front k rest e)
  ordered_reached parts (a ∷ l) front k rest e = from_reached (parts - 1) goal 0 a.key (a ∷ l) front k rest e

reached_of : {a : Anchors} (goal n : ℕ) {k : Key} → Opened (prepared a) (goal + n * goal) 0 k → Reached a (suc n * goal) k
reached_of goal n o = record { split = o.split; reach = rw suc-mul (omega (arith, o.reach)) }

pub boundaries_open_once_reached : BoundariesOpenOnceReached
unfolding chosen
boundaries_open_once_reached parts least a front k rest e =
    let goal = target parts least (total a) in
    elim (decided (unsplit parts goal (total a))) [
      | inl h ↦ absurd (none_there front k rest (rw h at e))
      | inr h ↦ reached_of goal (length front) (ordered_reached goal parts (prepared a) front k rest (rw h at e))
    ]

-- ---- the order of anchors
pub anchors_are_sorted_stably : AnchorsAreSortedStably
unfolding prepared
anchors_are_sorted_stably a b =
    (λ s. only_the_sort_is_stable Anchor Key key_at_most keys_ordered (λ x. x.key) a b s, λ e. rw e (sort_is_stable Anchor Key key_at_most keys_ordered (λ x. x.key) a))
