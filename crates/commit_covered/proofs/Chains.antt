-- The chain of an entry goes through all ids that have it; and one id more leaves the chains of those before as they were.
-- Assumes nothing.
use Prim.Native.Nat.{ℕ, suc, ◌+◌, ◌-◌, ◌*◌, ◌≤◌, ◌<◌}
use native.Mathlib.Omega.{arith}
use native.Mathlib.Nat.{mod-lt}
use mathlib.Core.Path.{◌≡◌, refl, sym, ◌∙◌}
use mathlib.Core.Bool.{Bool, true, false, ◌||◌}
use mathlib.Core.List.{List, [], ◌∷◌, ◌++◌}
use lib.Dec.{eqb}
use lib.ListN.{length, get_or, take, drop, set, length-set, length-append}
use lib.Seq.{get_or-set_same, get_or-set_other}
use borrow.Author.Tests.{eqb-true, eqb-false}
use Rattle.base.specs.Pick.{pick}
use Rattle.key.specs.Order.{cmp_key, is_equal}
use Rattle.std.specs.declared.cmp.Ordering.{Ordering}
use Rattle.std.specs.declared.cmp.Ordering.TheVariants.{Less, Equal, Greater}
use Rattle.key.proofs.Linear.{key_order_is_total}
use Rattle.records.specs.Values.{Table}
use Rattle.records.specs.declared.ids.TableId.{TableId}
use Rattle.incremental_progress.specs.Ids.{same_table_id}
use Rattle.commit_covered.specs.Kept.{id_among, entry_of, newest, latest, Chained, none_kept, kept, IdsKept}

-- ---- entries
pub entry_below : (n : ℕ) (x : TableId) → 0 < n → entry_of n x < n
unfolding entry_of
entry_below n x h = mod-lt _ h

-- ids that are the same have one entry
same_entry : (n : ℕ) (x y : TableId) → same_table_id x y ≡ true → entry_of n x ≡ entry_of n y
unfolding entry_of
same_entry n x y e = go (cmp_key x.0 y.0) refl e
  where
    go : (o : Ordering) → cmp_key x.0 y.0 ≡ o → is_equal o ≡ true → entry_of n x ≡ entry_of n y
    go Equal f e = rw (key_order_is_total.equal x.0 y.0 f)
    go Less f e = absurd (let z : ◌≡◌ {A = ℕ} 0 1 = cc in omega arith)
    go Greater f e = absurd (let z : ◌≡◌ {A = ℕ} 0 1 = cc in omega arith)

-- ---- last first
unfoldable pub has_id : TableId → List TableId → Bool
has_id x [] = false
has_id x (i ∷ is) = same_table_id x i || has_id x is

pub newest_more : (is : List TableId) (ts : List Table) (t : Table) → newest is (ts ++ (t ∷ [])) ≡ t.id ∷ newest is ts
unfolding newest
newest_more is [] t = refl
newest_more is (u ∷ ts) t = newest_more (u.id ∷ is) ts t

pub length_newest : (is : List TableId) (ts : List Table) → length (newest is ts) ≡ length is + length ts
unfolding newest
length_newest is [] = omega arith
length_newest is (t ∷ ts) = length_newest (t.id ∷ is) ts ∙ omega arith

pub among_newest : (x : TableId) (is : List TableId) (ts : List Table) → has_id x (newest is ts) ≡ (id_among x ts || has_id x is)
unfolding newest id_among has_id
among_newest x is [] = refl
among_newest x is (t ∷ ts) = among_newest x (t.id ∷ is) ts ∙ crossed (id_among x ts) (same_table_id x t.id) (has_id x is)
  where
    crossed : (a b c : Bool) → (a || (b || c)) ≡ ((b || a) || c)
    crossed true true c = refl
    crossed true false c = refl
    crossed false true c = refl
    crossed false false c = refl

-- ---- one id more
chained_same : {s chain chain' : List ℕ} {n : ℕ} {is : List TableId} → ((i : ℕ) → i < length is * 2 → get_or chain' i 0 ≡ get_or chain i 0) → Chained s chain n is → Chained s chain' n is
chained_same f none_kept = none_kept
chained_same f (kept {i} {is} a b c d) =
    let x = f (length is * 2) (omega arith) in
    let y = f (length is * 2 + 1) (omega arith) in
    kept {i = i} {is = is} (rw x a) (rw x b) (y ∙ c) (chained_same (λ i h. f i (omega arith)) d)

-- the row of the new id, and the entry that it takes
abbrev pub row_put : List ℕ → List ℕ → ℕ → ℕ → ℕ → List ℕ
row_put chain slots k e place = set (set chain (k * 2) place) (k * 2 + 1) (get_or slots e 0)

module _ {s : List ℕ} {ts : List Table} {chain slots : List ℕ} (p : IdsKept s ts chain slots) (t : Table) (place : ℕ) (h : place + 16 ≤ length s) (f : take 16 (drop place s) ≡ t.id.0) (l : length ts * 2 + 2 ≤ length chain) where
  count : length (newest [] ts) ≡ length ts
  count = length_newest [] ts ∙ omega arith

  put_place : get_or (row_put chain slots (length ts) (entry_of (length slots) t.id) place) (length ts * 2) 0 ≡ place
  put_place =
      get_or-set_other (set chain (length ts * 2) place) (length ts * 2 + 1) (length ts * 2) _ 0 (λ z. omega (arith, z))
      ∙ get_or-set_same chain (length ts * 2) place 0 (omega arith)

  put_before : get_or (row_put chain slots (length ts) (entry_of (length slots) t.id) place) (length ts * 2 + 1) 0 ≡ latest (length slots) (entry_of (length slots) t.id) (newest [] ts)
  put_before =
      get_or-set_same (set chain (length ts * 2) place) (length ts * 2 + 1) _ 0 (rw length-set (omega arith))
      ∙ p.lasts (entry_of (length slots) t.id) (entry_below (length slots) t.id p.some_slot)

  put_other : (i : ℕ) → i < length (newest [] ts) * 2 → get_or (row_put chain slots (length ts) (entry_of (length slots) t.id) place) i 0 ≡ get_or chain i 0
  put_other i k =
      get_or-set_other (set chain (length ts * 2) place) (length ts * 2 + 1) i _ 0 (λ z. omega (arith, z, count))
      ∙ get_or-set_other chain (length ts * 2) i place 0 (λ z. omega (arith, z, count))

  lasts_more : (d : ℕ) → d < length slots → get_or (set slots (entry_of (length slots) t.id) (length ts + 1)) d 0 ≡ latest (length slots) d (t.id ∷ newest [] ts)
  unfolding latest
  lasts_more d k = go (eqb (entry_of (length slots) t.id) d) refl
    where
      go : (b : Bool) → eqb (entry_of (length slots) t.id) d ≡ b → get_or (set slots (entry_of (length slots) t.id) (length ts + 1)) d 0 ≡ pick b (suc (length (newest [] ts))) (latest (length slots) d (newest [] ts))
      go true x = rw (eqb-true (entry_of (length slots) t.id) d x) (get_or-set_same slots d (length ts + 1) 0 k ∙ omega (arith, count))
      go false x = get_or-set_other slots (entry_of (length slots) t.id) d (length ts + 1) 0 (λ z. eqb-false (entry_of (length slots) t.id) d x (sym z)) ∙ p.lasts d k

  row_more : Chained s (row_put chain slots (length ts) (entry_of (length slots) t.id) place) (length slots) (t.id ∷ newest [] ts)
  row_more =
      kept {i = t.id} {is = newest [] ts} (rw (count, put_place) h) (rw (count, put_place) f) (rw count put_before) (chained_same put_other p.chained)

  pub kept_more : IdsKept s (ts ++ (t ∷ [])) (row_put chain slots (length ts) (entry_of (length slots) t.id) place) (set slots (entry_of (length slots) t.id) (length ts + 1))
  kept_more =
      record {
        long = rw (length-append ts (t ∷ []), length-set, length-set) (omega arith);
        some_slot = rw length-set p.some_slot;
        chained = rw (length-set slots, newest_more [] ts t) row_more;
        lasts = rw (length-set slots, newest_more [] ts t) lasts_more;
      }

-- ---- the chain of an entry
abbrev Entered : ℕ → ℕ → List TableId → Type 0
Entered n e [] = Unit {0}
Entered n e (i ∷ is) = entry_of n i ≡ e

-- the ids from the latest of x's entry on: x is among them, if it is among all
pub record From (s chain : List ℕ) (n : ℕ) (x : TableId) (is : List TableId) (r : ℕ) : Type 0 where
  pub rest : List TableId
  pub count : r ≡ length rest
  pub upto : length rest ≤ length is
  pub chained : Chained s chain n rest
  pub entered : Entered n (entry_of n x) rest
  pub same : has_id x is ≡ has_id x rest

pub from_latest : {s chain : List ℕ} {n : ℕ} (x : TableId) {is : List TableId} → Chained s chain n is → From s chain n x is (latest n (entry_of n x) is)
unfolding latest has_id
from_latest x none_kept = record { rest = []; count = refl; upto = omega arith; chained = none_kept; entered = tt; same = refl }
from_latest {s} {chain} {n} x (kept {i} {is} a b c d) = go (eqb (entry_of n i) (entry_of n x)) refl (from_latest x d)
  where
    other : same_table_id x i ≡ true → eqb (entry_of n i) (entry_of n x) ≡ false → ⊥
    other e f = eqb-false (entry_of n i) (entry_of n x) f (sym (same_entry n x i e))

    skip : (q : Bool) → same_table_id x i ≡ q → eqb (entry_of n i) (entry_of n x) ≡ false → (q || has_id x is) ≡ has_id x is
    skip true e f = absurd (other e f)
    skip false e f = refl

    go : (q : Bool) → eqb (entry_of n i) (entry_of n x) ≡ q → From s chain n x is (latest n (entry_of n x) is) → From s chain n x (i ∷ is) (pick q (suc (length is)) (latest n (entry_of n x) is))
    go true e w = record { rest = i ∷ is; count = refl; upto = omega arith; chained = kept a b c d; entered = eqb-true (entry_of n i) (entry_of n x) e; same = refl }
    go false e w =
        record { rest = w.rest; count = w.count; upto = omega (arith, w.upto); chained = w.chained; entered = w.entered; same = skip (same_table_id x i) refl e ∙ w.same }

-- an id that has a row: the first of a chain
pub record First (s chain : List ℕ) (n : ℕ) (x : TableId) (all : List TableId) (left : ℕ) : Type 0 where
  pub id : TableId
  pub older : List TableId
  pub count : left ≡ suc (length older)
  pub upto : left ≤ length all
  pub inside : get_or chain ((left - 1) * 2) 0 + 16 ≤ length s
  pub is : take 16 (drop (get_or chain ((left - 1) * 2) 0) s) ≡ id.0
  pub next : get_or chain ((left - 1) * 2 + 1) 0 ≡ latest n (entry_of n x) older
  pub chained : Chained s chain n older
  pub same : has_id x all ≡ (same_table_id x id || has_id x older)

pub first_of : {s chain : List ℕ} {n : ℕ} {x : TableId} {all : List TableId} {left : ℕ} → From s chain n x all left → 0 < left → First s chain n x all left
unfolding has_id
first_of {s} {chain} {n} {x} {all} {left} p h = go p.rest p.count p.upto p.chained p.entered p.same
  where
    row : {i : TableId} {is : List TableId} → left ≡ suc (length is) → suc (length is) ≤ length all → entry_of n i ≡ entry_of n x → has_id x all ≡ has_id x (i ∷ is) → Chained s chain n (i ∷ is) → First s chain n x all left
    row {i} {is} c u e q (kept a b d k) =
        let z : left - 1 ≡ length is = omega (arith, c) in
        record { id = i; older = is; count = c; upto = omega (arith, c, u); inside = rw z a; is = rw z b; next = rw (z, ← e) d; chained = k; same = q }

    go : (rest : List TableId) → left ≡ length rest → length rest ≤ length all → Chained s chain n rest → Entered n (entry_of n x) rest → has_id x all ≡ has_id x rest → First s chain n x all left
    go [] c u k e q = absurd (omega arith)
    go (i ∷ is) c u k e q = row c u e q k
