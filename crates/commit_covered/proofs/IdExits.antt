-- The exits of `entry`, `keep` and `is_kept`.
-- Assumes nothing.
use Prim.Native.Nat.{ℕ, ◌+◌, ◌-◌, ◌*◌, ◌%◌, ◌^◌, ◌≤◌, ◌<◌}
use native.Mathlib.Omega.{arith}
use native.Mathlib.Nat.{mod-lt}
use mathlib.Core.Path.{◌≡◌, refl, sym, ◌∙◌}
use mathlib.Core.Bool.{Bool, true, false, ◌||◌}
use mathlib.Core.List.{List, [], ◌∷◌, map}
use lib.ListN.{length, get_or, take, drop, set, length-set}
use borrow.Author.Rules.{length_unmapped}
use mir.Val.{Fits}
use mir.Syntax.{w64}
use Rattle.key.specs.Order.{cmp_key, is_equal}
use Rattle.key.specs.Word.{WordAt}
use Rattle.std.specs.declared.cmp.Ordering.{Ordering}
use Rattle.records.specs.Values.{Table}
use Rattle.records.specs.declared.ids.TableId.{TableId}
use Rattle.incremental_progress.specs.Ids.{same_table_id}
use Rattle.commit_covered.specs.Kept.{id_among, entry_of, newest, IdsKept}
use Rattle.commit_covered.proofs.Chains.{has_id, among_newest, length_newest, From, from_latest, First, first_of}

-- ---- entry
pub entry_is : (n : ℕ) (x : TableId) {h t : ℕ} → WordAt x.0 0 h → WordAt x.0 8 t → (h % 8161 + t % 8147) % n ≡ entry_of n x
unfolding entry_of
entry_is n x a b = rw (a.value, b.value)

pub entry_small : (n a : ℕ) → 0 < n → a % n < n
entry_small n a h = mod-lt a h

-- an id has 16 bytes
pub head_room : (l : List ℕ) → length (map (λ (v : ℕ). v) l) ≡ 16 → 8 ≤ length l
head_room l e = omega (arith, length_unmapped ℕ l 16 e)

pub tail_room : (l : List ℕ) → length (map (λ (v : ℕ). v) l) ≡ 16 → 16 ≤ length l
tail_room l e = omega (arith, length_unmapped ℕ l 16 e)

pub ruleset entry_exits = (entry_is, entry_small, head_room, tail_room)

-- ---- keep
module _ (chain : List ℕ) (k : ℕ) (h : k * 2 + 2 ≤ length chain) where
  pub put_room : k * 2 < length chain
  put_room = omega arith

  pub put_next_room : (place : ℕ) → k * 2 + 1 < length (set chain (k * 2) place)
  put_next_room place = rw length-set (omega arith)

  pub put_fits : length chain < 2 ^ 64 → Fits w64 (k * 2)
  put_fits l = omega arith

  pub put_next_fits : length chain < 2 ^ 64 → Fits w64 (k * 2 + 1)
  put_next_fits l = omega arith

module _ (chain slots : List ℕ) (k place : ℕ) (x : TableId) {e : ℕ} (f : e ≡ entry_of (length slots) x) where
  pub put_row : set (set chain (k * 2) place) (k * 2 + 1) (get_or slots e 0) ≡ set (set chain (k * 2) place) (k * 2 + 1) (get_or slots (entry_of (length slots) x) 0)
  put_row = rw f

  pub put_slot : set slots e (k + 1) ≡ set slots (entry_of (length slots) x) (k + 1)
  put_slot = rw f

pub ruleset keep_exits = (put_room, put_next_room, put_fits, put_next_fits, put_row, put_slot)

-- ---- is_kept
pub record Looking (s chain : List ℕ) (n : ℕ) (x : TableId) (ts : List Table) (left : ℕ) : Type 0 where
  pub long : length ts * 2 ≤ length chain
  pub from : From s chain n x (newest [] ts) left

pub looking : {s chain slots : List ℕ} {ts : List Table} (x : TableId) {e : ℕ} → IdsKept s ts chain slots → e ≡ entry_of (length slots) x → e < length slots → Looking s chain (length slots) x ts (get_or slots e 0)
looking {slots} x {e} p q h = record { long = p.long; from = rw (p.lasts e h, q) (from_latest x p.chained) }

or_none : (b : Bool) → (b || false) ≡ b
or_none true = refl
or_none false = refl

among_all : (x : TableId) (ts : List Table) → id_among x ts ≡ has_id x (newest [] ts)
unfolding has_id
among_all x ts = sym (among_newest x [] ts ∙ or_none (id_among x ts))

module _ {s chain : List ℕ} {n : ℕ} {x : TableId} {ts : List Table} {left : ℕ} (p : Looking s chain n x ts left) where
  pub not_kept : left ≤ 0 → false ≡ id_among x ts
  unfolding has_id
  not_kept h = go p.from.rest p.from.count p.from.same
    where
      go : (rest : List TableId) → left ≡ length rest → has_id x (newest [] ts) ≡ has_id x rest → false ≡ id_among x ts
      go [] c q = sym (among_all x ts ∙ q)
      go (i ∷ is) c q = absurd (omega arith)

  module _ (h : 0 < left) where
    here : First s chain n x (newest [] ts) left
    here = first_of p.from h

    pub row_room : (left - 1) * 2 + 1 < length chain
    row_room = omega (arith, p.long, here.upto, length_newest [] ts)

    pub place_room : (left - 1) * 2 < length chain
    place_room = omega (arith, row_room)

    pub place_fits : length chain < 2 ^ 64 → Fits w64 ((left - 1) * 2)
    place_fits l = omega (arith, row_room)

    pub next_fits : length chain < 2 ^ 64 → Fits w64 ((left - 1) * 2 + 1)
    next_fits l = omega (arith, row_room)

    pub place_inside : get_or chain ((left - 1) * 2) 0 + 16 ≤ length s
    place_inside = here.inside

    pub next_less : get_or chain ((left - 1) * 2 + 1) 0 < left
    next_less = omega (arith, here.count, (from_latest x here.chained).upto, (from_latest x here.chained).count, here.next)

    module _ {y : TableId} (e : y.0 ≡ take 16 (drop (get_or chain ((left - 1) * 2) 0) s)) {o : Ordering} (f : o ≡ cmp_key x.0 y.0) {q : Bool} (d : q ≡ is_equal o) where
      test : same_table_id x here.id ≡ q
      test = sym (d ∙ rw (f, e, here.is))

      pub found_kept : q ≡ true → true ≡ id_among x ts
      found_kept g = sym (among_all x ts ∙ here.same ∙ rw (test, g))

      pub looking_on : q ≡ false → Looking s chain n x ts (get_or chain ((left - 1) * 2 + 1) 0)
      looking_on g =
          let w = from_latest x here.chained in
          record {
            long = p.long;
            from = rw here.next (record {
              rest = w.rest;
              count = w.count;
              upto = omega (arith, w.upto, here.upto, here.count);
              chained = w.chained;
              entered = w.entered;
              same = here.same ∙ rw (test, g) w.same;
            });
          }

pub ruleset kept_exits = (looking, not_kept, row_room, place_room, place_fits, next_fits, place_inside, next_less, found_kept, looking_on)
