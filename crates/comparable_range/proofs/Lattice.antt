-- The later and the sooner of two cuts, by which of the two comes first.
-- Assumes nothing.
use mathlib.Core.Path.{◌≡◌}
use mathlib.Core.Logic.{inl, inr}
use mathlib.Core.Bool.{◌&&◌, ◌||◌}
use Rattle.comparable_range.specs.Cut.{Cut, cut_at_most, ◌≼◌, ◌≺◌, later, sooner}
use Rattle.comparable_range.proofs.Cut.{order_laws, order, ≼_refl, ≼-antisym, ≼_trans, ≺-≼, ≺-trans, ≺-≼-trans}

pub later_right : {c d : Cut} → c ≼ d → later c d ≡ d
unfolding later
later_right h = rw h.holds

pub later_left : {c d : Cut} → d ≼ c → later c d ≡ c
unfolding later
later_left {c} {d} h = elim (order c d) [ inl k ↦ rw k.holds (≼-antisym h k) | inr k ↦ rw k.fails ]

pub sooner_left : {c d : Cut} → c ≼ d → sooner c d ≡ c
unfolding sooner
sooner_left h = rw h.holds

pub sooner_right : {c d : Cut} → d ≼ c → sooner c d ≡ d
unfolding sooner
sooner_right {c} {d} h = elim (order c d) [ inl k ↦ rw k.holds (≼-antisym k h) | inr k ↦ rw k.fails ]

pub later_commutes : (c d : Cut) → later c d ≡ later d c
later_commutes c d =
    elim (order c d) [ inl k ↦ rw (later_right k, later_left k) | inr k ↦ rw (later_left (≺-≼ k), later_right (≺-≼ k)) ]

pub sooner_commutes : (c d : Cut) → sooner c d ≡ sooner d c
sooner_commutes c d =
    elim (order c d) [ inl k ↦ rw (sooner_left k, sooner_right k) | inr k ↦ rw (sooner_right (≺-≼ k), sooner_left (≺-≼ k)) ]

-- ---- bounds of both
pub ≼-later-left : (c d : Cut) → c ≼ later c d
≼-later-left c d = elim (order c d) [ inl k ↦ rw (later_right k) k | inr k ↦ rw (later_left (≺-≼ k)) (≼_refl c) ]

pub ≼-later-right : (c d : Cut) → d ≼ later c d
≼-later-right c d = elim (order c d) [ inl k ↦ rw (later_right k) (≼_refl d) | inr k ↦ rw (later_left (≺-≼ k)) (≺-≼ k) ]

pub sooner-≼-left : (c d : Cut) → sooner c d ≼ c
sooner-≼-left c d = elim (order c d) [ inl k ↦ rw (sooner_left k) (≼_refl c) | inr k ↦ rw (sooner_right (≺-≼ k)) (≺-≼ k) ]

pub sooner-≼-right : (c d : Cut) → sooner c d ≼ d
sooner-≼-right c d = elim (order c d) [ inl k ↦ rw (sooner_left k) k | inr k ↦ rw (sooner_right (≺-≼ k)) (≼_refl d) ]

pub ≺-sooner : {c d e : Cut} → c ≺ d → c ≺ e → c ≺ sooner d e
≺-sooner {c} {d} {e} h l = elim (order d e) [ inl k ↦ rw (sooner_left k) h | inr k ↦ rw (sooner_right (≺-≼ k)) l ]

-- The same as rules that need no middle term, so that `search lattice` goes through `later` and `sooner`.
pub ≼-later-l : (c d : Cut) {a : Cut} → a ≼ c → a ≼ later c d
≼-later-l c d h = ≼_trans h (≼-later-left c d)

pub ≼-later-r : (c d : Cut) {a : Cut} → a ≼ d → a ≼ later c d
≼-later-r c d h = ≼_trans h (≼-later-right c d)

pub sooner-≼-l : (c d : Cut) {a : Cut} → c ≼ a → sooner c d ≼ a
sooner-≼-l c d h = ≼_trans (sooner-≼-left c d) h

pub sooner-≼-r : (c d : Cut) {a : Cut} → d ≼ a → sooner c d ≼ a
sooner-≼-r c d h = ≼_trans (sooner-≼-right c d) h

pub ruleset lattice = (order_laws, ≼-later-l, ≼-later-r, sooner-≼-l, sooner-≼-r)

-- ---- the tests
-- at most the sooner is at most both
pub at_most_sooner : (c d e : Cut) → cut_at_most c (sooner d e) ≡ (cut_at_most c d && cut_at_most c e)
at_most_sooner c d e =
    elim (order d e) [
      | inl k ↦ elim (order c d) [
        | inl h ↦ rw (sooner_left k, h.holds, (≼_trans h k).holds)
        | inr h ↦ rw (sooner_left k, h.fails)
      ]
      | inr k ↦ elim (order c d) [
        | inl h ↦ rw (sooner_right (≺-≼ k), h.holds)
        | inr h ↦ rw (sooner_right (≺-≼ k), h.fails, (≺-trans k h).fails)
      ]
    ]

-- at most the later is at most one of them
pub at_most_later : (c d e : Cut) → cut_at_most c (later d e) ≡ (cut_at_most c d || cut_at_most c e)
at_most_later c d e =
    elim (order d e) [
      | inl k ↦ elim (order c d) [
        | inl h ↦ rw (later_right k, h.holds, (≼_trans h k).holds)
        | inr h ↦ rw (later_right k, h.fails)
      ]
      | inr k ↦ elim (order c d) [
        | inl h ↦ rw (later_left (≺-≼ k), h.holds)
        | inr h ↦ rw (later_left (≺-≼ k), h.fails, (≺-trans k h).fails)
      ]
    ]

-- the later is at most what both are at most
pub later_at_most : (c d e : Cut) → cut_at_most (later c d) e ≡ (cut_at_most c e && cut_at_most d e)
later_at_most c d e =
    elim (order c d) [
      | inl k ↦ elim (order c e) [
        | inl h ↦ rw (later_right k, h.holds)
        | inr h ↦ rw (later_right k, h.fails, (≺-≼-trans h k).fails)
      ]
      | inr k ↦ elim (order c e) [
        | inl h ↦ rw (later_left (≺-≼ k), h.holds, (≼_trans (≺-≼ k) h).holds)
        | inr h ↦ rw (later_left (≺-≼ k), h.fails)
      ]
    ]
