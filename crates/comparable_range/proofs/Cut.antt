-- Cuts are totally ordered, as triples of a number, a key and a number; and the laws of that order.
-- Assumes nothing.
use Prim.Native.Nat.{ℕ, zero, suc}
use mathlib.Core.Path.{◌≡◌, refl, sym, ap, ◌∙◌}
use mathlib.Core.Logic.{◌⊎◌, inl, inr}
use mathlib.Core.Bool.{Bool, true, false, not, false≢true}
use Rattle.key.specs.Order.{Key, cmp_key, cmp_number, swap, or_else, at_most, is_less}
use Rattle.key.specs.Laws.{Linear}
use Rattle.std.specs.declared.cmp.Ordering.{Ordering}
use Rattle.std.specs.declared.cmp.Ordering.TheVariants.{Less, Equal, Greater}
use Rattle.key.proofs.Linear.{swap_or_else, or_else_equal, or_else_trans, cmp_self, number_linear, key_order_is_total, key_self}
use Rattle.comparable_range.specs.Cut.{Cut, below, before, after, above, level, spot, side, cmp_cut, cut_at_most, cut_below, ◌≼◌, ◌≺◌}

-- ---- the comparison
rebuilt : ℕ → Key → ℕ → Cut
rebuilt zero k s = below
rebuilt (suc zero) k zero = before k
rebuilt (suc zero) k (suc s) = after k
rebuilt (suc (suc n)) k s = above

rebuilt_is : (c : Cut) → rebuilt (level c) (spot c) (side c) ≡ c
unfolding rebuilt
rebuilt_is below = refl
rebuilt_is (before k) = refl
rebuilt_is (after k) = refl
rebuilt_is above = refl

cut_swaps : (c d : Cut) → cmp_cut d c ≡ swap (cmp_cut c d)
unfolding cmp_cut
cut_swaps c d =
    let l = number_linear.swaps (level c) (level d) in
    let p = key_order_is_total.swaps (spot c) (spot d) in
    let s = number_linear.swaps (side c) (side d) in
    simp (swap_or_else, l, p, s)

cut_equal : (c d : Cut) → cmp_cut c d ≡ Equal → c ≡ d
unfolding cmp_cut
cut_equal c d e =
    let h = or_else_equal (cmp_number (level c) (level d)) _ e in
    let k = or_else_equal (cmp_key (spot c) (spot d)) _ h.1 in
    let l = number_linear.equal (level c) (level d) h.0 in
    let p = key_order_is_total.equal (spot c) (spot d) k.0 in
    let s = number_linear.equal (side c) (side d) k.1 in
    cc (rebuilt_is c, rebuilt_is d)

cut_trans : (a b c : Cut) → cmp_cut a b ≡ Less → cmp_cut b c ≡ Less → cmp_cut a c ≡ Less
unfolding cmp_cut
cut_trans a b c h k =
    let s = number_linear.trans (side a) (side b) (side c) in
    let p = or_else_trans cmp_key key_order_is_total (spot a) (spot b) (spot c) _ _ _ s in
    or_else_trans cmp_number number_linear (level a) (level b) (level c) _ _ _ p h k

pub cut_order_is_total : Linear cmp_cut
cut_order_is_total = record { swaps = cut_swaps; equal = cut_equal; trans = cut_trans }

-- ---- the order as a test
pub cut_below_not : (c d : Cut) → cut_below c d ≡ not (cut_at_most d c)
unfolding cut_below cut_at_most
cut_below_not c d = rw (cut_swaps c d) (go (cmp_cut c d))
  where
    go : (o : Ordering) → is_less o ≡ not (at_most (swap o))
    go Less = refl
    go Equal = refl
    go Greater = refl

pub ≼_refl : (c : Cut) → c ≼ c
unfolding cut_at_most
≼_refl c = record { holds = ap at_most (cmp_self cmp_cut cut_order_is_total c) }

pub ≼-antisym : {c d : Cut} → c ≼ d → d ≼ c → c ≡ d
unfolding cut_at_most
≼-antisym {c} {d} h k = go (cmp_cut c d) refl h.holds (ap at_most (sym (cut_swaps c d)) ∙ k.holds)
  where
    go : (o : Ordering) → cmp_cut c d ≡ o → at_most o ≡ true → at_most (swap o) ≡ true → c ≡ d
    go Less e h k = cc
    go Equal e h k = cut_equal c d e
    go Greater e h k = cc

pub ≼_trans : {a b c : Cut} → a ≼ b → b ≼ c → a ≼ c
unfolding cut_at_most
≼_trans {a} {b} {c} h k = go (cmp_cut a b) (cmp_cut b c) refl refl h.holds k.holds
  where
    go : (o₁ o₂ : Ordering) → cmp_cut a b ≡ o₁ → cmp_cut b c ≡ o₂ → at_most o₁ ≡ true → at_most o₂ ≡ true → a ≼ c
    go Less Less e₁ e₂ h k = record { holds = rw (cut_trans a b c e₁ e₂) }
    go Less Equal e₁ e₂ h k = record { holds = rw (← cut_equal b c e₂, e₁) }
    go Less Greater e₁ e₂ h k = record { holds = cc }
    go Equal Less e₁ e₂ h k = record { holds = rw (cut_equal a b e₁, e₂) }
    go Equal Equal e₁ e₂ h k = record { holds = rw (cut_equal a b e₁, e₂) }
    go Equal Greater e₁ e₂ h k = record { holds = cc }
    go Greater Less e₁ e₂ h k = record { holds = cc }
    go Greater Equal e₁ e₂ h k = record { holds = cc }
    go Greater Greater e₁ e₂ h k = record { holds = cc }

pub ≺-≼ : {c d : Cut} → c ≺ d → c ≼ d
unfolding cut_at_most
≺-≼ {c} {d} h = record { holds = go (cmp_cut d c) (cut_swaps d c) h.fails }
  where
    go : (o : Ordering) → cmp_cut c d ≡ swap o → at_most o ≡ false → at_most (cmp_cut c d) ≡ true
    go Less e h = cc
    go Equal e h = cc
    go Greater e h = rw e

-- one way or the other
pub order : (c d : Cut) → c ≼ d ⊎ d ≺ c
order c d = go (cut_at_most c d) refl
  where
    go : (b : Bool) → cut_at_most c d ≡ b → c ≼ d ⊎ d ≺ c
    go true e = inl (record { holds = e })
    go false e = inr (record { fails = e })

pub ≼-not-≺ {ℓ} : {X : Type ℓ} {c d : Cut} → c ≼ d → d ≺ c → X
≼-not-≺ h k = let e : false ≡ true = cc in absurd (false≢true e)

pub ≺-≼-trans : {a b c : Cut} → a ≺ b → b ≼ c → a ≺ c
≺-≼-trans {a} {b} {c} h k = elim (order c a) [ inl l ↦ ≼-not-≺ (≼_trans k l) h | inr l ↦ l ]

pub ≼-≺-trans : {a b c : Cut} → a ≼ b → b ≺ c → a ≺ c
≼-≺-trans {a} {b} {c} h k = elim (order c a) [ inl l ↦ ≼-not-≺ (≼_trans l h) k | inr l ↦ l ]

pub ≺-trans : {a b c : Cut} → a ≺ b → b ≺ c → a ≺ c
≺-trans h k = ≺-≼-trans h (≺-≼ k)

-- ---- the four kinds
pub below-≼ : (c : Cut) → below ≼ c
unfolding cut_at_most cmp_cut cmp_number cmp_key
below-≼ below = record { holds = refl }
below-≼ (before k) = record { holds = refl }
below-≼ (after k) = record { holds = refl }
below-≼ above = record { holds = refl }

pub ≼-above : (c : Cut) → c ≼ above
unfolding cut_at_most cmp_cut cmp_number cmp_key
≼-above below = record { holds = refl }
≼-above (before k) = record { holds = refl }
≼-above (after k) = record { holds = refl }
≼-above above = record { holds = refl }

pub below-≺ : (k : Key) → below ≺ before k
unfolding cut_at_most cmp_cut cmp_number
below-≺ k = record { fails = refl }

pub before-≺-after : (x : Key) → before x ≺ after x
unfolding cut_at_most cmp_cut cmp_number
before-≺-after x = record { fails = rw (key_self x) }

-- No cut stands strictly between `before x` and `after x`: it is at or before the one, or at or after the other, never both.
pub no_cut_between : (c : Cut) (x : Key) → cut_at_most (after x) c ≡ not (cut_at_most c (before x))
unfolding cut_at_most cmp_cut cmp_number
no_cut_between below x = refl
no_cut_between above x = refl
no_cut_between (before k) x = rw (key_order_is_total.swaps k x) (go (cmp_key k x))
  where
    go : (o : Ordering) → at_most (or_else (swap o) Greater) ≡ not (at_most (or_else o Equal))
    go Less = refl
    go Equal = refl
    go Greater = refl
no_cut_between (after k) x = rw (key_order_is_total.swaps k x) (go (cmp_key k x))
  where
    go : (o : Ordering) → at_most (or_else (swap o) Equal) ≡ not (at_most (or_else o Greater))
    go Less = refl
    go Equal = refl
    go Greater = refl

pub after-≼ : {k : Key} {c : Cut} → before k ≺ c → after k ≼ c
after-≼ {k} {c} h = record { holds = rw (no_cut_between c k, h.fails) }

pub before-≺ : {k : Key} {c : Cut} → after k ≼ c → before k ≺ c
before-≺ {k} h = ≺-≼-trans (before-≺-after k) h

pub ≼-before : {k : Key} {c : Cut} → c ≺ after k → c ≼ before k
≼-before {k} {c} h = record { holds = on _ (sym (no_cut_between c k) ∙ h.fails) }
  where
    on : (t : Bool) → not t ≡ false → t ≡ true
    on true e = refl
    on false e = sym e

-- `search order_laws` proves a chain of hypotheses
pub ruleset order_laws = (≼_trans, ≼_refl, ≺-≼, ≺-≼-trans, ≼-≺-trans, below-≼, ≼-above, after-≼, before-≺, ≼-before)
