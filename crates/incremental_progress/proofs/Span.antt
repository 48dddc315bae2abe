-- Ranges as pairs of cuts: the laws of subtraction.
-- Assumes nothing.
use Prim.Native.Nat.{ℕ, ◌+◌}
use native.Mathlib.Omega.{arith}
use mathlib.Core.Path.{◌≡◌, refl, sym, ap₂, ◌∙◌}
use mathlib.Core.Logic.{inl, inr}
use mathlib.Core.Bool.{Bool, true, false, not, ◌&&◌}
use mathlib.Core.List.{List, [], ◌∷◌, ◌++◌, flat_map, append-nil, append_assoc}
use Rattle.base.specs.Pick.{pick}
use Rattle.key.specs.Order.{Key}
use Rattle.comparable_range.specs.Cut.{Cut, before, after, cut_at_most, ◌≼◌, ◌≺◌, later, sooner}
use Rattle.comparable_range.proofs.Cut.{no_cut_between, ≼_trans, ≺-≼, ≼-not-≺, order, before-≺-after, ≼_refl}
use Rattle.comparable_range.proofs.Lattice.{lattice, later_right, later_left, sooner_left, sooner_right, ≼-later-left, sooner-≼-left, at_most_sooner, later_at_most}
use Rattle.incremental_progress.specs.Intervals.{bit}
use Rattle.base.specs.Lists.{flat_map_append}

pub record Span : Type 0 where
  pub from : Cut
  pub to : Cut

-- the span, if it is one
unfoldable pub keep : Span → List Span
keep r = pick (cut_at_most r.to r.from) [] (r ∷ [])

-- what of the span lies before a cut, and what from it on
abbrev pub until : Span → Cut → Span
until r a = record { from = r.from; to = sooner r.to a }

abbrev pub since : Span → Cut → Span
since r b = record { from = later r.from b; to = r.to }

-- the span r less the span i
unfoldable pub less : Span → Span → List Span
less i r = keep (until r i.from) ++ keep (since r i.to)

-- ---- laws of later and sooner
-- the nearer of two cuts at one side decides
pub later_later : (c : Cut) {a b : Cut} → a ≼ b → later (later c a) b ≡ later c b
later_later c {a} {b} h =
    elim (order c a) [
      | inl k ↦ rw (later_right k, later_right h, later_right (≼_trans k h))
      | inr k ↦ rw (later_left (≺-≼ k))
    ]

pub later_later' : (c : Cut) {a b : Cut} → a ≼ b → later (later c b) a ≡ later c b
later_later' c h = later_left (search lattice)

pub sooner_sooner : (c : Cut) {a b : Cut} → a ≼ b → sooner (sooner c b) a ≡ sooner c a
sooner_sooner c {a} {b} h =
    elim (order c b) [
      | inl k ↦ rw (sooner_left k)
      | inr k ↦ rw (sooner_right (≺-≼ k), sooner_right h, sooner_right (≼_trans h (≺-≼ k)))
    ]

pub sooner_sooner' : (c : Cut) {a b : Cut} → a ≼ b → sooner (sooner c a) b ≡ sooner c a
sooner_sooner' c h = sooner_left (search lattice)

-- ---- keep
pub keep_none : {c d : Cut} → d ≼ c → keep (record { from = c; to = d }) ≡ []
unfolding keep
keep_none h = rw h.holds

pub keep_some : {c d : Cut} → c ≺ d → keep (record { from = c; to = d }) ≡ record { from = c; to = d } ∷ []
unfolding keep
keep_some h = rw h.fails

-- nothing is left of nothing
pub less_none : (i : Span) {r : Span} → r.to ≼ r.from → less i r ≡ []
unfolding less
less_none i {r} h =
    ap₂ (λ (s t : List Span). s ++ t) (keep_none (≼_trans (sooner-≼-left r.to i.from) h))
    (keep_none (≼_trans h (≼-later-left r.from i.to)))

-- so a span that is kept may be cut as if it had been
pub less_keep : (i r : Span) → flat_map (less i) (keep r) ≡ less i r
unfolding flat_map
less_keep i r =
    elim (order r.to r.from) [
      | inl k ↦ rw (keep_none k) (sym (less_none i k))
      | inr k ↦ rw (keep_some k) (append-nil (less i r))
    ]

-- cutting twice, in four
pub less_less : (j i r : Span) → flat_map (less j) (less i r) ≡ less j (until r i.from) ++ less j (since r i.to)
unfolding less
less_less j i r = flat_map_append (less j) (keep (until r i.from)) _ ∙ ap₂ (λ (s t : List Span). s ++ t) (less_keep j _) (less_keep j _)

-- ---- exact laws
pub keep_crossed : {a b : Cut} (s e : Cut) → a ≼ b → keep (record { from = later s b; to = sooner e a }) ≡ []
keep_crossed s e h = keep_none (search lattice)

-- cutting [a, b) and then the larger [a, c) is cutting [a, c)
pub absorb : {a b c : Cut} (r : Span) → a ≼ b → b ≼ c
    → flat_map (less (record { from = a; to = c })) (less (record { from = a; to = b }) r) ≡ less (record { from = a; to = c }) r
unfolding less
absorb {a} {b} {c} r h k =
    rw (less_less, sooner_sooner' r.to (≼_refl a), keep_crossed r.from r.to (≼_trans h k), keep_crossed r.from r.to h, later_later r.from k, append-nil)

-- cutting two spans that do not meet, in either order
pub commute : {i j : Span} (r : Span) → i.from ≼ i.to → i.to ≼ j.from → j.from ≼ j.to
    → flat_map (less j) (less i r) ≡ flat_map (less i) (less j r)
unfolding less
commute {i} {j} r h k l =
    let far : i.from ≼ j.from = ≼_trans h k in
    let wide : i.to ≼ j.to = ≼_trans k l in
    rw (less_less j i, less_less i j, sooner_sooner' r.to far, sooner_sooner r.to far, keep_crossed r.from r.to (≼_trans far l), later_later r.from wide, later_later' r.from wide, append-nil, append_assoc)

-- ---- how many of the spans hold a key
unfoldable pub within : Span → Key → Bool
within r x = cut_at_most r.from (before x) && cut_at_most (after x) r.to

unfoldable pub times : Key → List Span → ℕ
times x [] = 0
times x (r ∷ rs) = bit (within r x) + times x rs

-- a span whose end is not after its start holds nothing
pub none_within : {c d : Cut} (x : Key) → d ≼ c → within (record { from = c; to = d }) x ≡ false
unfolding within
none_within {c} {d} x h =
    elim (order c (before x)) [
      | inl k ↦ elim (order (after x) d) [
        | inl l ↦ ≼-not-≺ (≼_trans l (≼_trans h k)) (before-≺-after x)
        | inr l ↦ rw (k.holds, l.fails)
      ]
      | inr k ↦ rw k.fails
    ]

pub times_append : (x : Key) (s t : List Span) → times x (s ++ t) ≡ times x s + times x t
unfolding times
times_append x [] t = omega arith
times_append x (r ∷ s) t = omega (arith, times_append x s t)

pub times_keep : (x : Key) (r : Span) → times x (keep r) ≡ bit (within r x)
unfolding times
times_keep x r =
    elim (order r.to r.from) [
      | inl k ↦ rw (keep_none k, none_within x k)
      | inr k ↦ rw (keep_some k) (omega arith)
    ]

-- the two sides of what is cut out: s, e that the span's start and end admit the key, a, b that those of what is cut out lie before it
two_sides : (s e a b : Bool) → (b ≡ true → a ≡ false → ⊥) → bit (s && (e && not a)) + bit (s && b && e) ≡ pick (a && not b) 0 (bit (s && e))
two_sides false e false b n = refl
two_sides false e true false n = refl
two_sides false e true true n = refl
two_sides true false false false n = refl
two_sides true false false true n = refl
two_sides true false true false n = refl
two_sides true false true true n = refl
two_sides true true false false n = refl
two_sides true true false true n = absurd (n refl refl)
two_sides true true true false n = refl
two_sides true true true true n = refl

-- what is left holds the key if the span does and what is cut out does not
pub times_less : (x : Key) (i r : Span) → i.from ≼ i.to → times x (less i r) ≡ pick (within i x) 0 (bit (within r x))
unfolding less within
times_less x i r h =
    rw (times_append, times_keep x (until r i.from), times_keep x (since r i.to), at_most_sooner, later_at_most, no_cut_between i.from, no_cut_between i.to)
    (two_sides (cut_at_most r.from (before x)) (cut_at_most (after x) r.to) (cut_at_most i.from (before x)) (cut_at_most i.to (before x)) (λ b a. ≼-not-≺ (≼_trans h (record { holds = b })) (record { fails = a })))

-- what it says that a span holds a key
pub both_true : (a b : Bool) → (a && b) ≡ true → (a ≡ true) × (b ≡ true)
both_true true b e = (refl, e)
both_true false b e = (e, cc)

pub within_parts : {r : Span} (x : Key) → within r x ≡ true → (r.from ≼ before x) × (after x ≼ r.to)
unfolding within
within_parts {r} x e = let h = both_true (cut_at_most r.from (before x)) (cut_at_most (after x) r.to) e in (record { holds = h.0 }, record { holds = h.1 })

pub within_yes : {r : Span} (x : Key) → r.from ≼ before x → after x ≼ r.to → within r x ≡ true
unfolding within
within_yes x h k = rw (h.holds, k.holds)
