-- Cutting a list of spans out of a list of spans: counts, and that a later record's cut absorbs an earlier one's.
-- Assumes nothing.
use Prim.Native.Nat.{ℕ, ◌+◌}
use mathlib.Core.Path.{◌≡◌, refl, sym, ap, ◌∙◌, fun_ext}
use mathlib.Core.Bool.{Bool, true, false, true≢false}
use mathlib.Core.List.{List, [], ◌∷◌, flat_map}
use Rattle.base.specs.Pick.{pick}
use Rattle.key.specs.Order.{Key}
use Rattle.comparable_range.specs.Cut.{Cut, ◌≼◌}
use Rattle.comparable_range.proofs.Cut.{≼_trans}
use Rattle.base.specs.Lists.{All, All-map, flat_map_flat_map}
use Rattle.incremental_progress.proofs.Span.{Span, less, within, times, times_append, times_less, absorb, commute, within_parts, within_yes}

-- a span whose end is not before its start
abbrev pub Proper : Span → Type 0
Proper i = i.from ≼ i.to

unfoldable pub cut_spans : List Span → List Span → List Span
cut_spans [] rs = rs
cut_spans (i ∷ is) rs = cut_spans is (flat_map (less i) rs)

unfoldable pub any_within : List Span → Key → Bool
any_within [] x = false
any_within (i ∷ is) x = pick (within i x) true (any_within is x)

-- ---- counts
both : (w : Bool) (m n : ℕ) → pick w 0 m + pick w 0 n ≡ pick w 0 (m + n)
both true m n = refl
both false m n = refl

times_flat_map : (x : Key) (i : Span) (rs : List Span) → Proper i → times x (flat_map (less i) rs) ≡ pick (within i x) 0 (times x rs)
unfolding flat_map times
times_flat_map x i [] h = go (within i x)
  where
    go : (w : Bool) → ◌≡◌ {A = ℕ} 0 (pick w 0 0)
    go true = refl
    go false = refl
times_flat_map x i (r ∷ rs) h = rw (times_append, times_less x i r h, times_flat_map x i rs h) (both (within i x) _ _)

pub times_cut : (x : Key) (is rs : List Span) → All Proper is → times x (cut_spans is rs) ≡ pick (any_within is x) 0 (times x rs)
unfolding cut_spans any_within
times_cut x [] rs a = refl
times_cut x (i ∷ is) rs a = rw (times_cut x is _ a.1, times_flat_map x i rs a.0) (go (within i x) (any_within is x))
  where
    go : (w v : Bool) → pick v 0 (pick w 0 (times x rs)) ≡ pick (pick w true v) 0 (times x rs)
    go true true = refl
    go true false = refl
    go false v = refl

-- ---- exact laws, over lists
absorb_all : {a b c : Cut} (rs : List Span) → a ≼ b → b ≼ c
    → flat_map (less (record { from = a; to = c })) (flat_map (less (record { from = a; to = b })) rs) ≡ flat_map (less (record { from = a; to = c })) rs
absorb_all rs h k = flat_map_flat_map _ _ rs ∙ ap (λ (f : Span → List Span). flat_map f rs) (fun_ext (λ r. absorb r h k))

commute_all : {i j : Span} (rs : List Span) → Proper i → i.to ≼ j.from → Proper j
    → flat_map (less j) (flat_map (less i) rs) ≡ flat_map (less i) (flat_map (less j) rs)
commute_all {i} {j} rs h k l =
    flat_map_flat_map _ _ rs
    ∙ ap (λ (f : Span → List Span). flat_map f rs) (fun_ext (λ r. commute r h k l))
    ∙ sym (flat_map_flat_map _ _ rs)

abbrev pub From : Cut → Span → Type 0
From c j = c ≼ j.from × Proper j

commute_cut : {i : Span} (js rs : List Span) → Proper i → All (From i.to) js
    → flat_map (less i) (cut_spans js rs) ≡ cut_spans js (flat_map (less i) rs)
unfolding cut_spans
commute_cut [] rs h a = refl
commute_cut (j ∷ js) rs h a =
    commute_cut js _ h a.1 ∙ ap (λ (t : List Span). cut_spans js t) (sym (commute_all rs h a.0.0 a.0.1))

-- ---- two records of one job
-- The earlier record's spans and the later one's, all from a cut on, part by part: a part has none in the earlier record or one that starts as
-- the later record's does and ends no later; and what follows starts where the later record's span ends, or later.
pub data Grown : Cut → List Span → List Span → Type 0 where
  done : {c : Cut} → Grown c [] []
  begun : {c a b : Cut} {es ls : List Span} → c ≼ a → a ≼ b → Grown b es ls → Grown c es (record { from = a; to = b } ∷ ls)
  grown : {c a b b' : Cut} {es ls : List Span} → c ≼ a → a ≼ b → b ≼ b' → Grown b' es ls
      → Grown c (record { from = a; to = b } ∷ es) (record { from = a; to = b' } ∷ ls)

earlier_from : {c : Cut} {es ls : List Span} → Grown c es ls → All (From c) es
earlier_from done = tt
earlier_from (begun {b} {es} p q g) = All-map (λ j f. (≼_trans (≼_trans p q) f.0, f.1)) es (earlier_from g)
earlier_from (grown {es} p q r g) = ((p, q), All-map (λ j f. (≼_trans (≼_trans p (≼_trans q r)) f.0, f.1)) es (earlier_from g))

-- Cutting by the earlier record and then by the later is cutting by the later.
pub recut : {c : Cut} {es ls : List Span} → Grown c es ls → (rs : List Span) → cut_spans ls (cut_spans es rs) ≡ cut_spans ls rs
unfolding cut_spans
recut done rs = refl
recut (begun {es} {ls} p q g) rs = rw (commute_cut es rs q (earlier_from g)) (recut g _)
recut (grown {es} {ls} p q r g) rs =
    rw (commute_cut es _ (≼_trans q r) (earlier_from g), absorb_all rs q r) (recut g _)

pub later_proper : {c : Cut} {es ls : List Span} → Grown c es ls → All Proper ls
later_proper done = tt
later_proper (begun p q g) = (q, later_proper g)
later_proper (grown p q r g) = (≼_trans q r, later_proper g)

-- what the earlier record's spans hold the later one's do
pub grown_within : {c : Cut} {es ls : List Span} (x : Key) → Grown c es ls → any_within es x ≡ true → any_within ls x ≡ true
unfolding any_within
grown_within x done e = e
grown_within x (begun {a} {b} p q g) e = go (within (record { from = a; to = b }) x) (grown_within x g e)
  where
    go : (w : Bool) {v : Bool} → v ≡ true → pick w true v ≡ true
    go true h = refl
    go false h = h
grown_within x (grown {a} {b} {b'} {es} {ls} p q r g) e =
    go (within (record { from = a; to = b }) x) refl (within (record { from = a; to = b' }) x) refl e (λ h. grown_within x g h)
  where
    go : (w : Bool) → within (record { from = a; to = b }) x ≡ w → (w' : Bool) → within (record { from = a; to = b' }) x ≡ w'
        → pick w true (any_within es x) ≡ true → (any_within es x ≡ true → any_within ls x ≡ true) → pick w' true (any_within ls x) ≡ true
    go w i true j h ih = refl
    go false i false j h ih = ih h
    go true i false j h ih =
        let k = within_parts x i in
        absurd (true≢false (sym (within_yes x k.0 (≼_trans k.1 r)) ∙ j))
