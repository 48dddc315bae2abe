-- A range that starts included, whose every key an interval holds, leaves nothing when they are cut out of it.
-- Assumes nothing.
use Prim.Native.Nat.{ℕ, suc, ◌+◌}
use native.Mathlib.Omega.{arith}
use mathlib.Core.Path.{◌≡◌, refl, sym, ◌∙◌}
use mathlib.Core.Logic.{◌⊎◌, inl, inr}
use mathlib.Core.Bool.{Bool, true, false, true≢false}
use mathlib.Core.List.{List, [], ◌∷◌}
use Rattle.base.specs.Pick.{pick}
use Rattle.key.specs.Order.{Key}
use Rattle.comparable_range.specs.Cut.{Cut, before, above, ◌≺◌, later}
use Rattle.comparable_range.proofs.Cut.{≼_refl, ≺-≼, ≼-not-≺, order, ≼-above, no_cut_between}
use Rattle.comparable_range.proofs.Lattice.{later_left, later_right}
use Rattle.incremental_progress.specs.Intervals.{bit}
use Rattle.base.specs.Lists.{All, All-append, All-flatMap}
use Rattle.incremental_progress.proofs.Span.{Span, keep, until, since, less, within, times}
use Rattle.incremental_progress.proofs.Cutting.{Proper, cut_spans, any_within, times_cut}
use Rattle.incremental_progress.proofs.Pieces.{Inside, inside_cut, All-keep}

-- a cut just before a key
pub data AtKey : Cut → Type 0 where
  at_key : {k : Key} → AtKey (before k)

-- What holds of a span's start, and of the ends of the spans that are cut out of it but for an end above all, holds of the
-- start of each piece.
module _ (P : Cut → Type 0) where
  pub later_keeps : {c d : Cut} → P c → P d → P (later c d)
  later_keeps {c} {d} p q = elim (order c d) [ inl h ↦ rw (later_right h) q | inr h ↦ rw (later_left (≺-≼ h)) p ]

  abbrev pub EndsAt : Span → Type 0
  EndsAt i = P i.to ⊎ (i.to ≡ above)

  from_less : (i r : Span) → EndsAt i → P r.from → All (λ p. P p.from) (less i r)
  unfolding less
  from_less i r o h =
      All-append _ (keep (until r i.from)) (keep (since r i.to))
      (All-keep _ (until r i.from) (λ _. h))
      (All-keep (λ p. P p.from) (since r i.to) (λ k. go o k))
    where
      go : EndsAt i → later r.from i.to ≺ r.to → P (later r.from i.to)
      go (inl q) k = later_keeps h q
      go (inr e) k = ≼-not-≺ (≼-above r.to) (rw (e, later_right (≼-above r.from)) at k)

  pub from_cut : (is rs : List Span) → All EndsAt is → All (λ p. P p.from) rs → All (λ p. P p.from) (cut_spans is rs)
  unfolding cut_spans
  from_cut [] rs o a = a
  from_cut (i ∷ is) rs o a = from_cut is _ o.1 (All-flatMap _ _ (less i) (λ r h. from_less i r o.0 h) rs a)

-- a span's end is just before a key, or above all
abbrev pub Open : Span → Type 0
Open = EndsAt AtKey

holds_start : {c d : Cut} → AtKey c → c ≺ d → (k : Key) × (within (record { from = c; to = d }) k ≡ true)
unfolding within
holds_start {d} (at_key {k}) h = (k, rw ((≼_refl (before k)).holds, no_cut_between d k, h.fails))

pub vanish : (is : List Span) (r : Span) → All Proper is → All Open is → AtKey r.from → r.from ≺ r.to
    → ((x : Key) → within r x ≡ true → any_within is x ≡ true) → cut_spans is (r ∷ []) ≡ []
unfolding times
vanish is r p o h n f =
    go (cut_spans is (r ∷ [])) (inside_cut is r (r ∷ []) (record { starts = ≼_refl _; runs = n; ends = ≼_refl _ }, tt)) (from_cut AtKey is (r ∷ []) o (h, tt))
    (λ x. times_cut x is (r ∷ []) p)
  where
    none : (x : Key) (a b : Bool) → within r x ≡ b → any_within is x ≡ a → (m : ℕ) → suc m ≡ pick a 0 (bit b + 0) → ⊥
    none x true b e d m q = omega arith
    none x false true e d m q = true≢false (sym (f x e) ∙ d)
    none x false false e d m q = omega arith

    go : (qs : List Span) → All (λ q. Inside q r) qs → All (λ q. AtKey q.from) qs
        → ((x : Key) → times x qs ≡ pick (any_within is x) 0 (bit (within r x) + 0)) → qs ≡ []
    go [] a b t = refl
    go (q ∷ qs) a b t =
        let w = holds_start b.0 a.0.runs in
        absurd (none w.0 (any_within is w.0) (within r w.0) refl refl (times w.0 qs) (omega (arith, rw w.1 at (t w.0))))
