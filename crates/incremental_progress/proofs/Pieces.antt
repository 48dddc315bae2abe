-- Where the pieces of a span lie that other spans are cut out of, and where they start.
-- Assumes nothing.
use mathlib.Core.Path.{◌≡◌}
use mathlib.Core.Logic.{inl, inr}
use mathlib.Core.List.{List, [], ◌∷◌}
use Rattle.base.specs.Pick.{pick}
use Rattle.comparable_range.specs.Cut.{Cut, below, cut_at_most, ◌≼◌, ◌≺◌, later}
use Rattle.comparable_range.proofs.Cut.{≼_trans, ≼_refl, ≺-≼, ≺-≼-trans, order, below-≼}
use Rattle.comparable_range.proofs.Lattice.{later_left, later_right, ≼-later-left, ≼-later-right, sooner-≼-left, sooner-≼-right}
use Rattle.base.specs.Lists.{All, All-map, All-append, All-flatMap}
use Rattle.incremental_progress.proofs.Span.{Span, keep, until, since, less, keep_none, keep_some}
use Rattle.incremental_progress.proofs.Cutting.{Proper, cut_spans}

pub record Inside (p r : Span) : Type 0 where
  pub starts : r.from ≼ p.from
  pub runs : p.from ≺ p.to
  pub ends : p.to ≼ r.to

pub inside_trans : {p q r : Span} → Inside p q → Inside q r → Inside p r
inside_trans h k = record { starts = ≼_trans k.starts h.starts; runs = h.runs; ends = ≼_trans h.ends k.ends }

pub All-keep : (P : Span → Type 0) (r : Span) → (r.from ≺ r.to → P r) → All P (keep r)
All-keep P r f = elim (order r.to r.from) [ inl h ↦ rw (keep_none h) tt | inr h ↦ rw (keep_some h) (f h, tt) ]

pub inside_less : (i r : Span) → All (λ p. Inside p r) (less i r)
unfolding less
inside_less i r =
    All-append _ (keep (until r i.from)) (keep (since r i.to))
    (All-keep _ (until r i.from) (λ h. record { starts = ≼_refl r.from; runs = h; ends = sooner-≼-left r.to i.from }))
    (All-keep _ (since r i.to) (λ h. record { starts = ≼-later-left r.from i.to; runs = h; ends = ≼_refl r.to }))

pub inside_cut : (is : List Span) (r : Span) (rs : List Span) → All (λ p. Inside p r) rs → All (λ p. Inside p r) (cut_spans is rs)
unfolding cut_spans
inside_cut [] r rs a = a
inside_cut (i ∷ is) r rs a =
    inside_cut is r _ (All-flatMap _ _ (less i) (λ p h. All-map (λ q k. inside_trans k h) (less i p) (inside_less i p)) rs a)

-- ---- where a piece starts that holds a cut
abbrev pub Has : Cut → Span → Type 0
Has c x = (x.from ≼ c) × (c ≺ x.to)

-- a span's end, if it is at or before the cut
pub floor : Span → Cut → Cut
floor i c = pick (cut_at_most i.to c) i.to below

pub floors : Cut → List Span → Cut → Cut
floors s [] c = s
floors s (i ∷ is) c = floors (later s (floor i c)) is c

abbrev pub Starts : Cut → Cut → Span → Type 0
Starts c s x = Has c x → x.from ≡ s

later_below : (s : Cut) → later s below ≡ s
later_below s = later_left (below-≼ s)

starts_less : (c s : Cut) (i r : Span) → Proper i → Starts c s r → All (Starts c (later s (floor i c))) (less i r)
unfolding less floor
starts_less c s i r p h =
    All-append _ (keep (until r i.from)) (keep (since r i.to))
    (All-keep _ (until r i.from) (λ _ k.
    let far : c ≺ i.to = ≺-≼-trans k.1 (≼_trans (sooner-≼-right r.to i.from) p) in
    rw (far.fails, later_below) (h (k.0, ≺-≼-trans k.1 (sooner-≼-left r.to i.from)))))
    (All-keep _ (since r i.to) (λ _ k.
    let near : i.to ≼ c = ≼_trans (≼-later-right r.from i.to) k.0 in
    rw (near.holds, h (≼_trans (≼-later-left r.from i.to) k.0, k.1))))

pub starts_cut : (c s : Cut) (is rs : List Span) → All Proper is → All (Starts c s) rs → All (Starts c (floors s is c)) (cut_spans is rs)
unfolding cut_spans floors
starts_cut c s [] rs p a = a
starts_cut c s (i ∷ is) rs p a =
    starts_cut c (later s (floor i c)) is _ p.1 (All-flatMap _ _ (less i) (λ r h. starts_less c s i r p.0 h) rs a)

later_mono : {s t : Cut} (d : Cut) → s ≼ t → later s d ≼ later t d
later_mono {s} {t} d h =
    elim (order s d) [ inl k ↦ rw (later_right k) (≼-later-right t d) | inr k ↦ rw (later_left (≺-≼ k)) (≼_trans h (≼-later-left t d)) ]

pub floors_mono : {s t : Cut} (is : List Span) (c : Cut) → s ≼ t → floors s is c ≼ floors t is c
unfolding floors
floors_mono [] c h = h
floors_mono {s = s} {t = t} (i ∷ is) c h = floors_mono {s = later s (floor i c)} {t = later t (floor i c)} is c (later_mono (floor i c) h)
