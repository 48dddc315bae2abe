-- What `same_range` and `ranges_fraction` know where they return.
-- Assumes nothing.
use Rattle.std.proofs.Common.{◌≡◌, ℕ, Bool, true, false, T, sym, refl, ◌∙◌, true≢false}
use lib.Ieee.{Float, le}
use Rattle.key.specs.Order.{Key, is_equal, or_else}
use Rattle.std.specs.declared.cmp.Ordering.{Ordering}
use Rattle.std.specs.declared.cmp.Ordering.TheVariants.{Less, Equal, Greater}
use Rattle.comparable_range.specs.Range.{Range, cmp_bound, cmp_range}
use Rattle.format.specs.Span.{bound_key}
use Rattle.visible_size.specs.Steps.{one64, common_prefix_len, range_len, lengths_fraction, skip_of, same_range, ranges_fraction}
use Rattle.visible_size.specs.Numbers.{RangeLen, FractionFound}
use Rattle.visible_size.specs.declared.VisibleFraction.{VisibleFraction}
use Rattle.visible_size.specs.declared.VisibleFraction.TheVariants.{Whole}

-- ---- same_range
first_equal : (o p : Ordering) → is_equal o ≡ true → is_equal p ≡ is_equal (or_else o p)
first_equal Less p h = absurd (true≢false (sym h))
first_equal Equal p h = refl
first_equal Greater p h = absurd (true≢false (sym h))

first_unequal : (o p : Ordering) → is_equal o ≡ false → false ≡ is_equal (or_else o p)
first_unequal Less p h = refl
first_unequal Equal p h = absurd (true≢false h)
first_unequal Greater p h = refl

module _ (r q : Range) {o : Ordering} {t : Bool} (e : o ≡ cmp_bound true r.start q.start) (f : t ≡ is_equal o) where
  pub same_starts : {p : Ordering} {u : Bool} → t ≡ true → p ≡ cmp_bound false r.end q.end → u ≡ is_equal p → u ≡ same_range r q
  unfolding same_range cmp_range
  same_starts {p} w g h = h ∙ rw (← g, ← e) (first_equal o p (sym f ∙ w))

  pub other_starts : t ≡ false → false ≡ same_range r q
  unfolding same_range cmp_range
  other_starts w = rw (← e) (first_unequal o (cmp_bound false r.end q.end) (sym f ∙ w))

pub ruleset same_exits = (same_starts, other_starts)

-- ---- ranges_fraction
pub len_most : {skip : ℕ} {r : Range} {x : Float} → RangeLen skip r x → T (le x one64)
len_most p = p.most

module _ (physical effective : Range) {t : Bool} (e : t ≡ same_range effective physical) where
  pub whole_same : t ≡ true → FractionFound (ranges_fraction physical effective) Whole
  unfolding ranges_fraction
  whole_same w = record { meaning = rw (← e, w); within = tt }

  pub part_of :
      {j k : Key} {skip : ℕ} {x y : Float} {f : VisibleFraction}
      → t ≡ false
      → j ≡ bound_key physical.start
      → k ≡ bound_key physical.end
      → skip ≡ common_prefix_len j k
      → RangeLen skip effective x
      → RangeLen skip physical y
      → FractionFound (lengths_fraction x y) f
      → FractionFound (ranges_fraction physical effective) f
  unfolding ranges_fraction
  part_of {j} {k} {skip} {x} {y} {f} w p q s l m g =
      let d : skip ≡ skip_of physical = s ∙ rw (p, q) in
      let lx : x ≡ range_len (skip_of physical) effective = rw (← d) l.meaning in
      let ly : y ≡ range_len (skip_of physical) physical = rw (← d) m.meaning in
      record { meaning = g.meaning ∙ rw (← e, w, lx, ly); within = g.within }

pub ruleset fraction_exits = (len_most, whole_same, part_of)
