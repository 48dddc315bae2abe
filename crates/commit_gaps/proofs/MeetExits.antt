-- The exits of `meet` and of its two halves: the bounds of the piece are those that the comparisons chose.
-- Assumes nothing.
use Prim.Native.Nat.{ℕ}
use native.Mathlib.Omega.{arith}
use mathlib.Core.Path.{◌≡◌, refl, sym, ap, ◌∙◌}
use mathlib.Core.Bool.{Bool, true, false, ◌&&◌}
use mathlib.Core.Option.{none, some}
use Rattle.base.specs.Pick.{pick}
use Rattle.key.specs.Order.{swap, is_equal, is_less, at_most}
use Rattle.std.specs.declared.cmp.Ordering.{Ordering}
use Rattle.std.specs.declared.cmp.Ordering.TheVariants.{Less, Equal, Greater}
use Rattle.comparable_range.specs.Range.{Bound, Range, of, supplied, cmp_bound, non_empty, start_side, end_side, intersect_sides, intersect}
use Rattle.comparable_range.specs.Cut.{cut_at_most, ◌≼◌, start_cut, end_cut}
use Rattle.comparable_range.specs.declared.Side.{Side}
use Rattle.comparable_range.specs.declared.Side.TheVariants.{First, Second}
use Rattle.comparable_range.proofs.Cut.{cut_order_is_total}
use Rattle.comparable_range.proofs.Lattice.{later_left}
use Rattle.comparable_range.proofs.ByCuts.{cmp_start, cmp_end, start_side_cut, start_injective, fails-≼}
use Rattle.incremental_progress.specs.Views.{same_range}
use Rattle.incremental_progress.proofs.Views.{same_range_self}
use Rattle.commit_gaps.specs.declared.piece.Piece.TheVariants.{Whole, Cut}
use Rattle.commit_gaps.specs.declared.piece.Meeting.TheVariants.{Apart, Past, Last, More}
use Rattle.commit_gaps.specs.Found.{StartsWithin, all_of_it, part_of_it, MeetingIs, nothing, ended, ends, goes_on}

-- ---- bounds
start_swaps : (a b : Bound) → cmp_bound true b a ≡ swap (cmp_bound true a b)
start_swaps a b = cmp_start b a ∙ cut_order_is_total.swaps (start_cut a) (start_cut b) ∙ ap swap (sym (cmp_start a b))

end_swaps : (a b : Bound) → cmp_bound false b a ≡ swap (cmp_bound false a b)
end_swaps a b = cmp_end b a ∙ cut_order_is_total.swaps (end_cut a) (end_cut b) ∙ ap swap (sym (cmp_end a b))

-- the first of two ends is the lesser, or the second is less
first_end : (a b : Bound) → end_side a b ≡ First → end_cut a ≼ end_cut b
unfolding end_side cut_at_most
first_end a b e = go (cmp_bound false a b) refl e
  where
    go : (o : Ordering) → cmp_bound false a b ≡ o → pick (at_most o) First Second ≡ First → end_cut a ≼ end_cut b
    go Less f e = record { holds = rw (← cmp_end a b, f) }
    go Equal f e = record { holds = rw (← cmp_end a b, f) }
    go Greater f e = absurd (let z : ◌≡◌ {A = ℕ} 0 1 = cc in omega arith)

second_end : (a b : Bound) → end_side a b ≡ Second → is_equal (cmp_bound false b a) ≡ false
unfolding end_side
second_end a b e = go (cmp_bound false a b) refl e
  where
    go : (o : Ordering) → cmp_bound false a b ≡ o → pick (at_most o) First Second ≡ Second → is_equal (cmp_bound false b a) ≡ false
    go Less f e = cc
    go Equal f e = cc
    go Greater f e = rw (end_swaps a b, f)

both_false : (x : Bool) → (x && false) ≡ false
both_false true = refl
both_false false = refl

-- ---- a range that starts before the gap
meets_some : (r g : Range) (a b : Side) → start_side r.start g.start ≡ a → end_side r.end g.end ≡ b → non_empty (supplied r g a b) ≡ true → intersect r g ≡ some (supplied r g a b)
unfolding intersect_sides
meets_some r g a b d e p = rw (d, e, p)

meets_none : (r g : Range) (a b : Side) → start_side r.start g.start ≡ a → end_side r.end g.end ≡ b → non_empty (supplied r g a b) ≡ false → intersect r g ≡ none
unfolding intersect_sides
meets_none r g a b d e p = rw (d, e, p)

module _ (r g : Range) (s : cmp_bound true r.start g.start ≡ Less) where
  second_start : start_side r.start g.start ≡ Second
  unfolding start_side
  second_start = rw s

  cut_start : (b : Side) → same_range (supplied r g Second b) r ≡ false
  unfolding same_range
  cut_start b = rw (start_swaps r.start g.start, s)

  pub starts_past : {t : Bool} → t ≡ non_empty (record { start = g.start; end = r.end }) → t ≡ false → MeetingIs r g Past
  starts_past e f = ended (fails-≼ g.start r.end (sym e ∙ f))

  pub ahead_ends : {t : Bool} {d : Side} → t ≡ non_empty (record { start = g.start; end = r.end }) → t ≡ true → d ≡ end_side r.end g.end → d ≡ First → MeetingIs r g (Last (Cut Second First))
  ahead_ends e f h k =
      let l = sym h ∙ k in
      ends (record { piece = supplied r g Second First; lies = meets_some r g Second First second_start l (sym e ∙ f); is = part_of_it (cut_start First) refl })
      (first_end r.end g.end l)

  module _ {d : Side} (h : d ≡ end_side r.end g.end) (k : d ≡ Second) {t : Bool} (e : t ≡ non_empty (record { start = g.start; end = g.end })) where
    pub ahead_through : t ≡ true → MeetingIs r g (More (Cut Second Second))
    ahead_through f =
        goes_on (record { piece = supplied r g Second Second; lies = meets_some r g Second Second second_start (sym h ∙ k) (sym e ∙ f); is = part_of_it (cut_start Second) refl })

    pub ahead_empty : t ≡ false → MeetingIs r g Apart
    ahead_empty f = nothing (meets_none r g Second Second second_start (sym h ∙ k) (sym e ∙ f))

pub ruleset ahead_exits = (starts_past, ahead_ends, ahead_through, ahead_empty)

-- ---- a range that starts in the gap
not_before : (a b : Bound) → is_less (cmp_bound true a b) ≡ false → start_cut b ≼ start_cut a
unfolding cut_at_most
not_before a b e = record { holds = rw (← cmp_start b a, start_swaps a b) (go (cmp_bound true a b) e) }
  where
    go : (o : Ordering) → is_less o ≡ false → at_most (swap o) ≡ true
    go Less f = sym f
    go Equal f = refl
    go Greater f = refl

module _ (r g : Range) {a : Side} (p : StartsWithin r g a) where
  own_start : of a r.start g.start ≡ r.start
  own_start = rw p.is (start_injective (start_side_cut r.start g.start ∙ later_left (not_before r.start g.start p.later)))

  module _ {d : Side} (h : d ≡ end_side r.end g.end) where
    pub within_whole : d ≡ First → MeetingIs r g (Last Whole)
    within_whole k =
        let e = sym h ∙ k in
        let same : supplied r g a First ≡ r = rw own_start in
        ends (record { piece = r; lies = meets_some r g a First (sym p.is) e (rw own_start p.passes) ∙ ap some same; is = all_of_it (same_range_self r) })
        (first_end r.end g.end e)

    module _ (k : d ≡ Second) {t : Bool} (e : t ≡ non_empty (record { start = r.start; end = g.end })) where
      pub within_through : t ≡ true → MeetingIs r g (More (Cut a Second))
      unfolding same_range
      within_through f =
          goes_on (record {
            piece = supplied r g a Second;
            lies = meets_some r g a Second (sym p.is) (sym h ∙ k) (rw own_start (sym e ∙ f));
            is = part_of_it (rw (second_end r.end g.end (sym h ∙ k)) (both_false (is_equal (cmp_bound true (of a r.start g.start) r.start)))) refl;
          })

      pub within_behind : t ≡ false → MeetingIs r g Apart
      within_behind f = nothing (meets_none r g a Second (sym p.is) (sym h ∙ k) (rw own_start (sym e ∙ f)))

pub ruleset within_exits = (within_whole, within_through, within_behind)

-- ---- which of the two it is
module _ (r g : Range) {o : Ordering} (e : o ≡ cmp_bound true r.start g.start) where
  pub starts_alike : o ≡ Equal → non_empty r ≡ true → StartsWithin r g Second
  unfolding start_side
  starts_alike f n = record { passes = n; later = rw (← e, f); is = rw (← e, f) }

  pub starts_after : o ≡ Greater → non_empty r ≡ true → StartsWithin r g First
  unfolding start_side
  starts_after f n = record { passes = n; later = rw (← e, f); is = rw (← e, f) }

pub ruleset meet_exits = (starts_alike, starts_after)
