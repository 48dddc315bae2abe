-- The intersection is the later of the starts and the sooner of the ends, as cuts; a key is at or after the later of two
-- cuts if it is so for both.
-- Assumes nothing.
use mathlib.Core.Path.{◌≡◌, refl, sym, ap, ap₂, ◌∙◌}
use mathlib.Core.Bool.{Bool, true, false, not, ◌&&◌}
use mathlib.Core.Option.{Option, none, some}
use Rattle.base.specs.Pick.{pick}
use Rattle.key.specs.Order.{Key}
use Rattle.std.specs.Prelude.{None, Some}
use Rattle.comparable_range.specs.Range.{Bound, Range, of, non_empty, holds, start_side, end_side, chosen, overlap, intersect, intersect_sides}
use Rattle.comparable_range.specs.Cut.{before, after, cut_at_most, start_cut, end_cut}
use Rattle.comparable_range.specs.Laws.{held_by, is_none, IntersectHoldsWhatBothHold, IntersectIsNoneWhereBoundsFail, IntersectCommutes}
use Rattle.comparable_range.proofs.Lattice.{later_commutes, sooner_commutes, later_at_most, at_most_sooner}
use Rattle.comparable_range.proofs.ByCuts.{holds_by_cuts, start_injective, end_injective, start_side_cut, end_side_cut}
use Rattle.comparable_range.proofs.Keyless.{failing_holds_none}

-- a range, if it passes
abbrev passing : Range → Option Range
passing r = pick (non_empty r) (some r) none

intersect_is : (r q : Range) → intersect r q ≡ passing (overlap r q)
unfolding intersect_sides
intersect_is r q = go (non_empty (overlap r q))
  where
    go :
        (t : Bool)
        → chosen r q (pick t (Some (start_side r.start q.start, end_side r.end q.end)) None)
        ≡ pick t (some (overlap r q)) none
    go true = refl
    go false = refl

pub intersect_is_none_where_bounds_fail : IntersectIsNoneWhereBoundsFail
intersect_is_none_where_bounds_fail r q = rw (intersect_is r q) (go (non_empty (overlap r q)))
  where
    go : (t : Bool) → is_none (pick t (some (overlap r q)) none) ≡ not t
    go true = refl
    go false = refl

-- ---- the keys held
four : (a b c d : Bool) → ((a && c) && (b && d)) ≡ ((a && b) && (c && d))
four false b c d = refl
four true false false d = refl
four true false true d = refl
four true true c d = refl

pub overlap_holds : (r q : Range) (x : Key) → holds (overlap r q) x ≡ (holds r x && holds q x)
overlap_holds r q x =
    simp (holds_by_cuts, start_side_cut, end_side_cut, later_at_most, at_most_sooner)
    (four (cut_at_most (start_cut r.start) (before x)) (cut_at_most (after x) (end_cut r.end)) _ _)

pub intersect_holds_what_both_hold : IntersectHoldsWhatBothHold
intersect_holds_what_both_hold r q x = rw (intersect_is r q) (go (non_empty (overlap r q)) refl)
  where
    go : (t : Bool) → non_empty (overlap r q) ≡ t → held_by (pick t (some (overlap r q)) none) x ≡ (holds r x && holds q x)
    go true e = overlap_holds r q x
    go false e = sym (failing_holds_none (overlap r q) e x) ∙ overlap_holds r q x

-- ---- exchange
start_commutes : (a b : Bound) → of (start_side a b) a b ≡ of (start_side b a) b a
start_commutes a b = start_injective (rw (start_side_cut a b, start_side_cut b a) (later_commutes (start_cut a) (start_cut b)))

end_commutes : (a b : Bound) → of (end_side a b) a b ≡ of (end_side b a) b a
end_commutes a b = end_injective (rw (end_side_cut a b, end_side_cut b a) (sooner_commutes (end_cut a) (end_cut b)))

overlap_commutes : (r q : Range) → overlap r q ≡ overlap q r
overlap_commutes r q =
    ap₂ (λ (s e : Bound). record { start = s; end = e }) (start_commutes r.start q.start)
    (end_commutes r.end q.end)

pub intersect_commutes : IntersectCommutes
intersect_commutes r q = intersect_is r q ∙ (ap passing (overlap_commutes r q) ∙ sym (intersect_is q r))
