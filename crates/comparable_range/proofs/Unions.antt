-- The union of two ranges in order. They are joined exactly if the second starts at or before the first's end, as cuts;
-- then the first's start and the later end enclose what either holds.
-- Assumes nothing.
use mathlib.Core.Path.{◌≡◌, refl, sym, ap, ap₂, ◌∙◌}
use mathlib.Core.Logic.{inl, inr}
use mathlib.Core.Bool.{Bool, true, false, not, ◌&&◌, ◌||◌, false≢true, or-true, or_comm}
use mathlib.Core.Option.{Option, some}
use Rattle.base.specs.Pick.{pick}
use Rattle.key.specs.Order.{Key, cmp_key, cmp_number, swap, or_else, at_most, is_less, is_equal}
use Rattle.std.specs.declared.cmp.Ordering.{Ordering}
use Rattle.std.specs.declared.cmp.Ordering.TheVariants.{Less, Equal, Greater}
use Rattle.key.proofs.Linear.{or_else_end, or_else_equal, swap_or_else, cmp_self}
use Rattle.comparable_range.specs.declared.Side.TheVariants.{First, Second}
use Rattle.comparable_range.specs.Range.{Sides}
use Rattle.std.specs.Prelude.{None, Some}
use Rattle.comparable_range.specs.Range.{Bound, unbounded, included, excluded, Range, non_empty, holds, supplied, chosen, start_side, end_side, overlap, intersect_sides, are_adjacent, cmp_range, meets, greater_end_side, unite_sides, exchanged, union_sides, union}
use Rattle.comparable_range.specs.Cut.{Cut, before, after, cmp_cut, cut_at_most, cut_below, ◌≼◌, ◌≺◌, sooner, start_cut, end_cut}
use Rattle.comparable_range.specs.Laws.{held_by, is_none, lesser_of, greater_of, UnionHoldsWhatEitherHolds, UnionCommutes, UnionIsNoneWhereApart}
use Rattle.comparable_range.proofs.Cut.{cut_order_is_total, order, ≼-antisym, ≼_trans, ≺-≼, ≼-before}
use Rattle.comparable_range.proofs.Lattice.{later_right, sooner-≼-left, ≺-sooner, at_most_later}
use Rattle.comparable_range.proofs.ByCuts.{cmp_start, cmp_end, passes_by_cuts, passes-≺, below-of-≺, not-below-of-≼, holds_by_cuts, start_injective, end_injective, start_side_cut, end_side_cut, greater_end_cut}

-- a range's two cuts
abbrev from : Range → Cut
from r = start_cut r.start

abbrev to : Range → Cut
to r = end_cut r.end

-- ---- the two in order
unite : Range → Range → Option Range
unite r q = chosen r q (unite_sides r q)

chosen_exchanged : (r q : Range) (s : Sides) → chosen r q (exchanged s) ≡ chosen q r s
chosen_exchanged r q None = refl
chosen_exchanged r q (Some (First, First)) = refl
chosen_exchanged r q (Some (First, Second)) = refl
chosen_exchanged r q (Some (Second, First)) = refl
chosen_exchanged r q (Some (Second, Second)) = refl

union_is : (r q : Range) → union r q ≡ unite (lesser_of r q) (greater_of r q)
unfolding union_sides unite
union_is r q = go (is_less (cmp_range r q))
  where
    go :
        (t : Bool)
        → chosen r q (pick t (unite_sides r q) (exchanged (unite_sides q r)))
        ≡ chosen (pick t r q) (pick t q r) (unite_sides (pick t r q) (pick t q r))
    go true = refl
    go false = chosen_exchanged r q (unite_sides q r)

cmp_range_by_cuts : (r q : Range) → cmp_range r q ≡ or_else (cmp_cut (from r) (from q)) (cmp_cut (to r) (to q))
unfolding cmp_range
cmp_range_by_cuts r q = rw (cmp_start, cmp_end)

less-≼ : (c d : Cut) (p : Ordering) → is_less (or_else (cmp_cut c d) p) ≡ true → c ≼ d
unfolding cut_at_most
less-≼ c d p h = record { holds = go (cmp_cut c d) h }
  where
    go : (o : Ordering) → is_less (or_else o p) ≡ true → at_most o ≡ true
    go Less e = refl
    go Equal e = refl
    go Greater e = e

not-less-≼ : (c d : Cut) (p : Ordering) → is_less (or_else (cmp_cut c d) p) ≡ false → d ≼ c
unfolding cut_at_most
not-less-≼ c d p h = record { holds = rw (cut_order_is_total.swaps c d) (go (cmp_cut c d) h) }
  where
    go : (o : Ordering) → is_less (or_else o p) ≡ false → at_most (swap o) ≡ true
    go Less e = sym e
    go Equal e = refl
    go Greater e = refl

-- the lesser starts no later
lesser_first : (r q : Range) → from (lesser_of r q) ≼ from (greater_of r q)
lesser_first r q = go (is_less (cmp_range r q)) refl
  where
    go : (t : Bool) → is_less (cmp_range r q) ≡ t → from (pick t r q) ≼ from (pick t q r)
    go true e = less-≼ (from r) (from q) (cmp_cut (to r) (to q)) (rw (cmp_range_by_cuts r q) at e)
    go false e = not-less-≼ (from r) (from q) (cmp_cut (to r) (to q)) (rw (cmp_range_by_cuts r q) at e)

-- what two ranges have, each of them has
pub pick_both : (P : Range → Type 0) (t : Bool) {r q : Range} → P r → P q → P (pick t r q)
pick_both P true h k = h
pick_both P false h k = k

-- ---- which are joined
unequal_after : (o : Ordering) → false ≡ is_equal (or_else o Greater)
unequal_after Less = refl
unequal_after Equal = refl
unequal_after Greater = refl

unequal_before : (o : Ordering) → false ≡ is_equal (or_else o Less)
unequal_before Less = refl
unequal_before Equal = refl
unequal_before Greater = refl

-- an end and a start are adjacent exactly if they are one cut
adjacent_by_cuts : (e s : Bound) → are_adjacent e s ≡ is_equal (cmp_cut (end_cut e) (start_cut s))
unfolding are_adjacent cmp_cut cmp_number
adjacent_by_cuts unbounded unbounded = refl
adjacent_by_cuts unbounded (included b) = refl
adjacent_by_cuts unbounded (excluded b) = refl
adjacent_by_cuts (included a) unbounded = refl
adjacent_by_cuts (included a) (included b) = unequal_after (cmp_key a b)
adjacent_by_cuts (included a) (excluded b) = rw (or_else_end (cmp_key a b))
adjacent_by_cuts (excluded a) unbounded = refl
adjacent_by_cuts (excluded a) (included b) = rw (or_else_end (cmp_key a b))
adjacent_by_cuts (excluded a) (excluded b) = unequal_before (cmp_key a b)

-- two ranges meet exactly if the greater start and the lesser end pass the test
pub meets_is : (r q : Range) → meets (intersect_sides r q) ≡ non_empty (overlap r q)
unfolding intersect_sides
meets_is r q = go (non_empty (overlap r q))
  where
    go : (t : Bool) → meets (pick t (Some (start_side r.start q.start, end_side r.end q.end)) None) ≡ t
    go true = refl
    go false = refl

abbrev joined : Range → Range → Bool
joined r q = meets (intersect_sides r q) || are_adjacent r.end q.start

joined_by_cuts :
    (r q : Range)
    → from r ≼ from q
    → joined r q ≡ (cut_below (from q) (sooner (to r) (to q)) || is_equal (cmp_cut (to r) (from q)))
joined_by_cuts r q h = rw (meets_is r q, passes_by_cuts, start_side_cut, end_side_cut, later_right h, adjacent_by_cuts)

unequal_cuts : {c d : Cut} → c ≺ d → is_equal (cmp_cut c d) ≡ false
unfolding cut_below
unequal_cuts {c} {d} h = go (cmp_cut c d) (below-of-≺ h)
  where
    go : (o : Ordering) → is_less o ≡ true → is_equal o ≡ false
    go Less e = refl
    go Equal e = sym e
    go Greater e = refl

-- with the first's end before the second's start they are not ..
apart_not_joined : (r q : Range) → from r ≼ from q → to r ≺ from q → joined r q ≡ false
apart_not_joined r q h k =
    let l = ≼_trans (sooner-≼-left (to r) (to q)) (≺-≼ k) in
    rw (joined_by_cuts r q h, not-below-of-≼ l, unequal_cuts k)

-- .. and else they are, if the second passes.
near_joined : (r q : Range) → from r ≼ from q → from q ≺ to q → from q ≼ to r → joined r q ≡ true
near_joined r q h p k =
    elim (order (to r) (from q)) [
      | inl l ↦ rw (joined_by_cuts r q h, ≼-antisym l k, cmp_self cmp_cut cut_order_is_total (from q), or-true)
      | inr l ↦ rw (joined_by_cuts r q h, below-of-≺ (≺-sooner l p))
    ]

joined_near : (r q : Range) → from r ≼ from q → joined r q ≡ true → from q ≼ to r
joined_near r q h j =
    elim (order (from q) (to r)) [
      | inl k ↦ k
      | inr k ↦ absurd (false≢true (sym (apart_not_joined r q h k) ∙ j))
    ]

-- ---- no union
unite_none : (r q : Range) → is_none (unite r q) ≡ not (joined r q)
unfolding unite unite_sides
unite_none r q = go (joined r q)
  where
    go : (t : Bool) → is_none (chosen r q (pick t (Some (First, greater_end_side r.end q.end)) None)) ≡ not t
    go true = refl
    go false = refl

unite_apart : (r q : Range) → from r ≼ from q → from q ≺ to q → is_none (unite r q) ≡ cut_below (to r) (from q)
unite_apart r q h p =
    elim (order (from q) (to r)) [
      | inl k ↦ rw (unite_none r q, near_joined r q h p k, not-below-of-≼ k)
      | inr k ↦ rw (unite_none r q, apart_not_joined r q h k, below-of-≺ k)
    ]

pub union_is_none_where_apart : UnionIsNoneWhereApart
union_is_none_where_apart r q p₁ p₂ =
    let p = pick_both (λ r. non_empty r ≡ true) (is_less (cmp_range r q)) p₂ p₁ in
    ap is_none (union_is r q) ∙ unite_apart (lesser_of r q) (greater_of r q) (lesser_first r q) (passes-≺ _ _ p)

-- ---- the keys held
-- s, e: that the first's start and end admit the key; t, f: that the second's do
either : (s e t f : Bool) → (t ≡ true → s ≡ true) → (e ≡ false → t ≡ true) → (s && (e || f)) ≡ ((s && e) || (t && f))
either true true t f h k = refl
either true false true f h k = refl
either true false false f h k = absurd (false≢true (k refl))
either false e true f h k = absurd (false≢true (h refl))
either false e false f h k = refl

-- a key that the second's start does not admit lies before the first's end
unite_holds :
    (r q : Range)
    → from r ≼ from q
    → from q ≼ to r
    → (x : Key)
    → holds (supplied r q First (greater_end_side r.end q.end)) x ≡ (holds r x || holds q x)
unite_holds r q h k x =
    simp (holds_by_cuts, greater_end_cut, at_most_later)
    (either (cut_at_most (from r) (before x)) (cut_at_most (after x) (to r)) (cut_at_most (from q) (before x)) _
    (λ t. (≼_trans h (record { holds = t })).holds) (λ e. (≼_trans k (≼-before (record { fails = e }))).holds))

unite_is :
    (r q u : Range)
    → from r ≼ from q
    → unite r q ≡ some u
    → (x : Key)
    → holds u x ≡ (holds r x || holds q x)
unfolding unite unite_sides
unite_is r q u h e x = go (joined r q) refl e
  where
    go :
        (t : Bool)
        → joined r q ≡ t
        → chosen r q (pick t (Some (First, greater_end_side r.end q.end)) None) ≡ some u
        → holds u x ≡ (holds r x || holds q x)
    go true j e = ap (λ o. held_by o x) (sym e) ∙ unite_holds r q h (joined_near r q h j) x
    go false j e = cc

pub union_holds_what_either_holds : UnionHoldsWhatEitherHolds
union_holds_what_either_holds r q u e x =
    unite_is (lesser_of r q) (greater_of r q) u (lesser_first r q) (sym (union_is r q) ∙ e) x ∙ go (is_less (cmp_range r q))
  where
    go : (t : Bool) → (holds (pick t r q) x || holds (pick t q r) x) ≡ (holds r x || holds q x)
    go true = refl
    go false = or_comm (holds q x) (holds r x)

-- ---- exchange
cmp_range_swaps : (r q : Range) → cmp_range q r ≡ swap (cmp_range r q)
cmp_range_swaps r q =
    let s = cut_order_is_total.swaps (from r) (from q) in
    let e = cut_order_is_total.swaps (to r) (to q) in
    rw (cmp_range_by_cuts q r, cmp_range_by_cuts r q, swap_or_else, s, e)

cmp_range_equal : (r q : Range) → cmp_range r q ≡ Equal → r ≡ q
cmp_range_equal r q e =
    let h = or_else_equal (cmp_cut (from r) (from q)) _ (sym (cmp_range_by_cuts r q) ∙ e) in
    ap₂ (λ (s e : Bound). record { start = s; end = e }) (start_injective (cut_order_is_total.equal _ _ h.0))
    (end_injective (cut_order_is_total.equal _ _ h.1))

pub union_commutes : UnionCommutes
union_commutes r q = rw (union_is r q, union_is q r, cmp_range_swaps r q) (go (cmp_range r q) refl)
  where
    go :
        (o : Ordering)
        → cmp_range r q ≡ o
        → unite (pick (is_less o) r q) (pick (is_less o) q r) ≡ unite (pick (is_less (swap o)) q r) (pick (is_less (swap o)) r q)
    go Less e = refl
    go Equal e = ap₂ unite (sym (cmp_range_equal r q e)) (cmp_range_equal r q e)
    go Greater e = refl
