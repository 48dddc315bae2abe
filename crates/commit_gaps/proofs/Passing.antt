-- A gap that ends before a range starts, or starts after it has ended, holds nothing of it.
-- Assumes nothing.
use Prim.Native.Nat.{ℕ, zero, suc, ◌+◌, ◌≤◌}
use native.Mathlib.Omega.{arith}
use mathlib.Core.Path.{◌≡◌, refl, ◌∙◌}
use mathlib.Core.Bool.{false}
use mathlib.Core.Option.{none}
use mathlib.Core.List.{List, [], ◌∷◌, flat_map}
use lib.ListN.{length, take, drop}
use Rattle.base.specs.Lists.{All, All-map}
use Rattle.comparable_range.specs.Range.{Bound, Range, non_empty, overlap, intersect_sides, intersect}
use Rattle.comparable_range.specs.Cut.{◌≼◌, later, sooner, start_cut, end_cut}
use Rattle.comparable_range.proofs.Cut.{≼_trans}
use Rattle.comparable_range.proofs.Lattice.{≼-later-l, ≼-later-r, sooner-≼-l, sooner-≼-r}
use Rattle.comparable_range.proofs.ByCuts.{passes_by_cuts, not-below-of-≼, fails-≼, start_side_cut, end_side_cut}
use Rattle.manifest.specs.Laws.{StartsHeld}
use Rattle.incremental_progress.specs.Gaps.{void, pieces, gaps_met}
use Rattle.incremental_progress.proofs.ByGaps.{first-≼}
use Rattle.commit_gaps.specs.Ordered.{Behind, Ahead, is_void, starts_later}

-- ---- one gap
apart : (r g : Range) → sooner (end_cut r.end) (end_cut g.end) ≼ later (start_cut r.start) (start_cut g.start) → intersect r g ≡ none
unfolding intersect_sides
apart r g h =
    let f : non_empty (overlap r g) ≡ false
    = passes_by_cuts (overlap r g).start (overlap r g).end
    ∙ rw (start_side_cut r.start g.start, end_side_cut r.end g.end) (not-below-of-≼ h) in
    rw f

-- it ends before the range starts
pub behind_none : (r g : Range) → non_empty (record { start = r.start; end = g.end }) ≡ false → intersect r g ≡ none
behind_none r g f =
    apart r g (≼-later-l (start_cut r.start) (start_cut g.start) (sooner-≼-r (end_cut r.end) (end_cut g.end) (fails-≼ r.start g.end f)))

-- it starts where the range has ended, or after that
pub past_none : (r g : Range) → end_cut r.end ≼ start_cut g.start → intersect r g ≡ none
past_none r g h =
    apart r g (≼-later-r (start_cut r.start) (start_cut g.start) (sooner-≼-l (end_cut r.end) (end_cut g.end) h))

-- it is void, and the range starts at a key: no key is below the empty one
pub void_none : (r : Range) → StartsHeld r → intersect r void ≡ none
void_none r s =
    apart r void
    (≼-later-l (start_cut r.start) (start_cut void.start)
    (sooner-≼-r (end_cut r.end) (end_cut void.end) (rw s.start (first-≼ s.key))))

-- ---- gaps that hold nothing of the range

module _ (r : Range) where
  pub clear_pieces : (c : ℕ) (gs : List Range) → All (λ g. intersect r g ≡ none) (take c gs) → pieces gs r ≡ pieces (drop c gs) r
  unfolding pieces flat_map
  clear_pieces zero gs a = refl
  clear_pieces (suc c) [] a = refl
  clear_pieces (suc c) (g ∷ gs) a = rw a.0 (clear_pieces c gs a.1)

  pub clear_met : (c n : ℕ) (gs : List Range) → c ≤ length gs → All (λ g. intersect r g ≡ none) (take c gs) → gaps_met n gs r ≡ gaps_met (n + c) (drop c gs) r
  unfolding gaps_met flat_map
  clear_met zero n gs l a = let z : n + 0 ≡ n = omega arith in rw z
  clear_met (suc c) n [] l a = absurd (omega arith)
  clear_met (suc c) n (g ∷ gs) l a =
      let z : n + suc c ≡ suc n + c = omega arith in
      rw (a.0, z) (clear_met c (suc n) gs (omega arith) a.1)

  pub all_clear : (gs : List Range) → All (λ g. intersect r g ≡ none) gs → pieces gs r ≡ []
  unfolding pieces flat_map
  all_clear [] a = refl
  all_clear (g ∷ gs) a = rw a.0 (all_clear gs a.1)

  pub none_met : (n : ℕ) (gs : List Range) → All (λ g. intersect r g ≡ none) gs → gaps_met n gs r ≡ []
  unfolding gaps_met flat_map
  none_met n [] a = refl
  none_met n (g ∷ gs) a = rw a.0 (none_met (suc n) gs a.1)

  -- Gaps behind the range's start can be passed over.
  pub behind_pieces : (c : ℕ) (gs : List Range) → Behind r.start (take c gs) → pieces gs r ≡ pieces (drop c gs) r
  behind_pieces c gs a = clear_pieces c gs (All-map (λ g f. behind_none r g f) (take c gs) a)

  pub behind_met : (c : ℕ) (gs : List Range) → c ≤ length gs → Behind r.start (take c gs) → gaps_met 0 gs r ≡ gaps_met c (drop c gs) r
  behind_met c gs l a =
      let z : 0 + c ≡ c = omega arith in
      rw z at (clear_met c 0 gs l (All-map (λ g f. behind_none r g f) (take c gs) a))

-- What is behind a start is behind a later one.
pub behind_later : (b c : Bound) (gs : List Range) → start_cut b ≼ start_cut c → Behind b gs → Behind c gs
behind_later b c gs h a =
    All-map (λ g f. passes_by_cuts c g.end ∙ not-below-of-≼ (≼_trans (fails-≼ b g.end f) h)) gs a

-- ---- gaps ahead of one
-- once a gap starts where the range has ended, no later gap holds anything of it
pub past_clear : (r g : Range) (hs : List Range) → StartsHeld r → end_cut r.end ≼ start_cut g.start → All (Ahead g) hs → All (λ h. intersect r h ≡ none) hs
past_clear r g hs s e a = All-map go hs a
  where
    go : (h : Range) → Ahead g h → intersect r h ≡ none
    go h (is_void v) = rw v (void_none r s)
    go h (starts_later k l) = past_none r h (≼_trans e k)

-- nor does any after the gap that the range ends in
pub ended_clear : (r g : Range) (hs : List Range) → StartsHeld r → end_cut r.end ≼ end_cut g.end → All (Ahead g) hs → All (λ h. intersect r h ≡ none) hs
ended_clear r g hs s e a = All-map go hs a
  where
    go : (h : Range) → Ahead g h → intersect r h ≡ none
    go h (is_void v) = rw v (void_none r s)
    go h (starts_later k l) = past_none r h (≼_trans e l)
