-- Where the pieces of a run's views lie: each in the gap of its number, and those of one gap in order.
-- Assumes nothing.
use Prim.Native.Nat.{ℕ, zero, suc, ◌+◌, ◌≤◌}
use native.Mathlib.Omega.{arith}
use mathlib.Core.Path.{◌≡◌, refl, sym, ◌∙◌}
use mathlib.Core.Logic.{inl, inr}
use mathlib.Core.Bool.{true}
use mathlib.Core.Option.{Option, none, some}
use mathlib.Core.List.{List, [], ◌∷◌, ◌++◌, map, flat_map, append-nil}
use lib.ListN.{length, length-append, length-map}
use Rattle.key.specs.Order.{Key}
use Rattle.comparable_range.specs.Range.{Bound, unbounded, included, Range, intersect}
use Rattle.comparable_range.specs.Cut.{Cut, below, ◌≼◌, later, start_cut, end_cut}
use Rattle.comparable_range.proofs.Cut.{≼_trans, ≼_refl, ≺-≼, ≺-≼-trans, order}
use Rattle.comparable_range.proofs.Lattice.{later_left, later_right, ≼-later-left, ≼-later-right, sooner-≼-right}
use Rattle.records.specs.Values.{View}
use Rattle.manifest.specs.Ranges.{effective}
use Rattle.manifest.specs.Checks.{table_passes}
use Rattle.manifest.proofs.ViewRanges.{effective_start_is_held}
use Rattle.incremental_progress.specs.Views.{start}
use Rattle.incremental_progress.specs.Entries.{piece_entry}
use Rattle.incremental_progress.specs.Intervals.{Interval, listed}
use Rattle.incremental_progress.specs.Gaps.{gap_to, last_gap, gap_from, gaps_from, gaps, pieces, gap_entries, Placed, gaps_met, run_gaps, placed}
use Rattle.base.specs.Lists.{All, All-map, All-of, All-both, All-append, All-flatMap, All-mapped, All-unmapped, Pairwise, Pairwise-append, Pairwise-all}
use Rattle.incremental_progress.proofs.Sort.{Sorted}
use Rattle.incremental_progress.proofs.Pieces.{All-keep}
use Rattle.incremental_progress.proofs.Subtraction.{cuts, intersect_cuts}
use Rattle.incremental_progress.proofs.Job.{from_cut, to_cut}
use Rattle.incremental_progress.proofs.GapLaws.{InStep, FallsIn, in_last, in_first, in_later}
use Rattle.incremental_progress.proofs.ByGaps.{cut_of, gap_cuts, last_cuts, after_cut}

-- ---- numbers and pieces
-- as many numbers as pieces
pub met_length : (g : ℕ) (gs : List Range) (r : Range) → length (gaps_met g gs r) ≡ length (pieces gs r)
unfolding gaps_met pieces flat_map
met_length g [] r = refl
met_length g (h ∷ hs) r = go (intersect r h) (met_length (suc g) hs r)
  where
    go : (o : Option Range) → length (gaps_met (suc g) hs r) ≡ length (pieces hs r)
        → length (flat_map (λ (q : Range). g ∷ []) (listed o) ++ gaps_met (suc g) hs r) ≡ length (listed o ++ pieces hs r)
    go none e = e
    go (some q) e = rw e

-- numbers from one on are those from zero on, each one more
met_next : (g : ℕ) (gs : List Range) (r : Range) → gaps_met (suc g) gs r ≡ map suc (gaps_met g gs r)
unfolding gaps_met flat_map
met_next g [] r = refl
met_next g (h ∷ hs) r = rw (met_next (suc g) hs r) (go (intersect r h))
  where
    go : (o : Option Range)
        → flat_map (λ (q : Range). suc g ∷ []) (listed o) ++ map suc (gaps_met (suc g) hs r)
        ≡ map suc (flat_map (λ (q : Range). g ∷ []) (listed o) ++ gaps_met (suc g) hs r)
    go none = refl
    go (some q) = refl

abbrev pub start_of : Range → Cut
start_of r = start_cut r.start

-- where the pieces of a range start, with the numbers of their gaps
abbrev places : List Range → Range → List (Placed Cut)
places gs r = placed (gaps_met 0 gs r) (map start_of (pieces gs r))

-- in the first gap
abbrev here : Range → Placed Cut
here q = record { gap = 0; item = start_of q }

-- in the gap after its own
abbrev up : Placed Cut → Placed Cut
up p = record { gap = suc p.gap; item = p.item }

placed_up : (ns : List ℕ) (cs : List Cut) → placed (map suc ns) cs ≡ map up (placed ns cs)
unfolding placed
placed_up [] cs = refl
placed_up (n ∷ ns) [] = refl
placed_up (n ∷ ns) (c ∷ cs) = rw (placed_up ns cs)

places_none : (r : Range) → places [] r ≡ []
unfolding gaps_met placed
places_none r = refl

places_step : (h : Range) (hs : List Range) (r : Range)
    → places (h ∷ hs) r ≡ map here (listed (intersect r h)) ++ map up (places hs r)
unfolding gaps_met pieces flat_map placed
places_step h hs r = go (intersect r h)
  where
    rest : placed (gaps_met 1 hs r) (map start_of (pieces hs r)) ≡ map up (places hs r)
    rest = rw (met_next 0 hs r) (placed_up (gaps_met 0 hs r) (map start_of (pieces hs r)))

    go : (o : Option Range)
        → placed (flat_map (λ (q : Range). 0 ∷ []) (listed o) ++ gaps_met 1 hs r) (map start_of (listed o ++ pieces hs r))
        ≡ map here (listed o) ++ map up (places hs r)
    go none = rest
    go (some q) = rw rest

-- ---- one range
-- where the gap of a number starts
gap_start : Cut → List Interval → ℕ → Cut
gap_start c ivs zero = c
gap_start c [] (suc g) = c
gap_start c (iv ∷ ivs) (suc g) = gap_start (to_cut iv) ivs g

-- A piece of a range that starts at s: it falls in its gap, and starts where the range or the gap does, whichever is later.
record Met (c : Cut) (ivs : List Interval) (s : Cut) (p : Placed Cut) : Type 0 where
  falls : FallsIn from_cut to_cut c ivs p.gap p.item
  is : p.item ≡ later s (gap_start c ivs p.gap)

met_up : (iv : Interval) (ivs : List Interval) (c s : Cut) {d : Cut} → d ≡ to_cut iv → (p : Placed Cut) → Met d ivs s p → Met c (iv ∷ ivs) s (up p)
unfolding gap_start
met_up iv ivs c s e p m = let n = rw e at m in record { falls = in_later n.falls; is = n.is }

module _ (r : Range) (k : Key) (e : r.start ≡ included k) where
  in_gap_lem : (b : Option Bound) (iv : Interval) (ivs : List Interval)
      → All (λ q. Met (cut_of b) (iv ∷ ivs) (start_of r) (here q)) (listed (intersect r (gap_to b iv.start)))
  unfolding gap_start
  in_gap_lem b iv ivs =
      All-unmapped (λ s. Met (cut_of b) (iv ∷ ivs) (start_of r) (record { gap = 0; item = s.from })) cuts (listed (intersect r (gap_to b iv.start)))
      (rw (intersect_cuts r (gap_to b iv.start), gap_cuts r k e b iv.start)
      (All-keep _ _ (λ h.
      record { falls = in_first (≼-later-right (start_of r) (cut_of b)) (≺-≼-trans h (sooner-≼-right (end_cut r.end) (from_cut iv))); is = refl })))

  in_last_gap : (b : Option Bound) → All (λ q. Met (cut_of b) [] (start_of r) (here q)) (listed (intersect r (last_gap b)))
  unfolding gap_start
  in_last_gap b =
      All-unmapped (λ s. Met (cut_of b) [] (start_of r) (record { gap = 0; item = s.from })) cuts (listed (intersect r (last_gap b)))
      (rw (intersect_cuts r (last_gap b), last_cuts r k e b) (All-keep _ _ (λ h. record { falls = in_last (≼-later-right (start_of r) (cut_of b)); is = refl })))

  places_met : (b : Option Bound) (ivs : List Interval) → All (Met (cut_of b) ivs (start_of r)) (places (gaps_from b ivs) r)
  unfolding gaps_from
  places_met b [] =
      rw (places_step (last_gap b) [] r, places_none r, append-nil)
      (All-mapped (Met (cut_of b) [] (start_of r)) here (listed (intersect r (last_gap b))) (in_last_gap b))
  places_met b (iv ∷ ivs) =
      let found = listed (intersect r (gap_to b iv.start)) in
      let rest = places (gaps_from (gap_from iv.end) ivs) r in
      rw (places_step (gap_to b iv.start) (gaps_from (gap_from iv.end) ivs) r)
      (All-append (Met (cut_of b) (iv ∷ ivs) (start_of r)) (map here found) (map up rest)
      (All-mapped (Met (cut_of b) (iv ∷ ivs) (start_of r)) here found (in_gap_lem b iv ivs))
      (All-mapped (Met (cut_of b) (iv ∷ ivs) (start_of r)) up rest
      (All-map (λ p m. met_up iv ivs (cut_of b) (start_of r) (after_cut iv.end) p m) rest (places_met (gap_from iv.end) ivs))))

-- ---- items with numbers
module _ {A : Type 0} where
  placed_append : (ns ms : List ℕ) (xs ys : List A) → length ns ≡ length xs → placed (ns ++ ms) (xs ++ ys) ≡ placed ns xs ++ placed ms ys
  unfolding placed
  placed_append [] ms [] ys e = refl
  placed_append [] ms (x ∷ xs) ys e = absurd (omega arith)
  placed_append (n ∷ ns) ms [] ys e = absurd (omega arith)
  placed_append (n ∷ ns) ms (x ∷ xs) ys e = rw (placed_append ns ms xs ys (omega arith))

  -- with as many numbers as items none is lost
  pub placed_items : (ns : List ℕ) (xs : List A) → length ns ≡ length xs → map (λ p. p.item) (placed ns xs) ≡ xs
  unfolding placed
  placed_items [] [] e = refl
  placed_items [] (x ∷ xs) e = absurd (omega arith)
  placed_items (n ∷ ns) [] e = absurd (omega arith)
  placed_items (n ∷ ns) (x ∷ xs) e = rw (placed_items ns xs (omega arith))

  pub placed_gaps : (ns : List ℕ) (xs : List A) → length ns ≡ length xs → map (λ p. p.gap) (placed ns xs) ≡ ns
  unfolding placed
  placed_gaps [] [] e = refl
  placed_gaps [] (x ∷ xs) e = absurd (omega arith)
  placed_gaps (n ∷ ns) [] e = absurd (omega arith)
  placed_gaps (n ∷ ns) (x ∷ xs) e = rw (placed_gaps ns xs (omega arith))

  module _ (start : A → Cut) where
    -- what holds of numbers and starts holds of numbers and items
    pub All-starts : (P : ℕ → Cut → Type 0) (ns : List ℕ) (xs : List A) → All (λ p. P p.gap p.item) (placed ns (map start xs))
        → All (λ p. P p.gap (start p.item)) (placed ns xs)
    unfolding placed
    All-starts P [] xs a = tt
    All-starts P (n ∷ ns) [] a = tt
    All-starts P (n ∷ ns) (x ∷ xs) a = (a.0, All-starts P ns xs a.1)

    pub in_step_starts : (ns : List ℕ) (xs : List A) → Pairwise (InStep (λ c. c)) (placed ns (map start xs)) → Pairwise (InStep start) (placed ns xs)
    unfolding placed
    in_step_starts [] xs a = tt
    in_step_starts (n ∷ ns) [] a = tt
    in_step_starts (n ∷ ns) (x ∷ xs) a = (All-starts (λ m c. n ≡ m → start x ≼ c) ns xs a.0, in_step_starts ns xs a.1)

-- ---- a run's views
module _ (gs : List Range) where
  abbrev pub run_starts : List View → List Cut
  run_starts vs = flat_map (λ v. map start_of (pieces gs (effective v))) vs

  run_places_lem : (vs : List View) → placed (run_gaps gs vs) (run_starts vs) ≡ flat_map (λ v. places gs (effective v)) vs
  unfolding run_gaps flat_map placed
  run_places_lem [] = refl
  run_places_lem (v ∷ vs) =
      placed_append (gaps_met 0 gs (effective v)) (run_gaps gs vs) (map start_of (pieces gs (effective v))) (run_starts vs)
      (met_length 0 gs (effective v) ∙ sym (length-map (pieces gs (effective v)) start_of))
      ∙ rw (run_places_lem vs)

  -- as many numbers as entries
  pub gaps_length : (vs : List View) → length (run_gaps gs vs) ≡ length (flat_map (gap_entries gs) vs)
  unfolding run_gaps flat_map gap_entries
  gaps_length [] = refl
  gaps_length (v ∷ vs) =
      let r = effective v in
      let here : length (gaps_met 0 gs r) ≡ length (map (piece_entry v) (pieces gs r)) = met_length 0 gs r ∙ sym (length-map (pieces gs r) (piece_entry v)) in
      rw (length-append (gaps_met 0 gs r) (run_gaps gs vs), length-append (map (piece_entry v) (pieces gs r)) (flat_map (gap_entries gs) vs), here, gaps_length vs)

-- ---- no number is past the last gap's
gaps_many : (b : Option Bound) (ivs : List Interval) → length (gaps_from b ivs) ≡ suc (length ivs)
unfolding gaps_from
gaps_many b [] = refl
gaps_many b (iv ∷ ivs) = rw (gaps_many (gap_from iv.end) ivs)

met_bound : (n g : ℕ) (gs : List Range) (r : Range) → g + length gs ≤ suc n → All (λ m. m ≤ n) (gaps_met g gs r)
unfolding gaps_met flat_map
met_bound n g [] r h = tt
met_bound n g (q ∷ gs) r h =
    All-append (λ m. m ≤ n) (flat_map (λ (q : Range). g ∷ []) (listed (intersect r q))) (gaps_met (suc g) gs r) (go (intersect r q))
    (met_bound n (suc g) gs r (omega arith))
  where
    go : (o : Option Range) → All (λ m. m ≤ n) (flat_map (λ (q : Range). g ∷ []) (listed o))
    go none = tt
    go (some q) = (omega arith, tt)

pub run_gaps_bound : (ivs : List Interval) (vs : List View) → All (λ n. n ≤ length ivs) (run_gaps (gaps ivs) vs)
unfolding run_gaps gaps
run_gaps_bound ivs vs =
    All-flatMap (λ v. Unit {0}) (λ n. n ≤ length ivs) (λ v. gaps_met 0 (gaps_from (some unbounded) ivs) (effective v))
    (λ v _. met_bound (length ivs) 0 (gaps_from (some unbounded) ivs) (effective v) (omega (arith, gaps_many (some unbounded) ivs)))
    vs (All-of (λ v. tt) vs)

-- ---- where they lie
later_mono : {s t : Cut} (d : Cut) → s ≼ t → later s d ≼ later t d
later_mono {s} {t} d h =
    elim (order s d) [ inl k ↦ rw (later_right k) (≼-later-right t d) | inr k ↦ rw (later_left (≺-≼ k)) (≼_trans h (≼-later-left t d)) ]

module _ (ivs : List Interval) where
  -- the pieces of a view
  abbrev Of : View → Placed Cut → Type 0
  Of v = Met below ivs (start v)

  view_met : (v : View) → table_passes v ≡ true → All (Of v) (places (gaps ivs) (effective v))
  unfolding gaps
  view_met v h = let s = effective_start_is_held v h in places_met (effective v) s.key s.start (some unbounded) ivs

  -- those of two views of which the first starts no later
  in_step : (v w : View) → start v ≼ start w → (p q : Placed Cut) → Of v p → Of w q → InStep (λ c. c) p q
  in_step v w h p q m n e = rw (m.is, n.is, e) (later_mono (gap_start below ivs q.gap) h)

  pub run_falls : (vs : List View) → All (λ v. table_passes v ≡ true) vs
      → All (λ p. FallsIn from_cut to_cut below ivs p.gap p.item) (placed (run_gaps (gaps ivs) vs) (run_starts (gaps ivs) vs))
  run_falls vs a =
      rw (run_places_lem (gaps ivs) vs)
      (All-flatMap (λ v. table_passes v ≡ true) (λ p. FallsIn from_cut to_cut below ivs p.gap p.item) (λ v. places (gaps ivs) (effective v))
      (λ v h. All-map (λ p m. m.falls) (places (gaps ivs) (effective v)) (view_met v h)) vs a)

  in_step_all : (vs : List View) → All (λ v. table_passes v ≡ true) vs → Sorted start vs
      → Pairwise (InStep (λ c. c)) (flat_map (λ v. places (gaps ivs) (effective v)) vs)
  unfolding flat_map
  in_step_all [] a s = tt
  in_step_all (v ∷ vs) a s =
      let mine = places (gaps ivs) (effective v) in
      let rest = flat_map (λ v. places (gaps ivs) (effective v)) vs in
      Pairwise-append (InStep (λ c. c)) mine rest
      (Pairwise-all (Of v) (InStep (λ c. c)) (in_step v v (≼_refl (start v))) mine (view_met v a.0))
      (in_step_all vs a.1 s.1)
      (All-map {Q = λ p. All (InStep (λ c. c) p) rest} (λ p m.
      All-flatMap (λ w. (start v ≼ start w) × (table_passes w ≡ true)) (InStep (λ c. c) p) (λ w. places (gaps ivs) (effective w))
      (λ w h. All-map (λ q n. in_step v w h.0 p q m n) (places (gaps ivs) (effective w)) (view_met w h.1)) vs
      (All-both {R = λ w. (start v ≼ start w) × (table_passes w ≡ true)} (λ w h k. (h, k)) vs s.0 a.1)) mine (view_met v a.0))

  pub run_in_step : (vs : List View) → All (λ v. table_passes v ≡ true) vs → Sorted start vs
      → Pairwise (InStep (λ c. c)) (placed (run_gaps (gaps ivs) vs) (run_starts (gaps ivs) vs))
  run_in_step vs a s = rw (run_places_lem (gaps ivs) vs) (in_step_all vs a s)
