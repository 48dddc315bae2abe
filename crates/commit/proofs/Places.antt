-- Views in their buckets: the outputs of each interval, and the pieces of each gap.
-- Assumes nothing.
use Prim.Native.Nat.{ℕ, suc, ◌+◌, ◌*◌, ◌≤◌}
use native.Mathlib.Omega.{arith}
use mathlib.Core.Path.{◌≡◌, refl, sym, ap, ◌∙◌}
use mathlib.Core.Option.{Option, none, some}
use mathlib.Core.List.{List, [], ◌∷◌, ◌++◌, map, flat_map}
use lib.ListN.{length, take, drop, length-append, length-drop, length-map}
use lib.Seq.{length-take-le}
use Rattle.base.specs.Lists.{All, All-map, All-append}
use Rattle.records.specs.Values.{View, Part}
use Rattle.incremental_progress.specs.Intervals.{Interval, listed}
use Rattle.incremental_progress.specs.Parts.{durable, intervals, open_key}
use Rattle.incremental_progress.specs.Entries.{Entry, output_entries, part_entries}
use Rattle.incremental_progress.specs.Gaps.{Placed, placed, of_interval}
use Rattle.incremental_progress.specs.Plans.{outputs_of}
use Rattle.commit_outputs.specs.Outputs.{bucketed, output_bucket, after_interval, output_buckets}
use Rattle.commit_plan.specs.Views.{gap_bucket}
use Rattle.commit_write.proofs.Placed.{placed_at, outputs_placed, pieces_placed}

-- ---- items with numbers, part by part
module _ {A : Type 0} where
  pub placed_append : (as' bs : List ℕ) (xs : List A) → length as' ≤ length xs → placed (as' ++ bs) xs ≡ placed as' (take (length as') xs) ++ placed bs (drop (length as') xs)
  unfolding placed
  placed_append [] bs xs h = refl
  placed_append (a ∷ as') bs [] h = absurd (omega arith)
  placed_append (a ∷ as') bs (x ∷ xs) h = ap (λ l. record { gap = a; item = x } ∷ l) (placed_append as' bs xs (omega arith))

  pub placed_length : (bs : List ℕ) (xs : List A) → length bs ≡ length xs → length (placed bs xs) ≡ length xs
  unfolding placed
  placed_length [] [] e = refl
  placed_length [] (x ∷ xs) e = absurd (omega arith)
  placed_length (b ∷ bs) [] e = absurd (omega arith)
  placed_length (b ∷ bs) (x ∷ xs) e = ap suc (placed_length bs xs (omega arith))

  -- pieces have twice the numbers of their gaps
  pub pieces_placed_lem : (gs : List ℕ) (xs : List A) → placed (map gap_bucket gs) xs ≡ pieces_placed (placed gs xs)
  unfolding placed pieces_placed
  pieces_placed_lem [] xs = refl
  pieces_placed_lem (g ∷ gs) [] = refl
  pieces_placed_lem (g ∷ gs) (x ∷ xs) =
      let z : g * 2 ≡ 2 * g = omega arith in
      rw (z, pieces_placed_lem gs xs)

  pub placed_gaps : (P : ℕ → Type 0) (gs : List ℕ) (xs : List A) → All P gs → All (λ p. P p.gap) (placed gs xs)
  unfolding placed
  placed_gaps P [] xs a = tt
  placed_gaps P (g ∷ gs) [] a = tt
  placed_gaps P (g ∷ gs) (x ∷ xs) a = (a.0, placed_gaps P gs xs a.1)

-- ---- outputs
bucketed_length : (b : ℕ) (es : List Entry) → length (bucketed b es) ≡ length es
bucketed_length b es = length-map es (λ (e : Entry). b)

pub output_buckets_length : (i : ℕ) (ps : List Part) → length (output_buckets i ps) ≡ length (flat_map part_entries ps)
unfolding output_buckets flat_map
output_buckets_length i [] = refl
output_buckets_length i (p ∷ ps) =
    length-append (bucketed (output_bucket i) (part_entries p)) (output_buckets (after_interval (durable p) i) ps)
    ∙ (let a = bucketed_length (output_bucket i) (part_entries p) in
    let b = output_buckets_length (after_interval (durable p) i) ps in
    let c = length-append (part_entries p) (flat_map part_entries ps) in
    omega (arith, a, b, c))

one_bucket : (i : ℕ) (es : List Entry) (xs : List View) → length es ≡ length xs → placed (bucketed (output_bucket i) es) xs ≡ map (placed_at (2 * i + 1)) xs
unfolding placed
one_bucket i [] [] e = refl
one_bucket i [] (x ∷ xs) e = absurd (omega arith)
one_bucket i (y ∷ es) [] e = absurd (omega arith)
one_bucket i (y ∷ es) (x ∷ xs) e =
    let z : i * 2 + 1 ≡ 2 * i + 1 = omega arith in
    ap (λ b. placed_at b x ∷ placed (bucketed (output_bucket i) es) xs) z ∙ ap (λ l. placed_at (2 * i + 1) x ∷ l) (one_bucket i es xs (omega arith))

-- a part without an interval has no entries
part_placed : (i : ℕ) (p : Part) (vs : List View) (outs : List (List View)) → length (part_entries p) ≤ length vs
    → placed (bucketed (output_bucket i) (part_entries p)) (take (length (part_entries p)) vs) ++ outputs_placed (after_interval (durable p) i) outs
    ≡ outputs_placed i (of_interval (durable p) (take (length (part_entries p)) vs) ++ outs)
unfolding part_entries flat_map outputs_placed placed
part_placed i p vs outs h = go (durable p) h
  where
    entries : Option Interval → List Entry
    entries o = flat_map (λ iv. flat_map (output_entries (open_key p) iv) p.outputs) (listed o)

    go : (o : Option Interval) → length (entries o) ≤ length vs
        → placed (bucketed (output_bucket i) (entries o)) (take (length (entries o)) vs) ++ outputs_placed (after_interval o i) outs
        ≡ outputs_placed i (of_interval o (take (length (entries o)) vs) ++ outs)
    go none l = refl
    go (some iv) l =
        ap (λ z. z ++ outputs_placed (suc i) outs)
        (one_bucket i (entries (some iv)) (take (length (entries (some iv))) vs) (sym (length-take-le (length (entries (some iv))) vs l)))

pub outputs_placed_lem : (i : ℕ) (ps : List Part) (vs : List View) → length vs ≡ length (flat_map part_entries ps)
    → placed (output_buckets i ps) vs ≡ outputs_placed i (outputs_of ps vs)
unfolding output_buckets flat_map outputs_of outputs_placed placed
outputs_placed_lem i [] vs e = refl
outputs_placed_lem i (p ∷ ps) vs e =
    let n = length (part_entries p) in
    let b = bucketed (output_bucket i) (part_entries p) in
    let l = length-append (part_entries p) (flat_map part_entries ps) in
    let m : length b ≡ n = bucketed_length (output_bucket i) (part_entries p) in
    let after : length (drop n vs) ≡ length (flat_map part_entries ps) = length-drop n vs ∙ omega (arith, e, l) in
    placed_append b (output_buckets (after_interval (durable p) i) ps) vs (omega (arith, e, l, m))
    ∙ ap (λ k. placed b (take k vs) ++ placed (output_buckets (after_interval (durable p) i) ps) (drop k vs)) m
    ∙ ap (λ z. placed b (take n vs) ++ z) (outputs_placed_lem (after_interval (durable p) i) ps (drop n vs) after)
    ∙ part_placed i p vs (outputs_of ps (drop n vs)) (omega (arith, e, l))

-- ---- how large the buckets are
pub intervals_few : (ps : List Part) → length (intervals ps) ≤ length ps
unfolding intervals flat_map
intervals_few [] = omega arith
intervals_few (p ∷ ps) = go (durable p) (intervals_few ps)
  where
    go : (o : Option Interval) → length (intervals ps) ≤ length ps → length (listed o ++ intervals ps) ≤ suc (length ps)
    go none h = omega arith
    go (some iv) h = omega arith

module _ {A : Type 0} where
  one_small : (b m : ℕ) (xs : List A) → b ≤ m → All (λ p. p.gap ≤ m) (map (placed_at b) xs)
  one_small b m [] h = tt
  one_small b m (x ∷ xs) h = (h, one_small b m xs h)

  pub outputs_small : (i : ℕ) (outs : List (List A)) → All (λ p. p.gap ≤ 2 * (i + length outs)) (outputs_placed i outs)
  unfolding outputs_placed
  outputs_small i [] = tt
  outputs_small i (os ∷ outs) =
      All-append (λ p. p.gap ≤ 2 * (i + suc (length outs))) (map (placed_at (2 * i + 1)) os) (outputs_placed (suc i) outs)
      (one_small (2 * i + 1) (2 * (i + suc (length outs))) os (omega arith))
      (All-map (λ p h. let l : p.gap ≤ 2 * (suc i + length outs) = h in omega arith) (outputs_placed (suc i) outs) (outputs_small (suc i) outs))

  pub pieces_small : (n : ℕ) (ps : List (Placed A)) → All (λ p. p.gap ≤ n) ps → All (λ p. p.gap ≤ 2 * n) (pieces_placed ps)
  unfolding pieces_placed
  pieces_small n [] a = tt
  pieces_small n (p ∷ ps) a = (let l : p.gap ≤ n = a.0 in omega arith, pieces_small n ps a.1)
